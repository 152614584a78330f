use Rattle.std.proofs.Common.{◌∙◌}
use Rattle.cmd_run.proofs.lemmas.sim_command.Simulated.{takes-params, is-whole, text-is, saw-all}
use Rattle.cmd_run.proofs.sim_command.sim_lines.sim_text.Goals as goal

pub summarize_run-requires-clause-good : goal.summarize_run-requires-clause-good
summarize_run-requires-clause-good g c = takes-params c.args.number c.in_ok-profile.profile c.in_ok-profile.ensures

pub summarize_run-requires-clause-whole : goal.summarize_run-requires-clause-whole
summarize_run-requires-clause-whole g c =
    is-whole c.args.number c.in_ok-profile.profile c.in_ok-profile.ensures c.in_ok-stimulus.stimulus c.in_ok-stimulus.ensures

pub returns-clause-text : goal.returns-clause-text
returns-clause-text g c =
    text-is c.args.number c.in_ok-profile.profile c.in_ok-profile.ensures (λ lines. lines.items) c.sim_output_lines.result _
    c.in_ok-stimulus.stimulus _
    c.in_ok-summary.summary c.in_ok-stimulus.ensures c.in_ok-summary.ensures.summary
    (c.reports.ensures ∙ c.in_ok-finish.ensures.left ∙ c.in_ok-summary.ensures.reports) c.sim_output_lines.ensures

pub returns-clause-saw : goal.returns-clause-saw
returns-clause-saw g c =
    saw-all c.sim_output_lines.result c.args.number c.in_ok-profile.profile c.in_ok-profile.ensures c.in_ok-stimulus.stimulus
    c.in_ok-stimulus.ensures _ _ _ c.in_ok-summary.ensures.reports c.in_ok-finish.ensures.left c.finish.ensures.none
