use Rattle.std.proofs.Common.{refl, sym, ap, ◌∙◌}
use Rattle.std.specs.Prelude.{Result}
use Rattle.manifest.specs.Values.{ManifestValue}
use Rattle.cli_answers.specs.declared.answer.BadManifest.{BadManifest}
use Rattle.cli_answers.specs.Outcome.{Outcome, known_bytes, text_outcome}
use Rattle.cli_answers.proofs.AnswerMeets.{meets-whole}
use Rattle.run_setup.proofs.Ending.{meets-end, can-end}
use Rattle.run_setup.specs.Setup.{with_manifest}
use Rattle.needs_text.specs.Lines.{needs_lines}
use Rattle.cmd_run.specs.needs_command.Needs.{needs_work, job_name}
use Rattle.cmd_run.proofs.needs_command.manifest_needs.needs.Goals as goal

-- the lines of the manifest that a text is, or its refusal
abbrev needs_from : Result ManifestValue BadManifest → Outcome
needs_from = with_manifest (λ m. text_outcome (needs_lines (job_name m.kind) m.cycle_time m.workers m.platform m.init_needs m.run_needs))

pub returns-in-Err-clause-meets : goal.returns-in-Err-clause-meets
returns-in-Err-clause-meets g c =
    let bytes = known_bytes (g.S.Slots.sees c.args.shelf.now) c.args.name.now in
    rw c.from.ensures
    (meets-end needs_from (λ why. refl) c.args.strict bytes _ _ _ _ _ c.in-Err.end c.in-Err.ensures.refused
    c.in-Err.ensures.traffic.cause c.in-Err.ensures.writes_nothing)

pub returns-in-Err-clause-ends : goal.returns-in-Err-clause-ends
returns-in-Err-clause-ends g c = rw c.from.ensures (can-end c.in-Err.end needs_work refl)

pub returns-in-Ok-write_all-clause-meets : goal.returns-in-Ok-write_all-clause-meets
returns-in-Ok-write_all-clause-meets g c =
    meets-whole _ _ _ _ _ c.as_slice.result.now (λ e. cc) (λ e. cc)
    (λ is_known. ap needs_from (c.in-Ok.ensures.manifest is_known) ∙ ap text_outcome (sym (c.as_slice.ensures.bytes
    ∙ c.needs_lines-lines.ensures)))
    c.in-Ok-write_all.ensures.all
