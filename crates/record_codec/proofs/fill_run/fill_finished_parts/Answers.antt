use Rattle.std.proofs.lemmas.Result.{on_ok_weaker}
use Rattle.record_codec.proofs.Made.{outcome_is}
use Rattle.record_codec.proofs.fill_run.fill_finished_parts.Goals as goal

pub returns : goal.returns
returns c =
    on_ok_weaker c.fill_output.result
    (λ is len shown h.
    outcome_is shown c.fill_elements.new.elements c.fill_output.new.output (c.in_ok-fill_elements.ensures len shown h)
    (is c.args.view.format c.args.view.elements c.args.view.elements_at len shown h)) c.fill_output.ensures
