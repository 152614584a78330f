use Rattle.std.proofs.Common.{ℕ, ◌++◌, ◌≡◌, sym, subst}
use Rattle.det_values.specs.declared.format.Format.{Format}
use Rattle.record_grammar.specs.Places.{format_of}
use Rattle.record_view.specs.Shows.{ShowsInput, ShowsOutcome}
use Rattle.record_text.specs.Records.{outcome_lines}
use Rattle.std.proofs.lemmas.Result.{on_ok_weaker}
use Rattle.record_text.proofs.Viewed.{run_put}
use Rattle.record_text.proofs.frame_lines.put_run_lines.Goals as goal

pub returns : goal.returns
returns c =
    on_ok_weaker c.put_outcome_lines.result
    (λ put len run input outcome.
    let events = c.events_at.ensures in
    let format = c.format_at.ensures in
    run_put (format_of c.args.place) c.args.cycle run c.args.input.time c.view_samples.result _ _ _ _ input.time
    (c.view_samples.ensures.is run.input (subst (λ (n : ℕ). ShowsInput n c.args.input c.args.bytes.now run.input) (sym events) input))
    c.in_ok-put_run_line.ensures c.in_ok-put_sample_lines.ensures
    (subst (λ (f : Format). c.put_outcome_lines.new.out.items ≡ c.put_sample_lines.new.out.items ++ outcome_lines f run.outcome) format
    (put len run.outcome
    (subst (λ (f : Format). ShowsOutcome f c.args.outcome len c.args.bytes.now run.outcome) (sym format) outcome))))
    c.put_outcome_lines.ensures
