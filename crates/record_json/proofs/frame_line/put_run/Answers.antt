use Rattle.std.proofs.Common.{ℕ, ◌++◌, ◌≡◌, sym, subst}
use Rattle.std.proofs.lemmas.Result.{on_ok_weaker}
use Rattle.det_values.specs.declared.format.Format.{Format}
use Rattle.record_grammar.specs.Places.{format_of}
use Rattle.record_view.specs.Shows.{ShowsInput, ShowsOutcome}
use Rattle.record_json.specs.Records.{outcome_text}
use Rattle.record_json.proofs.Viewed.{run_put}
use Rattle.record_json.proofs.frame_line.put_run.Goals as goal

pub returns : goal.returns
returns c =
    on_ok_weaker c.put_outcome.result
    (λ put len run input outcome.
    let events = c.events_at.ensures in
    let format = c.format_at.ensures in
    run_put (format_of c.args.place) c.args.layout c.args.cycle run c.args.views.0.time c.view_samples-samples.result _ _ _ input.time
    (c.view_samples-samples.ensures.is run.input (subst (λ (n : ℕ). ShowsInput n c.args.views.0 c.args.bytes.now run.input) (sym events) input))
    c.in_ok-put_input.ensures
    (subst (λ (f : Format). c.put_outcome.new.out.items ≡ c.put_input.new.out.items ++ outcome_text f c.args.layout run.outcome) format
    (put len run.outcome
    (subst (λ (f : Format). ShowsOutcome f c.args.views.1 len c.args.bytes.now run.outcome) (sym format) outcome))))
    c.put_outcome.ensures
