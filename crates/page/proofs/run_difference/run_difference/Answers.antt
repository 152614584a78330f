use Rattle.std.proofs.Common.{ℕ, List, nat_eq, sym, ap, subst, ◌∙◌}
use Rattle.std.specs.Option.{option_eq}
use Rattle.std.specs.Cmp.Lexicographic.{pointwise}
use Rattle.det_values.specs.Values.{SampleValue}
use Rattle.det_values.specs.contracts.sample.SamplePartialEq.TheImpl as sample
use Rattle.record_view.specs.Shows.{ShowsInput}
use Rattle.page.specs.Differences.{unless, time_and_samples, with_outcomes}
use Rattle.page.specs.declared.run_difference.PageDifference.{PageDifference}
use Rattle.page.proofs.run_difference.run_difference.Goals as goal

pub returns : goal.returns
returns c a b h k =
    let left = c.args.left in
    let right = c.args.right in
    let ours = c.view_samples-samples.ensures.is a.input
    (subst (λ (events : ℕ). ShowsInput events left.input left.bytes.now a.input) (sym c.events_at.ensures) h.input_is) in
    let theirs = c.view_samples-others.ensures.is b.input
    (subst (λ (events : ℕ). ShowsInput events right.input right.bytes.now b.input) (sym c.events_at-2.ensures) k.input_is) in
    let times = c.eq.ensures ∙ ap (λ t. option_eq nat_eq t right.input.time) (sym h.input_is.time)
    ∙ ap (λ t. option_eq nat_eq a.input.time t) (sym k.input_is.time) in
    let samples = c.are_same_samples.ensures
    ∙ ap (λ (xs : List SampleValue). pointwise sample.eq-value.it xs c.view_samples-others.result) ours
    ∙ ap (λ (ys : List SampleValue). pointwise sample.eq-value.it a.input.samples ys) theirs in
    c.add_outcomes.ensures a.outcome b.outcome (c.outcome.ensures a h) (c.outcome-2.ensures b k)
    ∙ ap (λ (found : PageDifference). with_outcomes found c.args.per_mark a.outcome b.outcome)
    (c.time_and_samples-found.ensures
    ∙ ap (λ (t : ℕ). time_and_samples t c.unless-samples.result) (c.unless-time.ensures ∙ ap unless times)
    ∙ ap (λ (s : ℕ). time_and_samples (unless (option_eq nat_eq a.input.time b.input.time)) s)
    (c.unless-samples.ensures ∙ ap unless samples))
