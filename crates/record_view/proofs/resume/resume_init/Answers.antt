use Rattle.std.proofs.Common.{◌≡◌, ◌+◌, length, drop, subst, arith, length-drop}
use Rattle.record_grammar.proofs.Steady.{steady_many}
use Rattle.record_grammar.proofs.SteadyFields.{element_steady}
use Rattle.std.proofs.lemmas.List.{drop-drop}
use Rattle.record_grammar.specs.Read.{many}
use Rattle.record_view.specs.Gives.{Stops}
use Rattle.record_grammar.specs.Grammar.{element_at}
use Rattle.record_view.specs.Skips.{IsSkip, Ended}
use Rattle.record_view.proofs.Viewing.{stop_fits, init_goes, init_whole, init_stops}
use Rattle.record_view.proofs.resume.resume_init.Goals as goal

pub returns-in-None-clause-viewed : goal.returns-in-None-clause-viewed
returns-in-None-clause-viewed c h =
    let skip = c.skip_elements-skip.result in
    let p : IsSkip element_at c.args.left skip (drop c.args.read c.args.bytes.now) = rw c.rest_of.ensures at c.skip_elements-skip.ensures in
    let none : skip.left ≡ 0 = subst (λ s. Ended element_at s skip.left (drop skip.read
    (drop c.args.read c.args.bytes.now))) c.in-None.is p.ended in
    rw c.whole_step.ensures (init_whole c.args.place c.args.elements skip.left (c.args.read + skip.read) c.args.bytes.now (omega (
      arith,
      none,
    ))
    (init_goes c.args.place c.args.elements c.args.left c.args.read c.args.bytes.now skip h p))

pub returns-in-Some-clause-viewed : goal.returns-in-Some-clause-viewed
returns-in-Some-clause-viewed c h =
    let skip = c.skip_elements-skip.result in
    let p : IsSkip element_at c.args.left skip (drop c.args.read c.args.bytes.now) = rw c.rest_of.ensures at c.skip_elements-skip.ensures in
    let s : Stops c.in-Some.stop (many element_at skip.left (drop skip.read (drop c.args.read c.args.bytes.now))) =
    subst (λ s. Ended element_at s skip.left (drop skip.read (drop c.args.read c.args.bytes.now))) c.in-Some.is p.ended in
    rw c.stopped_step.ensures (init_stops c.args.place c.args.elements skip.left (c.args.read + skip.read) c.args.bytes.now c.in-Some.stop
    (init_goes c.args.place c.args.elements c.args.left c.args.read c.args.bytes.now skip h p)
    (rw drop-drop at s))

pub returns-in-None-clause-fits : goal.returns-in-None-clause-fits
returns-in-None-clause-fits c =
    let p : IsSkip element_at c.args.left c.skip_elements-skip.result (drop c.args.read c.args.bytes.now) =
    rw c.rest_of.ensures at c.skip_elements-skip.ensures in
    rw c.whole_step.ensures (omega (arith, p.continues.in_range, length-drop c.args.read c.args.bytes.now))

pub returns-in-Some-clause-fits : goal.returns-in-Some-clause-fits
returns-in-Some-clause-fits c =
    let skip = c.skip_elements-skip.result in
    let p : IsSkip element_at c.args.left skip (drop c.args.read c.args.bytes.now) = rw c.rest_of.ensures at c.skip_elements-skip.ensures in
    let s : Stops c.in-Some.stop (many element_at skip.left (drop skip.read (drop c.args.read c.args.bytes.now))) =
    subst (λ s. Ended element_at s skip.left (drop skip.read (drop c.args.read c.args.bytes.now))) c.in-Some.is p.ended in
    rw c.stopped_step.ensures (stop_fits (many element_at skip.left) (steady_many element_at element_steady skip.left) c.in-Some.stop
    (drop (c.args.read + skip.read) c.args.bytes.now) _ (length c.args.bytes.now)
    (omega (arith, p.continues.in_range, length-drop c.args.read c.args.bytes.now))
    (omega (arith, length-drop (c.args.read + skip.read) c.args.bytes.now)) (rw drop-drop at s))
