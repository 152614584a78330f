use Rattle.std.proofs.Common.{◌≡◌, suc, ◌+◌, ◌-◌, Ok, ◌∙◌, ap, arith}
use Rattle.job.specs.Cycle.{passes_on}
use Rattle.cycle_engine.specs.PhaseResults.{left_by}
use Rattle.cycle_engine.proofs.passes.Passes.cycle.Goals as goal

pub loop-number-preserved : goal.loop-number-preserved
loop-number-preserved g c =
    let s = c.args.self.now in let so_far = c.loop-number.invariant in let next = c.in_ok-done-2.ensures in
    let rest = passes_on g.J.Job.meaning s.job s.plan s.seed s.cycle in
    let n = c.loop-number.number in let end = c.passes-number-end.result in
    let left : end - n ≡ suc (end - (n + 1)) = omega (arith, c.loop-number-test.true) in record {
      count = so_far.count;
      rest = so_far.rest ∙ ap (λ k. rest k n (Ok (left_by c.loop-number.done))) left ∙ ap (rest (end - (n + 1)) (n + 1)) next.pass;
      many = next.many ∙ so_far.many;
      own = next.own;
      drew = next.drew;
      few_drawn = next.few_drawn;
      shown = next.shown;
      covers = next.covers;
    }
