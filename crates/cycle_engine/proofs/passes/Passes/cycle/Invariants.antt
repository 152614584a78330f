use Rattle.std.proofs.Common.{◌≡◌, ◌-◌, ◌*◌, ◌≤◌, length, Ok}
use Rattle.std.specs.List.{All}
use Rattle.std.specs.Arc.{arc_value}
use Rattle.cycle_engine.specs.PhaseResults.{left_by}
use Rattle.job.specs.Cycle.{all_passes, passes_on, shown_with}
use Rattle.cycle_engine.proofs.passes.Passes.cycle.Given as goal

abbrev pub invariant-loop-number : goal.invariant-loop-number
invariant-loop-number g l = let b = g.J.Job in let s = l.self in let job = s.job in let plan = s.plan in record {
  count : l.number-end ≡ b.meaning.passes_of job plan;
  rest : all_passes b.meaning job plan s.seed s.cycle (arc_value l.fn.elements)
      ≡ passes_on b.meaning job plan s.seed s.cycle (l.number-end - l.number) l.number (Ok (left_by l.done));
  many : length l.done.elements ≡ length (arc_value l.fn.elements);
  own : All (b.Own job) l.done.elements;
  drew : length l.done.draws ≡ length l.done.elements;
  few_drawn : All (λ n. n ≤ l.number * 65535) l.done.draws;
  shown : l.number ≡ b.meaning.passes_of job plan → l.done.shown ≡ shown_with b.meaning job l.done.elements l.done.draws;
  covers : b.Covers job l.done.part (length l.done.elements);
}
