use Rattle.det_values.specs.Spelling.{elements_in}
use Rattle.det_values.proofs.Undrawing.{Undrawing}
use Rattle.det_values.proofs.clear_draws.clear_all_draws.Given as goal

abbrev pub invariant-loop : goal.invariant-loop
invariant-loop l = Undrawing (elements_in l.count l.fn.bytes) l.counter l.at l.bytes
