use Rattle.std.proofs.Common.{ap, List, ℕ}
use Rattle.job.specs.Passes.{drawn_so_far}
use Rattle.pass_in_blocks.proofs.Shows.{as_added}
use Rattle.cycle_engine.proofs.draws.Draws.new.Goals as goal

pub returns-clause-first : goal.returns-clause-first
returns-clause-first c none = ap (λ (xs : List ℕ). drawn_so_far xs c.args.own) none

pub returns-clause-later : goal.returns-clause-later
returns-clause-later c same = as_added _ _ same
