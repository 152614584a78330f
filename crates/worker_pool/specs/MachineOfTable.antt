-- The state of the machine that a table shows.
use Rattle.std.specs.Prelude.{◌≡◌, ℕ, ◌+◌, ◌<◌, slice_index}
use mathlib.Core.Option.{some}
use lib.ListN.{get_elem?}
use Rattle.worker_pool.specs.declared.pool_view.Mark.{Mark}
use Rattle.worker_pool.specs.declared.pool_view.PoolView.{PoolView}
use Rattle.worker_pool.specs.Views.{Stands}
use Rattle.worker_pool.specs.Rule.{PoolState, Ruled}
use Rattle.worker_pool.specs.Machine.{Machine, Has, next}

-- word 0 is the least reported block, the claimed blocks are those whose word is 1, and the mark of
-- each entry is its block's
pub record Shows (s : PoolState) (m : Machine) : Type 0 where
  pub least : m.least ≡ slice_index s.words 0
  pub claimed : (b : ℕ) → b < next m → slice_index s.words (b + 1) ≡ 1
  pub counted : (b : ℕ) → slice_index s.words (b + 1) ≡ 1 → b < next m
  pub marks : (id : ℕ) (v : PoolView) (b : ℕ) (k : Mark) → get_elem? s.views id ≡ some v
      → Stands b k v.entries → Has m b k

-- after a step the rule holds, and the table shows this state of the machine
abbrev pub Becomes : ℕ → PoolState → Machine → Type 0
Becomes blocks s m = Ruled blocks s × Shows s m

-- before a step: a seat of a table that is under the rule and shows this state of the machine
pub record At (blocks : ℕ) (s : PoolState) (id : ℕ) (v : PoolView) (m : Machine) : Type 0 where
  pub ruled : Ruled blocks s
  pub seat : get_elem? s.views id ≡ some v
  pub shares : 0 < v.shares
  pub shows : Shows s m
