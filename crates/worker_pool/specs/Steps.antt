-- The facts that each step gives to its worker.
use Rattle.std.specs.Prelude.{◌≡◌, ℕ, ◌<◌, ◌≤◌, ◌⊎◌, min, slice_index}
use mathlib.Core.Option.{some}
use lib.ListN.{get_elem?}
use Rattle.atomic_table.specs.Table.{Me, Step}
use Rattle.worker_pool.specs.declared.pool_view.PoolView.{PoolView}
use Rattle.worker_pool.specs.declared.pool_view.Mark.TheVariants.{Finished, Reported, Skipped}
use Rattle.worker_pool.specs.Views.{taken, passed, with_mark, least_in}
use Rattle.worker_pool.specs.declared.seat.PassTable.{PassTable}
use Rattle.worker_pool.specs.declared.seat.PassSeat.{PassSeat}
use Rattle.worker_pool.specs.Handles.{view_of, number_of, block_count}
use Rattle.worker_pool.specs.Rule.{PoolState, Ruled}
use Rattle.worker_pool.specs.Moves.{moved}

abbrev Here : Type 0
Here = Me (Unit {0}) PoolView

-- Some table keeps the rule, has the view v at this seat and `found` as the word. With the word
-- `left` and the view w it keeps the rule again.
abbrev pub Turn : ℕ → ℕ → PoolView → PoolView → ℕ → ℕ → ℕ → Type 0
Turn blocks id v w word found left =
    (s : PoolState) × Ruled blocks s × (get_elem? s.views id ≡ some v)
    × (slice_index s.words word ≡ found)
    × Ruled blocks (moved s word left id w)

-- such a step of a seat on a word of its table
abbrev pub TurnOf : PassTable → PassSeat → PassSeat → ℕ → ℕ → ℕ → Type 0
TurnOf table before after word found left =
    Turn (block_count table) (number_of before) (view_of before) (view_of after) word found left

module _ (blocks id : ℕ) where
  abbrev pub claims : Step (Unit {0}) → Here → ℕ → Here → Type 0
  claims st m n m' = (m'.1 ≡ m.1) × Turn blocks id m.0 m'.0 st.word n 1
      × (((n ≡ 0) × (m'.0 ≡ taken m.0)) ⊎ ((n ≡ 1) × (m'.0 ≡ passed m.0)))

  abbrev pub finishes : ℕ → Step (Unit {0}) → Here → ℕ → Here → Type 0
  finishes b st m n m' = (m'.1 ≡ m.1) × Turn blocks id m.0 m'.0 0 n n
      × (m'.0 ≡ with_mark b Finished m.0)

  abbrev pub looks : ℕ → Step (Unit {0}) → Here → ℕ → Here → Type 0
  looks b st m n m' = (m'.1 ≡ m.1) × Turn blocks id m.0 m'.0 0 n n × (n ≤ least_in m.0.entries)
      × (((n < b) × (m'.0 ≡ with_mark b Skipped m.0)) ⊎ ((b ≤ n) × (m'.0 ≡ m.0)))

  abbrev pub reports : ℕ → Step (Unit {0}) → Here → ℕ → Here → Type 0
  reports b st m n m' = (m'.1 ≡ m.1) × Turn blocks id m.0 m'.0 0 n (min n b)
      × (m'.0 ≡ with_mark b Reported m.0)
