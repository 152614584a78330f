-- The rule on the table of a pass. It holds between any two steps of the workers.
use Rattle.std.specs.Prelude.{◌≡◌, ℕ, ◌+◌, ◌≤◌, ◌<◌, List, [], length, slice_index}
use mathlib.Core.Option.{some}
use lib.ListN.{get_elem?}
use Rattle.atomic_table.specs.Table.{State}
use Rattle.worker_pool.specs.declared.pool_view.PoolView.{PoolView}
use Rattle.worker_pool.specs.Views.{times, least_of, Below, SkipsAbove, total, all_shares}

-- the words, and the views of all seats
abbrev pub PoolState : Type 0
PoolState = State (Unit {0}) PoolView

-- one view fits the words
pub record Fits (words : List ℕ) (v : PoolView) : Type 0 where
  -- each of its blocks is one that it has seen
  pub below : Below v.seen v.entries
  -- a block that it has seen was claimed
  pub tried : (b : ℕ) → b < v.seen → slice_index words (b + 1) ≡ 1
  -- a block is skipped only above a refusal
  pub skips : SkipsAbove (slice_index words 0) v.entries
  -- a seat that was joined to another knows nothing
  pub idle : v.shares ≡ 0 → (v.entries ≡ []) × (v.seen ≡ 0)

-- Word 0 is the least Reported block. Word b + 1 is the number of entries of block b in all views:
-- 1 if it was claimed, else 0. Blocks are claimed in order.
pub record Ruled (blocks : ℕ) (s : PoolState) : Type 0 where
  pub sized : length s.words ≡ blocks + 1
  pub counted : (b : ℕ) → total (λ v. times b v.entries) s.views ≡ slice_index s.words (b + 1)
  pub once : (b : ℕ) → slice_index s.words (b + 1) ≤ 1
  pub ordered : (b c : ℕ) → c < b → slice_index s.words (b + 1) ≡ 1
      → slice_index s.words (c + 1) ≡ 1
  pub least : slice_index s.words 0 ≡ least_of s.views
  pub fits : (id : ℕ) (v : PoolView) → get_elem? s.views id ≡ some v → Fits s.words v
  pub whole : total (λ v. v.shares) s.views ≡ all_shares
