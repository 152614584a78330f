-- A table as it is made, and after a step.
use Rattle.std.specs.Prelude.{ℕ, ◌+◌, List, [], replicate, slice_set}
use Rattle.atomic_table.specs.Table.{opening, stepped, keeps}
use Rattle.worker_pool.specs.declared.pool_view.PoolView.{PoolView}
use Rattle.worker_pool.specs.Rule.{PoolState}
use Rattle.worker_pool.specs.Views.{fresh, no_block, all_shares}

-- no block was reported, none was claimed, and one seat has all shares
abbrev pub begun : ℕ → PoolState
begun blocks = opening (slice_set (replicate (blocks + 1) 0) 0 no_block) [] (fresh all_shares)

-- a word has a new value, and the seat a new view
abbrev pub moved : PoolState → ℕ → ℕ → ℕ → PoolView → PoolState
moved s word n id w = stepped s word n id [] w keeps

-- the same words, and other views
abbrev pub regrouped : PoolState → List PoolView → PoolState
regrouped s views = record { words = s.words; homes = s.homes; views = views }
