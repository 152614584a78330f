-- A worker's facts about a pass: an entry for each block that it claimed, the blocks that it has
-- seen, and its shares of the table.
use Rattle.std.specs.Prelude.{◌≡◌, ℕ, ◌+◌, ◌-◌, ◌<◌, ◌≤◌, ◌==◌, min, max, cond, List, [], ◌∷◌, ◌++◌}
use Rattle.std.specs.Prelude.{◌⊎◌, Bool, true, false}
use Rattle.worker_pool.specs.declared.pool_view.Mark.{Mark}
use Rattle.worker_pool.specs.declared.pool_view.Mark.TheVariants.{Open, Finished, Reported, Skipped}
use Rattle.worker_pool.specs.declared.pool_view.PoolEntry.{PoolEntry}
use Rattle.worker_pool.specs.declared.pool_view.PoolView.{PoolView}

abbrev pub entry : ℕ → Mark → PoolEntry
entry b m = record { block = b; mark = m }

abbrev pub view : List PoolEntry → ℕ → ℕ → PoolView
view es seen shares = record { entries = es; seen = seen; shares = shares }

-- above every block: 2^64 - 1, which word 0 holds while no block was reported
abbrev pub no_block : ℕ
no_block = 18446744073709551615

-- a seat may be split for as many workers as it has shares
abbrev pub all_shares : ℕ
all_shares = 64

-- the number of entries of a block
abbrev pub times : ℕ → List PoolEntry → ℕ
times b [] = 0
times b (e ∷ es) = cond (e.block == b) 1 0 + times b es

-- the block where its mark is Reported
abbrev pub reported : Mark → ℕ → ℕ
reported Open b = no_block
reported Finished b = no_block
reported Reported b = b
reported Skipped b = no_block

-- the least Reported block, or `no_block`
abbrev pub least_in : List PoolEntry → ℕ
least_in [] = no_block
least_in (e ∷ es) = min (reported e.mark e.block) (least_in es)

-- the entries have this block with this mark
abbrev pub Stands : ℕ → Mark → List PoolEntry → Type 0
Stands b m [] = ⊥
Stands b m (e ∷ es) = (e ≡ entry b m) ⊎ Stands b m es

-- the entries, with this mark at the block
abbrev pub marked : ℕ → Mark → List PoolEntry → List PoolEntry
marked b m [] = []
marked b m (e ∷ es) = cond (e.block == b) (entry e.block m) e ∷ marked b m es

abbrev pub Below : ℕ → List PoolEntry → Type 0
Below n [] = Unit {0}
Below n (e ∷ es) = (e.block < n) × Below n es

abbrev pub IsAbove : Mark → ℕ → ℕ → Type 0
IsAbove Open n b = Unit {0}
IsAbove Finished n b = Unit {0}
IsAbove Reported n b = Unit {0}
IsAbove Skipped n b = n < b

-- each Skipped block is above n
abbrev pub SkipsAbove : ℕ → List PoolEntry → Type 0
SkipsAbove n [] = Unit {0}
SkipsAbove n (e ∷ es) = IsAbove e.mark n e.block × SkipsAbove n es

-- over all views
abbrev pub total : (PoolView → ℕ) → List PoolView → ℕ
total f [] = 0
total f (v ∷ vs) = f v + total f vs

abbrev pub least_of : List PoolView → ℕ
least_of [] = no_block
least_of (v ∷ vs) = min (least_in v.entries) (least_of vs)

-- the views that the steps make
abbrev pub taken : PoolView → PoolView
taken v = view (v.entries ++ entry v.seen Open ∷ []) (v.seen + 1) v.shares

abbrev pub passed : PoolView → PoolView
passed v = view v.entries (v.seen + 1) v.shares

abbrev pub with_mark : ℕ → Mark → PoolView → PoolView
with_mark b m v = view (marked b m v.entries) v.seen v.shares

-- the mark of a block that was run, by whether it refused
abbrev pub mark_after : Bool → Mark
mark_after true = Reported
mark_after false = Finished

-- a seat that has seen nothing
abbrev pub IsNew : PoolView → Type 0
IsNew v = (v.entries ≡ []) × (v.seen ≡ 0)

abbrev pub fresh : ℕ → PoolView
fresh shares = view [] 0 shares

abbrev pub joined : PoolView → PoolView → PoolView
joined v w = view (v.entries ++ w.entries) (max v.seen w.seen) (v.shares + w.shares)

-- a seat that gave one of its shares to a new seat, and the new seat
abbrev pub one_less : PoolView → PoolView
one_less v = view v.entries v.seen (v.shares - 1)

abbrev pub newcomer : PoolView
newcomer = fresh 1
