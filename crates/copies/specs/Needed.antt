-- No byte of a copy is read after the row that decides.
use Rattle.std.specs.Prelude.{◌≡◌, ℕ, ◌≤◌, List, [], ◌∷◌, length, None}
use Rattle.std.specs.List.{AllByRecursion}
use Rattle.det_io.specs.Shelf.{ShelfState, Gave}
use Rattle.record_grammar.specs.Record.{items, fault_so_far}
use Rattle.record_reader.specs.item_reader.Needed.{ReadsWhile}
use Rattle.copies.specs.Verdict.{shared_by}

-- before the last of these bytes was read, no row after this number of items could be seen
abbrev pub IsNeeded : ℕ → List ℕ → Type 0
IsNeeded n read = ReadsWhile
    (λ first. (length (items first) ≤ n) × (fault_so_far first ≡ None)) read

-- what a slot gave is needed
abbrev pub GaveNeeded : ShelfState → ShelfState → ℕ → ℕ → Type 0
GaveNeeded first now n slot = (read : List ℕ) × Gave first now slot read × IsNeeded n read

abbrev pub AllNeeded : ShelfState → ShelfState → ℕ → List ℕ → Type 0
AllNeeded first now n slots = AllByRecursion (GaveNeeded first now n) slots

-- the number of items that all copies share; the row after them decides
abbrev pub shared_rows : List (List ℕ) → ℕ
shared_rows [] = 0
shared_rows (first ∷ others) = length (shared_by (items first) others)
