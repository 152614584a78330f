-- Records that lie one after another, and slots over them.
use Rattle.std.specs.Prelude.{ℕ, List, [], ◌∷◌, length, map, take, drop, None, slice_get}
use Rattle.det_io.specs.Shelf.{ShelfState}
use Rattle.page.specs.declared.lent_shelf.LentShelf.{LentShelf}

-- the records of these lengths, as far as there are bytes
abbrev pub records_in : List ℕ → List ℕ → List (List ℕ)
records_in bytes [] = []
records_in bytes (n ∷ lengths) = take n bytes ∷ records_in (drop n bytes) lengths

-- slots that have these bytes left, and that never fail
abbrev pub lent_state : List (List ℕ) → ShelfState
lent_state rests = record {
  slots = length rests;
  faults = 0;
  holds = λ name. None;
  asked = None;
  left = slice_get rests;
}

-- what a shelf has left
abbrev pub rests_of : LentShelf → List (List ℕ)
rests_of shelf = map (λ rest. rest.now) shelf.rests.items
