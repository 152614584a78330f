-- A shelf over one text as contracts see it.
use Rattle.std.specs.Prelude.{ℕ, List, [], ◌∷◌, drop, None, slice_get}
use Rattle.det_io.specs.Shelf.{ShelfState}
use Rattle.det_io.specs.declared.text_shelf.TextShelf.{TextShelf}

-- one slot, slot 0, with this rest; names are not known
abbrev pub one_slot : List ℕ → ShelfState
one_slot rest = record {
  slots = 1;
  faults = 0;
  holds = λ name. None;
  asked = None;
  left = slice_get (rest ∷ []);
}

abbrev pub text_shelf_state : TextShelf → ShelfState
text_shelf_state s = one_slot (drop s.at s.bytes)
