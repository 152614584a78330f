-- A shelf over the file system as contracts see it: the number of its slots and of its faults.
use Rattle.std.specs.Prelude.{ℕ, None, vec_len}
use Rattle.det_io.specs.Shelf.{ShelfState}
use Rattle.det_io.specs.declared.dir_shelf.DirShelf.{DirShelf}

-- a shelf of which neither bytes nor names are known
abbrev pub unknown_contents : ℕ → ℕ → ShelfState
unknown_contents slots faults = record {
  slots = slots;
  faults = faults;
  holds = λ name. None;
  asked = None;
  left = λ slot. None;
}

abbrev pub dir_shelf_state : {R A B : Type 0} → DirShelf R A B → ShelfState
dir_shelf_state s = unknown_contents (vec_len s.files) s.faults
