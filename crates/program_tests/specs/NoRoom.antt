-- What contracts see of a shelf that runs out of memory when a name is opened.
use Rattle.std.specs.Prelude.{None}
use Rattle.det_io.specs.Shelf.{ShelfState}

-- one slot was given, and nothing else is known
abbrev pub unknown_slot : ShelfState
unknown_slot = record {
  slots = 1;
  faults = 0;
  holds = λ name. None;
  asked = None;
  left = λ slot. None;
}
