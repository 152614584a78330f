-- What a command leaves unchanged of a shelf.
use Rattle.std.specs.Prelude.{◌≡◌, ℕ, ◌<◌}
use Rattle.det_io.specs.Shelf.{ShelfState}

-- slots that were given before the call keep what they have left
abbrev pub KeepsSlots : ShelfState → ShelfState → Type 0
KeepsSlots before after = (slot : ℕ) → slot < before.slots → after.left slot ≡ before.left slot
