-- The state of a shelf as contracts see it, and the effect of its calls on it.
use Rattle.std.specs.Prelude.{◌≡◌, ◌≢◌, ℕ, ◌+◌, List, [], ◌++◌, take, Option, Some, IfSome, Result}
use Rattle.std.specs.Prelude.{Ok, Err}
use Rattle.std.specs.Option.{option_map}
use Rattle.det_io.specs.Prefix.{IsPrefix}
use Rattle.det_io.specs.declared.faults.ShelfFailed.{ShelfFailed}

pub record ShelfState : Type 0 where
  -- the number of slots
  pub slots : ℕ
  -- the number of its faults
  pub faults : ℕ
  -- the bytes under a name, if known
  pub holds : List ℕ → Option (List ℕ)
  -- the names that it was asked to open, if known
  pub asked : Option (List (List ℕ))
  -- the rest of a slot, if known
  pub left : ℕ → Option (List ℕ)

-- the bytes that a read moved into the buffer
abbrev pub moved : Result ℕ ShelfFailed → List ℕ → List ℕ
moved (Ok n) buf = take n buf
moved (Err e) buf = []

-- if the rest of a slot is known, it is empty
abbrev pub IsAtEnd : ShelfState → ℕ → Type 0
IsAtEnd state slot = IfSome (state.left slot) (λ rest. rest ≡ [])

-- slots and names are as before
pub record Kept (before after : ShelfState) : Type 0 where
  pub slots : after.slots ≡ before.slots
  pub holds : after.holds ≡ before.holds
  pub asked : after.asked ≡ before.asked

-- a slot gave these bytes, if they are known
pub record Gave (before after : ShelfState) (slot : ℕ) (bytes : List ℕ) : Type 0 where
  pub left : before.left slot ≡ option_map (λ rest. bytes ++ rest) (after.left slot)

-- these bytes were read from a slot, and nothing else happened
pub record Reads (before after : ShelfState) (slot : ℕ) (bytes : List ℕ) : Type 0 where
  pub slots : after.slots ≡ before.slots
  pub holds : after.holds ≡ before.holds
  pub asked : after.asked ≡ before.asked
  pub left : before.left slot ≡ option_map (λ rest. bytes ++ rest) (after.left slot)
  pub others : (k : ℕ) → k ≢ slot → after.left k ≡ before.left k

-- a name was opened in a new slot; if the bytes of the name are known, the slot has all of them
pub record Opens (before after : ShelfState) (name : List ℕ) (slot : ℕ) : Type 0 where
  pub number : slot ≡ before.slots
  pub slots : after.slots ≡ before.slots + 1
  pub left : IfSome (before.holds name) (λ bytes. after.left slot ≡ Some bytes)
  pub others : (k : ℕ) → k ≢ slot → after.left k ≡ before.left k

-- all slots are as before
pub record SlotsStay (before after : ShelfState) : Type 0 where
  pub slots : after.slots ≡ before.slots
  pub left : after.left ≡ before.left

-- the shelf was asked for these names, if the names are known afterwards
pub record Asks (before after : ShelfState) (names : List (List ℕ)) : Type 0 where
  pub told : (all : List (List ℕ)) → after.asked ≡ Some all
      → (earlier : List (List ℕ)) × (before.asked ≡ Some earlier) × (earlier ++ names ≡ all)

-- the shelf was asked for a prefix of these names, if the names are known afterwards
abbrev pub AsksPrefix : ShelfState → ShelfState → List (List ℕ) → Type 0
AsksPrefix before after names =
    (front : List (List ℕ)) × IsPrefix front names × Asks before after front
