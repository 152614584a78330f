-- Names that were opened, each in a slot of its own.
use Rattle.std.specs.Prelude.{◌≡◌, ◌≢◌, ℕ, ◌+◌, ◌<◌, List, length, Some, IfSome}
use Rattle.std.specs.List.{All, AllPairs, AllZip, range_with_len}
use Rattle.det_io.specs.Shelf.{ShelfState}

pub record Opened (before after : ShelfState) (names : List (List ℕ)) (slots : List ℕ)
    : Type 0 where
  -- the slots are the next ones of the shelf, in the order of the names
  pub numbered : slots ≡ range_with_len before.slots (length names)
  pub count : after.slots ≡ before.slots + length names
  -- the shelf has these slots
  pub given : All (λ slot. slot < after.slots) slots
  -- they all differ
  pub apart : AllPairs (λ slot other. slot ≢ other) slots
  -- each slot has all bytes of its name left, if they are known
  pub left : AllZip
      (λ name slot. IfSome (before.holds name) (λ bytes. after.left slot ≡ Some bytes)) names slots
