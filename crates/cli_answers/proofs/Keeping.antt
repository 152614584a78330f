-- Slots that keep what they have left.
use Rattle.std.proofs.Common.{◌≤◌, ℕ, List, refl, ap, ◌∙◌, arith}
use Rattle.std.specs.Prelude.{Option}
use Rattle.det_io.specs.Shelf.{ShelfState, Opens, Reads, SlotsStay}
use Rattle.det_io.proofs.Opening.{opens-other, opens-apart}
use Rattle.cli_answers.specs.Slots.{KeepsSlots}

-- a shelf that stays keeps them
pub keeps-same : (state : ShelfState) → KeepsSlots state state
keeps-same state slot less = refl

pub keeps-stay : {before after : ShelfState} → SlotsStay before after → KeepsSlots before after
keeps-stay stay slot less = ap (λ (left : ℕ → Option (List ℕ)). left slot) stay.left

-- an open keeps them
pub keeps-opens : {before after : ShelfState} {name : List ℕ} {slot : ℕ} → Opens before after name slot → KeepsSlots before after
keeps-opens opens k less = opens-other k opens less

-- and so do reads of the slot that was opened
pub keeps-read : {before mid after : ShelfState} {name bytes : List ℕ} {slot : ℕ} → Opens before mid name slot
    → Reads mid after slot bytes → KeepsSlots before after
keeps-read opens reads k less = reads.others k (opens-apart k opens less) ∙ opens-other k opens less

-- what keeps them twice keeps them over both
pub keeps-then : (before mid after : ShelfState) → before.slots ≤ mid.slots → KeepsSlots before mid → KeepsSlots mid after
    → KeepsSlots before after
keeps-then before mid after more first later k less = later k (omega (arith, more, less)) ∙ first k less
