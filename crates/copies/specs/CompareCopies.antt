-- What `compare` ensures of its verdict and of the slots that it read.
use Rattle.std.specs.Prelude.{◌≡◌, ◌≢◌, ℕ, ◌<◌, ◌+◌, ◌⊎◌, List, [], ◌∷◌, Some, Result, Ok, Err}
use Rattle.std.specs.List.{AllByRecursion}
use Rattle.det_io.specs.Shelf.{ShelfState, Kept, IsAtEnd}
use Rattle.det_io.specs.declared.failure.Stopped.{Stopped}
use Rattle.det_io.specs.declared.failure.Stopped.TheVariants.{Refused, Failed}
use Rattle.record_grammar.specs.declared.record_fault.Reason.TheVariants.{Truncated}
use Rattle.copies.specs.declared.verdict.BadCopy.{BadCopy}
use Rattle.copies.specs.declared.verdict.Verdict.{Verdict}
use Rattle.copies.specs.declared.verdict.Verdict.TheVariants.{Agree, Differ}
use Rattle.copies.specs.Verdict.{verdict}

-- ---- slots

-- no slot comes twice
abbrev pub AreDifferent : List ℕ → Type 0
AreDifferent [] = Unit {0}
AreDifferent (slot ∷ slots) = AllByRecursion (λ other. slot ≢ other) slots × AreDifferent slots

-- the shelf has given all these slots
abbrev pub AreGiven : ShelfState → List ℕ → Type 0
AreGiven state slots = AllByRecursion (λ slot. slot < state.slots) slots

-- the rest of each slot is known, and these are the copies, one a slot
abbrev pub AreLeft : ShelfState → List ℕ → List (List ℕ) → Type 0
AreLeft state [] [] = Unit {0}
AreLeft state (slot ∷ slots) (copy ∷ copies) =
    (state.left slot ≡ Some copy) × AreLeft state slots copies
AreLeft state slots copies = ⊥

-- only these slots were read
pub record ReadsAmong (before after : ShelfState) (slots : List ℕ) : Type 0 where
  pub kept : Kept before after
  pub others : (k : ℕ) → AllByRecursion (λ slot. k ≢ slot) slots → after.left k ≡ before.left k

-- nothing is left of the slot of one copy, where the slots are those of the copies from `copy` on
abbrev pub CopyEnds : ShelfState → ℕ → List ℕ → ℕ → Type 0
CopyEnds state copy [] wanted = ⊥
CopyEnds state copy (slot ∷ slots) wanted =
    ((copy ≡ wanted) × IsAtEnd state slot) ⊎ CopyEnds state (copy + 1) slots wanted

-- nothing is left of any slot
abbrev pub AllEnd : ShelfState → List ℕ → Type 0
AllEnd state slots = AllByRecursion (IsAtEnd state) slots

-- ---- the end

-- nothing is left of any slot where the copies agree
abbrev pub EndsIfAgreed : Verdict → ShelfState → List ℕ → Type 0
EndsIfAgreed (Agree cycles) state slots = AllEnd state slots
EndsIfAgreed (Differ copy at) state slots = Unit {0}

-- how much of the copies was read when comparing ends
abbrev pub EndsWhere : Result Verdict (Stopped BadCopy) → ShelfState → List ℕ → Type 0
EndsWhere (Ok verdict) state slots = EndsIfAgreed verdict state slots
EndsWhere (Err (Refused bad)) state slots =
    bad.fault.reason ≡ Truncated → CopyEnds state 0 slots bad.copy
EndsWhere (Err (Failed failure)) state slots = Unit {0}

-- a result is this verdict; of a failed call it says nothing
abbrev pub VerdictIs : Result Verdict (Stopped BadCopy) → Result Verdict BadCopy → Type 0
VerdictIs (Ok found) expected = expected ≡ Ok found
VerdictIs (Err (Refused bad)) expected = expected ≡ Err bad
VerdictIs (Err (Failed failure)) expected = Unit {0}

-- the verdict is right for all contents that the slots can have had at first
pub record Compared (result : Result Verdict (Stopped BadCopy)) (first now : ShelfState)
    (slots : List ℕ) : Type 0 where
  pub is : (copies : List (List ℕ)) → AreLeft first slots copies → VerdictIs result (verdict copies)
  pub ends : EndsWhere result now slots
