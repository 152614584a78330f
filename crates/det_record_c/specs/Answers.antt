-- The answer of a call, and its causes.
use Rattle.std.specs.Prelude.{◌≡◌, ◌≢◌, ◌↔◌, ℕ, ◌≤◌, Result, Ok, Err}
use Rattle.det_record_c.specs.declared.cause.Cause.{Cause}
use Rattle.det_record_c.specs.declared.cause.Cause.TheVariants as causes

-- the number of the first of three conditions that isn't met: what it writes may come now, its
-- values are in their ranges, and its bytes fit
pub record ReportsFirst (answer : ℕ) (follows sound fits : Type 0) : Type 0 where
  pub most : answer ≤ 3
  pub done : (answer ≡ 0) ↔ (follows × sound × fits)
  pub misplaced : (answer ≡ 1) ↔ (follows → ⊥)
  pub out_of_range : (answer ≡ 2) ↔ (follows × (sound → ⊥))
  pub no_room : (answer ≡ 3) ↔ (follows × sound × (fits → ⊥))

-- the cause that a call reports, and what it did, or that it changed nothing
pub record ReportsCall (answer : ℕ) (follows sound fits did kept : Type 0) : Type 0 where
  pub cause : ReportsFirst answer follows sound fits
  pub writes : answer ≡ 0 → did
  pub refuses : answer ≢ 0 → kept

-- ---- the same, inside

abbrev pub answer_of : Result (Unit {0}) Cause → ℕ
answer_of (Ok u) = 0
answer_of (Err causes.Misplaced) = 1
answer_of (Err causes.OutOfRange) = 2
answer_of (Err causes.NoRoom) = 3

-- what is checked before anything is written
abbrev pub IsChecked : Result (Unit {0}) Cause → Type 0 → Type 0 → Type 0
IsChecked (Ok u) follows sound = follows × sound
IsChecked (Err causes.Misplaced) follows sound = follows → ⊥
IsChecked (Err causes.OutOfRange) follows sound = follows × (sound → ⊥)
IsChecked (Err causes.NoRoom) follows sound = ⊥

-- what is written once that is checked
abbrev pub IsWritten : Result (Unit {0}) Cause → Type 0 → Type 0 → Type 0 → Type 0
IsWritten (Ok u) fits did kept = fits × did
IsWritten (Err causes.NoRoom) fits did kept = (fits → ⊥) × kept
IsWritten (Err cause) fits did kept = ⊥

-- both in order
abbrev pub EndsAs : Result (Unit {0}) Cause → Type 0 → Type 0 → Type 0 → Type 0 → Type 0 → Type 0
EndsAs (Ok u) follows sound fits did kept = follows × sound × fits × did
EndsAs (Err causes.Misplaced) follows sound fits did kept = (follows → ⊥) × kept
EndsAs (Err causes.OutOfRange) follows sound fits did kept = follows × (sound → ⊥) × kept
EndsAs (Err causes.NoRoom) follows sound fits did kept = follows × sound × (fits → ⊥) × kept
