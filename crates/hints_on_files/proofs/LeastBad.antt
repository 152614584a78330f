-- Which parameter is reported, in the chain of tests that looks for the least bad one.
use Rattle.std.proofs.Common.{◌≡◌, ◌≢◌, ℕ, refl}
use Rattle.std.specs.Prelude.{Bool, true, false, not, Option, None, Some, if◌then◌else◌}

some-same : {a b : ℕ} → ◌≡◌ {A = Option ℕ} (Some a) (Some b) → a ≡ b
some-same e = cc

-- the last test reports another one
pub last-apart : (b : Bool) (k j : ℕ) → k ≢ j → ◌≡◌ {A = Option ℕ} (if b then Some k else None) (Some j) → ⊥
last-apart true k j ne e = ne (some-same e)
last-apart false k j ne e = cc

-- this test reports another one, and so do those after it
pub apart : (b : Bool) (k j : ℕ) (rest : Option ℕ) → k ≢ j → (rest ≡ Some j → ⊥)
    → ◌≡◌ {A = Option ℕ} (if not b then Some k else rest) (Some j) → ⊥
apart true k j rest ne none e = none e
apart false k j rest ne none e = ne (some-same e)

-- this test reports another one, so it passed
pub past : (b : Bool) (k j : ℕ) (rest : Option ℕ) → k ≢ j
    → ◌≡◌ {A = Option ℕ} (if not b then Some k else rest) (Some j) → rest ≡ Some j
past true k j rest ne e = e
past false k j rest ne e = absurd (ne (some-same e))

-- the tests after this one report others, so it failed
pub told : (b : Bool) (j : ℕ) (rest : Option ℕ) → (rest ≡ Some j → ⊥)
    → ◌≡◌ {A = Option ℕ} (if not b then Some j else rest) (Some j) → b ≡ false
told true j rest none e = absurd (none e)
told false j rest none e = refl
