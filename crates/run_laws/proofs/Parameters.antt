-- Parameters that a shipped job takes are numbers of 64 bits.
use Rattle.std.proofs.Common.{◌≡◌, ℕ, ℤ, zero, suc, ◌<◌, ◌≤◌, pos, negsuc, List, length, Bool, true, false, cond, Option, Some, None, refl}
use Rattle.std.proofs.Common.{subst, sym, arith}
use Rattle.std.specs.Prelude.{not, ◌&&◌, nat_lt, int_le, ◌≤ℤ◌, FitsSigned, T}
use Rattle.std.specs.Int.{w64}
use Rattle.std.specs.Int.Signed.{le_z_yes}
use Rattle.std.specs.List.{All}
use Rattle.std.proofs.lemmas.Bool.{ltb-false, and_parts}
use Rattle.std.proofs.lemmas.Int.{ints}
use Rattle.std.proofs.lemmas.List.Elements.{All-from_get_or}
use Rattle.job_shared.specs.Params.{param, is_param}
use Rattle.job_shared.proofs.Ranges.{wide_fits}
use Rattle.jobs.specs.bank.Meaning as bank
use Rattle.jobs.specs.cloud.Meaning as cloud
use Rattle.jobs.specs.guard.Meaning as guard

abbrev Fits : ℤ → Type 0
Fits z = FitsSigned w64 z

abbrev IsWithin : ℤ → ℤ → ℤ → Type 0
IsWithin low high z = (low ≤ℤ z) × (z ≤ℤ high)

pub below : (a b : ℤ) → int_le a b ≡ true → a ≤ℤ b
below a b e = le_z_yes (subst T (sym e) tt)

-- a parameter that isn't refused is in its range
taken : (ps : List ℤ) (i index : ℕ) (low high : ℤ) (rest : Option ℕ) → cond (not (is_param ps i low high)) (Some index) rest ≡ None
    → IsWithin low high (param ps i) × (rest ≡ None)
taken ps i index low high rest e = by (is_param ps i low high) refl e where
  by : (t : Bool) → is_param ps i low high ≡ t → cond (not t) (Some index) rest ≡ None → IsWithin low high (param ps i) × (rest ≡ None)
  by true is k =
      let a = and_parts (nat_lt i (length ps)) (int_le low (param ps i) && int_le (param ps i) high) is in
      let b = and_parts (int_le low (param ps i)) (int_le (param ps i) high) a.1 in
      ((below low (param ps i) b.0, below (param ps i) high b.1), k)
  by false is k = absurd cc

-- no more parameters than this number
no_more : (ps : List ℤ) (n : ℕ) → cond (nat_lt n (length ps)) (Some n) None ≡ None → length ps ≤ n
no_more ps n e = by (nat_lt n (length ps)) refl e where
  by : (t : Bool) → nat_lt n (length ps) ≡ t → cond t (Some n) None ≡ None → length ps ≤ n
  by true is k = absurd cc
  by false is k = ltb-false n (length ps) is

fits : (z : ℤ) → IsWithin (negsuc 999999999999) (pos 4000000000000) z → Fits z
fits z h = let a = h.0 in let b = h.1 in wide_fits z (omega (arith, ints)) (omega (arith, ints))

all_fit : (ps : List ℤ) (n : ℕ) → length ps ≤ n → ((i : ℕ) → i < n → Fits (param ps i)) → All Fits ps
all_fit ps n few each = All-from_get_or Fits ps (pos 0) (λ i inside. each i (omega arith))

pub bank_fits : (ps : List ℤ) (events : ℕ) → bank.bad_param ps events ≡ None → All Fits ps
bank_fits ps events e =
    let a = taken ps 0 0 (pos 1) (pos 65536) _ e in
    let b = taken ps 1 1 (pos 0) (pos 16) _ a.1 in
    all_fit ps 2 (no_more ps 2 b.1) (each a.0 b.0)
  where
    each : IsWithin (pos 1) (pos 65536) (param ps 0) → IsWithin (pos 0) (pos 16) (param ps 1) → (i : ℕ) → i < 2 → Fits (param ps i)
    each a b zero h = let l = a.0 in let m = a.1 in fits (param ps 0) (omega (arith, ints), omega (arith, ints))
    each a b (suc zero) h = let l = b.0 in let m = b.1 in fits (param ps 1) (omega (arith, ints), omega (arith, ints))
    each a b (suc (suc i)) h = absurd (omega arith)

pub cloud_fits : (ps : List ℤ) (events : ℕ) → cloud.bad_param ps events ≡ None → All Fits ps
cloud_fits ps events e =
    let a = taken ps 0 0 (pos 1) (pos 65536) _ e in
    let b = taken ps 1 1 (pos 1) (pos 1000000) _ a.1 in
    let c = taken ps 2 2 (pos 0) (pos 1000000) _ b.1 in
    let d = taken ps 3 3 (pos 0) (pos 4000000000000) _ c.1 in
    all_fit ps 4 (no_more ps 4 d.1) (each a.0 b.0 c.0 d.0)
  where
    each : IsWithin (pos 1) (pos 65536) (param ps 0) → IsWithin (pos 1) (pos 1000000) (param ps 1)
        → IsWithin (pos 0) (pos 1000000) (param ps 2) → IsWithin (pos 0) (pos 4000000000000) (param ps 3)
        → (i : ℕ) → i < 4 → Fits (param ps i)
    each a b c d zero h = let l = a.0 in let m = a.1 in fits (param ps 0) (omega (arith, ints), omega (arith, ints))
    each a b c d (suc zero) h = let l = b.0 in let m = b.1 in fits (param ps 1) (omega (arith, ints), omega (arith, ints))
    each a b c d (suc (suc zero)) h = let l = c.0 in let m = c.1 in fits (param ps 2) (omega (arith, ints), omega (arith, ints))
    each a b c d (suc (suc (suc zero))) h = let l = d.0 in let m = d.1 in fits (param ps 3) (omega (arith, ints), omega (arith, ints))
    each a b c d (suc (suc (suc (suc i)))) h = absurd (omega arith)

pub guard_fits : (ps : List ℤ) (events : ℕ) → guard.bad_param ps events ≡ None → All Fits ps
guard_fits ps events e =
    let a = taken ps 0 0 (pos 1) (pos 65536) _ e in
    let b = taken ps 1 1 (negsuc 999999999999) (pos 1000000000000) _ a.1 in
    let c = taken ps 2 2 (param ps 1) (pos 1000000000000) _ b.1 in
    let d = taken ps 3 3 (pos 1) (pos 1000) _ c.1 in
    let f = taken ps 4 4 (pos 0) (pos 65536) _ d.1 in
    all_fit ps 5 (no_more ps 5 f.1) (each a.0 b.0 c.0 d.0 f.0)
  where
    each : IsWithin (pos 1) (pos 65536) (param ps 0) → IsWithin (negsuc 999999999999) (pos 1000000000000) (param ps 1)
        → IsWithin (param ps 1) (pos 1000000000000) (param ps 2)
        → IsWithin (pos 1) (pos 1000) (param ps 3) → IsWithin (pos 0) (pos 65536) (param ps 4) → (i : ℕ) → i < 5 → Fits (param ps i)
    each a b c d f zero h = let l = a.0 in let m = a.1 in fits (param ps 0) (omega (arith, ints), omega (arith, ints))
    each a b c d f (suc zero) h = let l = b.0 in let m = b.1 in fits (param ps 1) (omega (arith, ints), omega (arith, ints))
    each a b c d f (suc (suc zero)) h = let k = b.0 in let l = c.0 in let m = c.1 in
        fits (param ps 2) (omega (arith, ints), omega (arith, ints))
    each a b c d f (suc (suc (suc zero))) h = let l = d.0 in let m = d.1 in fits (param ps 3) (omega (arith, ints), omega (arith, ints))
    each a b c d f (suc (suc (suc (suc zero)))) h = let l = f.0 in let m = f.1 in
        fits (param ps 4) (omega (arith, ints), omega (arith, ints))
    each a b c d f (suc (suc (suc (suc (suc i))))) h = absurd (omega arith)
