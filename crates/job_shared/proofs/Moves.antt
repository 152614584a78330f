-- A value that moves towards a target stays in the range of samples, and nothing on the way overflows.
use Rattle.std.proofs.Common.{◌≡◌, ℕ, ℤ, pos, negsuc, ◌+◌, ◌/◌, ◌^◌, ◌<◌, ◌≤◌, ◌+ℤ◌, ◌-ℤ◌, ◌⊎◌, inl, inr, refl, arith}
use Rattle.std.specs.Prelude.{◌≤ℤ◌}
use Rattle.std.specs.Int.{int_shr, w64}
use Rattle.std.proofs.Math.Nat.{div-le_self}
use Rattle.std.proofs.lemmas.Int.{ints, to_z-of_z}
use mir.Val.{to_z, of_z, SFits}
use Rattle.det_values.specs.Limits.{IsSampleValue}
use Rattle.job_shared.specs.Filter.{step_towards}
use Rattle.job_shared.proofs.Ranges.{sample_fits, wide_fits}

shr_between : (d : ℤ) (k : ℕ) → ((pos 0 ≤ℤ int_shr d k) × (int_shr d k ≤ℤ d)) ⊎ ((d ≤ℤ int_shr d k) × (int_shr d k ≤ℤ negsuc 0))
shr_between (pos n) k = let h : n / 2 ^ k ≤ n = div-le_self n (2 ^ k) in inl (omega (arith, ints), omega (arith, ints))
shr_between (negsuc n) k = let h : n / 2 ^ k ≤ n = div-le_self n (2 ^ k) in inr (omega (arith, ints), omega (arith, ints))

between : (t l d s : ℤ) → IsSampleValue t → IsSampleValue l → d ≡ t -ℤ l → ((pos 0 ≤ℤ s) × (s ≤ℤ d)) ⊎ ((d ≤ℤ s) × (s ≤ℤ negsuc 0)) →
    IsSampleValue (l +ℤ s)
between t l d s ht hl e (inl h) = let a = ht.0 in let b = ht.1 in let x = hl.0 in let y = hl.1 in (omega (arith, ints), omega (arith, ints))
between t l d s ht hl e (inr h) = let a = ht.0 in let b = ht.1 in let x = hl.0 in let y = hl.1 in (omega (arith, ints), omega (arith, ints))

pub towards_in_range : (value target : ℤ) (shift : ℕ) → IsSampleValue value → IsSampleValue target →
    IsSampleValue (step_towards value target shift)
towards_in_range l t k hl ht = between t l (t -ℤ l) (int_shr (t -ℤ l) k) ht hl refl (shr_between (t -ℤ l) k)

difference_fits : (t l : ℤ) → IsSampleValue t → IsSampleValue l → SFits w64 (t -ℤ l)
difference_fits t l h k = let a = h.0 in let b = h.1 in let x = k.0 in let y = k.1 in
    wide_fits (t -ℤ l) (omega (arith, ints)) (omega (arith, ints))

shr_fits : (d : ℤ) (k : ℕ) → SFits w64 d → SFits w64 (int_shr d k)
shr_fits (pos n) k f = let h : n / 2 ^ k ≤ n = div-le_self n (2 ^ k) in let g : n < 2 ^ 63 = f.sfits in record { sfits = omega arith }
shr_fits (negsuc n) k f = let h : n / 2 ^ k ≤ n = div-le_self n (2 ^ k) in let g : n < 2 ^ 63 = f.sfits in record { sfits = omega arith }

-- the machine computes the step
pub towards_computed : (l t : ℤ) (k : ℕ) → IsSampleValue l → IsSampleValue t →
    to_z w64 (of_z w64 (to_z w64 (of_z w64 l) +ℤ to_z w64
    (of_z w64 (int_shr (to_z w64 (of_z w64 (to_z w64 (of_z w64 t) -ℤ to_z w64 (of_z w64 l)))) k)))) ≡ step_towards l t k
towards_computed l t k hl ht =
    let ft : SFits w64 t = sample_fits t ht in
    let fl : SFits w64 l = sample_fits l hl in
    let fd : SFits w64 (t -ℤ l) = difference_fits t l ht hl in
    let fs : SFits w64 (int_shr (t -ℤ l) k) = shr_fits (t -ℤ l) k fd in
    let fn : SFits w64 (l +ℤ int_shr (t -ℤ l) k) = sample_fits _ (towards_in_range l t k hl ht) in
    rw (
      to_z-of_z w64 t ft,
      to_z-of_z w64 l fl,
      to_z-of_z w64 (t -ℤ l) fd,
      to_z-of_z w64 (int_shr (t -ℤ l) k) fs,
      to_z-of_z w64 (l +ℤ int_shr (t -ℤ l) k) fn,
    ) refl
