-- A sum of two summaries doesn't overflow.
use Rattle.std.proofs.Common.{◌≡◌, ℕ, ℤ, pos, neg_ℤ, ◌+◌, ◌*◌, ◌≤◌, ◌+ℤ◌, refl, arith}
use Rattle.std.specs.Prelude.{◌≤ℤ◌}
use Rattle.std.specs.Int.{w64}
use Rattle.std.proofs.lemmas.Int.{ints, to_z-of_z}
use mir.Val.{to_z, of_z, SFits}
use Rattle.job_shared.proofs.Ranges.{wide_fits}

-- the machine computes the sum
pub sum_computed : (left right : ℤ) (a b : ℕ) → a + b ≤ 65536 → neg_ℤ (pos (a * 1000000000000)) ≤ℤ left → left ≤ℤ pos (a * 1000000000000) →
    neg_ℤ (pos (b * 1000000000000)) ≤ℤ right → right ≤ℤ pos (b * 1000000000000) →
    to_z w64 (of_z w64 (to_z w64 (of_z w64 left) +ℤ to_z w64 (of_z w64 right))) ≡ left +ℤ right
sum_computed left right a b few l0 l1 r0 r1 =
    let fl : SFits w64 left = wide_fits left (omega (arith, ints)) (omega (arith, ints)) in
    let fr : SFits w64 right = wide_fits right (omega (arith, ints)) (omega (arith, ints)) in
    let fs : SFits w64 (left +ℤ right) = wide_fits (left +ℤ right) (omega (arith, ints)) (omega (arith, ints)) in
    rw (to_z-of_z w64 left fl, to_z-of_z w64 right fr, to_z-of_z w64 (left +ℤ right) fs) refl
