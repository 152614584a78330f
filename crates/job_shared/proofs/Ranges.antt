-- Values of samples fit an i64.
use Rattle.std.proofs.Common.{ℤ, ℕ, pos, negsuc, ◌^◌, ◌<◌, ◌≤◌, arith}
use Rattle.std.specs.Prelude.{◌≤ℤ◌}
use Rattle.std.specs.Int.{w64}
use Rattle.std.proofs.lemmas.Int.{ints}
use mir.Val.{of_z, SFits}
use Rattle.det_values.specs.Limits.{IsSampleValue}

pub sample_fits : (z : ℤ) → IsSampleValue z → SFits w64 z
sample_fits (pos n) h = let a = h.1 in record { sfits = omega (arith, ints) }
sample_fits (negsuc n) h = let a = h.0 in record { sfits = omega (arith, ints) }

-- far within an i64
pub wide_fits : (z : ℤ) → negsuc 1000000000000000000 ≤ℤ z → z ≤ℤ pos 1000000000000000000 → SFits w64 z
wide_fits (pos n) a b = record { sfits = omega (arith, ints) }
wide_fits (negsuc n) a b = record { sfits = omega (arith, ints) }

pub of_z-below : (z : ℤ) → SFits w64 z → of_z w64 z < 2 ^ 64
of_z-below (pos n) f = let h : n < 2 ^ 63 = f.sfits in omega arith
of_z-below (negsuc n) f = omega arith
