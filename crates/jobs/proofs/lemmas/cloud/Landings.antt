-- The tries of a random step, one after another.
use Rattle.std.proofs.Common.{◌≡◌, ℕ, ℤ, zero, suc, ◌+◌, ◌-◌, ◌*◌, ◌<◌, ◌≤◌, Option, None, Some, true, false, refl, ap, ◌∙◌, arith}
use Rattle.std.specs.Prelude.{pos, ◌+ℤ◌, ◌≤ℤ◌, int_le}
use Rattle.std.specs.Int.{w64}
use Rattle.std.proofs.lemmas.Int.{ints, to_z-of_z}
use mir.Val.{to_z, of_z, SFits}
use Rattle.job_shared.proofs.Ranges.{wide_fits}
use Rattle.jobs.specs.cloud.Steps.{lands, try_of, landing_from}

landing_here : (spread key i tries : ℕ) → lands spread (try_of spread key (2 * i)) ≡ true → landing_from spread key i (suc tries) ≡ Some i
unfolding landing_from
landing_here spread key i tries h = rw h refl

landing_later : (spread key i tries : ℕ) → lands spread (try_of spread key (2 * i)) ≡ false →
    landing_from spread key i (suc tries) ≡ landing_from spread key (i + 1) tries
unfolding landing_from
landing_later spread key i tries h = rw h refl

landing_none : (spread key i : ℕ) → landing_from spread key i zero ≡ None
unfolding landing_from
landing_none spread key i = refl

-- the same with 8 tries in all
pub landed : (spread key i : ℕ) (o : Option ℕ) → i < 8 → o ≡ landing_from spread key i (8 - i) →
    lands spread (try_of spread key (2 * i)) ≡ true → o ≡ Some i
landed spread key i o h e l =
    let left : 8 - i ≡ suc (7 - i) = omega arith in
    e ∙ ap (landing_from spread key i) left ∙ landing_here spread key i (7 - i) l

pub missed : (spread key i : ℕ) (o : Option ℕ) → i < 8 → o ≡ landing_from spread key i (8 - i) →
    lands spread (try_of spread key (2 * i)) ≡ false → o ≡ landing_from spread key (i + 1) (8 - (i + 1))
missed spread key i o h e l =
    let left : 8 - i ≡ suc (8 - (i + 1)) = omega arith in
    e ∙ ap (landing_from spread key i) left ∙ landing_later spread key i (8 - (i + 1)) l

pub never : (spread key i : ℕ) (o : Option ℕ) → 8 ≤ i → o ≡ landing_from spread key i (8 - i) → o ≡ None
never spread key i o h e =
    let left : 8 - i ≡ zero = omega arith in
    e ∙ ap (landing_from spread key i) left ∙ landing_none spread key i

-- the machine computes the test
pub circle_computed : (a b r : ℤ) → pos 0 ≤ℤ a → a ≤ℤ pos 1000000000000 → pos 0 ≤ℤ b → b ≤ℤ pos 1000000000000 → pos 0 ≤ℤ r →
    r ≤ℤ pos 1000000000000
    → int_le (to_z w64 (of_z w64 (to_z w64 (of_z w64 a) +ℤ to_z w64 (of_z w64 b)))) (to_z w64 (of_z w64 r)) ≡ int_le (a +ℤ b) r
circle_computed a b r a0 a1 b0 b1 r0 r1 =
    let fa : SFits w64 a = wide_fits a (omega (arith, ints)) (omega (arith, ints)) in
    let fb : SFits w64 b = wide_fits b (omega (arith, ints)) (omega (arith, ints)) in
    let fr : SFits w64 r = wide_fits r (omega (arith, ints)) (omega (arith, ints)) in
    let fs : SFits w64 (a +ℤ b) = wide_fits (a +ℤ b) (omega (arith, ints)) (omega (arith, ints)) in
    rw (to_z-of_z w64 a fa, to_z-of_z w64 b fb, to_z-of_z w64 (a +ℤ b) fs, to_z-of_z w64 r fr) refl
