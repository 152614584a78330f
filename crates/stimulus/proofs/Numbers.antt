-- Facts on decimal numbers.
use Rattle.std.proofs.Common.{◌≡◌, ℕ, suc, ◌+◌, ◌-◌, ◌*◌, ◌^◌, ◌≢◌, ◌<◌, ◌≤◌, ◌⊎◌, List, [], ◌∷◌, length, drop, get_or, true, false, cond}
use Rattle.std.proofs.Common.{nat_le, ◌&&◌, Some, None, refl, sym, ap, ◌∙◌, inl, inr, arith, drop-cons, add-one}
use Rattle.std.proofs.lemmas.Bool.Decides.{nat_tests}
use Rattle.std.proofs.lemmas.List.{drop_all}
use Rattle.std.proofs.Math.Nat.{pow-suc, pow-le-pow_right}
use Rattle.stimulus.specs.Numbers.{number, number_after, below}

pub number_empty : (bs : List ℕ) → length bs ≡ 0 → number bs ≡ None
unfolding number
number_empty [] e = refl
number_empty (b ∷ bs) e = absurd (omega arith)

pub number_none : (bs : List ℕ) → 1 < length bs → get_or bs 0 0 ≡ 48 → number bs ≡ None
unfolding number
number_none [] e z = absurd (omega arith)
number_none (b ∷ bs) e z = grind (arith, nat_tests)

pub number_long : (bs : List ℕ) → 0 < length bs → get_or bs 0 0 ≢ 48 → number bs ≡ number_after 0 bs
unfolding number
number_long [] e z = absurd (omega arith)
number_long (b ∷ bs) e z = grind (arith, nat_tests)

pub number_one : (bs : List ℕ) → length bs ≡ 1 → number bs ≡ number_after 0 bs
unfolding number
number_one [] e = absurd (omega arith)
number_one (b ∷ []) e = grind (arith, nat_tests)
number_one (b ∷ c ∷ bs) e = absurd (omega arith)

at_digit : (bs : List ℕ) (i b : ℕ) → i < length bs → b ≡ get_or bs i 0 → drop i bs ≡ b ∷ drop (i + 1) bs
at_digit bs i b within is = rw add-one (drop-cons bs i 0 within ∙ ap (λ x. x ∷ drop (suc i) bs) (sym is))

digit_step : (n b : ℕ) (bs : List ℕ) → 48 ≤ b → b ≤ 57 → number_after n (b ∷ bs) ≡ number_after (n * 10 + (b - 48)) bs
unfolding number_after
digit_step n b bs low high = grind (arith, nat_tests)

no_step : (n b : ℕ) (bs : List ℕ) → (b < 48) ⊎ (57 < b) → number_after n (b ∷ bs) ≡ None
unfolding number_after
no_step n b bs (inl low) = grind (arith, nat_tests)
no_step n b bs (inr high) = grind (arith, nat_tests)

-- a digit more
pub digit_more : (n : ℕ) (bs : List ℕ) (i b : ℕ) → i < length bs → b ≡ get_or bs i 0 → 48 ≤ b → b ≤ 57 → number_after n (drop i bs)
    ≡ number_after (n * 10 + (b - 48)) (drop (i + 1) bs)
unfolding number_after
digit_more n bs i b within is low high = ap (number_after n) (at_digit bs i b within is) ∙ digit_step n b (drop (i + 1) bs) low high

pub no_digit : (n : ℕ) (bs : List ℕ) (i b : ℕ) → i < length bs → b ≡ get_or bs i 0 → (b < 48) ⊎ (57 < b) → number_after n (drop i bs) ≡ None
unfolding number_after
no_digit n bs i b within is out = ap (number_after n) (at_digit bs i b within is) ∙ no_step n b (drop (i + 1) bs) out

-- a number only grows
pub too_large : (limit n : ℕ) (bs : List ℕ) → limit ≤ n → below limit (number_after n bs) ≡ None
unfolding number_after
too_large limit n [] large = grind (arith, nat_tests)
too_large limit n (b ∷ bs) large =
    elim (nat_le 48 b && nat_le b 57) as (λ t. below limit (cond t (number_after (n * 10 + (b - 48)) bs) None) ≡ None) [
      | true ↦ too_large limit (n * 10 + (b - 48)) bs (omega arith)
      | false ↦ refl
    ]

-- the loop over the digits
pub record HasRead (limit value i : ℕ) (bs : List ℕ) : Type 0 where
  pub same : number_after 0 bs ≡ number_after value (drop i bs)
  pub within : (i ≡ 0) ⊎ (value < limit)
  pub small : value < 2 ^ 64

pub HasRead-begin : (limit : ℕ) (bs : List ℕ) → HasRead limit 0 0 bs
HasRead-begin limit bs = record { same = refl; within = inl refl; small = omega arith }

pub HasRead-next : (limit value i b : ℕ) (bs : List ℕ) → limit ≤ 2 ^ 64 → i < length bs → b ≡ get_or bs i 0 → 48 ≤ b → b ≤ 57
    → value * 10 + (b - 48) < limit → HasRead limit value i bs
    → HasRead limit (value * 10 + (b - 48)) (i + 1) bs
HasRead-next limit value i b bs most within is low high small h = record {
  same = h.same ∙ digit_more value bs i b within is low high;
  within = inr small;
  small = omega arith;
}

pub HasRead-large : (limit value i b : ℕ) (bs : List ℕ) → i < length bs → b ≡ get_or bs i 0 → 48 ≤ b → b ≤ 57
    → limit ≤ value * 10 + (b - 48) → HasRead limit value i bs
    → None ≡ below limit (number_after 0 bs)
HasRead-large limit value i b bs within is low high large h =
    sym (ap (below limit) (h.same ∙ digit_more value bs i b within is low high)
    ∙ too_large limit (value * 10 + (b - 48)) (drop (i + 1) bs) large)

pub HasRead-other : (limit value i b : ℕ) (bs : List ℕ) → i < length bs → b ≡ get_or bs i 0 → (b < 48) ⊎ (57 < b) → HasRead limit value i bs
    → None ≡ below limit (number_after 0 bs)
HasRead-other limit value i b bs within is out h = sym (ap (below limit) (h.same ∙ no_digit value bs i b within is out))

at_last : (value : ℕ) → number_after value [] ≡ Some value
unfolding number_after
at_last value = refl

is_below : (limit value : ℕ) → value < limit → below limit (Some value) ≡ Some value
is_below limit value small = grind (arith, nat_tests)

pub HasRead-done : (limit value i : ℕ) (bs : List ℕ) → 0 < length bs → length bs ≤ i → HasRead limit value i bs → Some value
    ≡ below limit (number_after 0 bs)
HasRead-done limit value i bs some whole h =
    let small : value < limit = elim h.within [ inl none ↦ absurd (omega arith) | inr small ↦ small ] in
    sym (ap (below limit) (h.same ∙ ap (number_after value) (drop_all i bs whole) ∙ at_last value) ∙ is_below limit value small)

-- the same if the number has at most this many digits
pub record HasDigits (value i : ℕ) (bs : List ℕ) : Type 0 where
  pub same : number_after 0 bs ≡ number_after value (drop i bs)
  pub small : value < 10 ^ i

pub HasDigits-begin : (bs : List ℕ) → HasDigits 0 0 bs
HasDigits-begin bs = record { same = refl; small = omega arith }

pub HasDigits-next : (value i b : ℕ) (bs : List ℕ) → i < length bs → b ≡ get_or bs i 0 → 48 ≤ b → b ≤ 57 → HasDigits value i bs
    → HasDigits (value * 10 + (b - 48)) (i + 1) bs
HasDigits-next value i b bs within is low high h =
    let more : 10 ^ (i + 1) ≡ 10 ^ i * 10 = rw add-one (pow-suc 10 i) in
    record {
      same = h.same ∙ digit_more value bs i b within is low high;
      small = omega (arith, h.small, more);
    }

pub HasDigits-fits : (value i : ℕ) (bs : List ℕ) → i < length bs → length bs ≤ 19 → HasDigits value i bs → value * 10 + 9 < 2 ^ 64
HasDigits-fits value i bs within few h =
    let last : i ≤ 18 = omega arith in
    let most : 10 ^ i ≤ 10 ^ 18 = pow-le-pow_right (omega arith) last in
    omega (arith, h.small, most)

pub HasDigits-other : (value i b : ℕ) (bs : List ℕ) → i < length bs → b ≡ get_or bs i 0 → (b < 48) ⊎ (57 < b) → HasDigits value i bs
    → None ≡ number_after 0 bs
HasDigits-other value i b bs within is out h = sym (h.same ∙ no_digit value bs i b within is out)

pub HasDigits-done : (value i : ℕ) (bs : List ℕ) → length bs ≤ i → HasDigits value i bs → Some value ≡ number_after 0 bs
HasDigits-done value i bs whole h = sym (h.same ∙ ap (number_after value) (drop_all i bs whole) ∙ at_last value)
