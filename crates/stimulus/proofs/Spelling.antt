-- A number has one spelling.
use Rattle.std.proofs.Common.{◌≡◌, ℕ, zero, suc, ◌+◌, ◌-◌, ◌*◌, ◌^◌, ◌<◌, ◌≤◌, List, [], ◌∷◌, length, get_or, Bool, true, false, cond}
use Rattle.std.proofs.Common.{nat_le, ◌&&◌, Some, None, refl, sym, ap, ◌∙◌, inl, inr, arith, rules, lit<}
use Rattle.std.specs.Fmt.{decimal}
use Rattle.std.specs.Str.Parse.{AllDigits}
use Rattle.std.proofs.lemmas.Fmt.{decimal_is_IsNumeral, decimal_digit, first_decimal, decimal-digits_value}
use Rattle.std.proofs.lemmas.Str.Parse.{IsNumeralModel, numerals_by_fold, tells_digits}
use Rattle.std.proofs.lemmas.Bool.Decides.{nat_tests, eqb_tells}
use Rattle.stimulus.specs.Numbers.{number, number_after}
use Rattle.stimulus.proofs.Numbers.{number_empty, number_none, number_long, number_one}

abbrev value_on : ℕ → List ℕ → ℕ
value_on n [] = n
value_on n (b ∷ bs) = value_on (n * 10 + (b - 48)) bs

own : IsNumeralModel (AllDigits 10) (value_on 0)
own = numerals_by_fold _ tells_digits value_on (search rules)

after_reads : (n : ℕ) (bs : List ℕ) → AllDigits 10 bs → number_after n bs ≡ Some (value_on n bs)
unfolding number_after
after_reads n [] h = refl
after_reads n (b ∷ bs) h =
    let on = tells_digits.parts b bs h in
    let low : 48 ≤ b = on.0.0 in
    let high : b ≤ 57 = on.0.1 in
    let test : (nat_le 48 b && nat_le b 57) ≡ true = grind (arith, nat_tests) in
    ap (λ t. cond t (number_after (n * 10 + (b - 48)) bs) None) test ∙ after_reads (n * 10 + (b - 48)) bs on.1

after_digits : (n m : ℕ) (bs : List ℕ) → number_after n bs ≡ Some m → AllDigits 10 bs × (value_on n bs ≡ m)
unfolding number_after
after_digits n m [] e = (tells_digits.empty, cc)
after_digits n m (b ∷ bs) e = choice (nat_le 48 b && nat_le b 57) refl (λ next. after_digits (n * 10 + (b - 48)) m bs next) where
  choice : (t : Bool) → (nat_le 48 b && nat_le b 57) ≡ t
      → (number_after (n * 10 + (b - 48)) bs ≡ Some m → AllDigits 10 bs × (value_on (n * 10 + (b - 48)) bs ≡ m)) → AllDigits 10 (b ∷ bs)
      × (value_on n (b ∷ bs) ≡ m)
  choice true test further =
      let next : number_after (n * 10 + (b - 48)) bs ≡ Some m = ap (λ t. cond t (number_after (n * 10 + (b - 48)) bs) None) (sym test)
      ∙ e in
      let on = further next in
      let low : 48 ≤ b = grind (arith, nat_tests) in
      let high : b ≤ 57 = grind (arith, nat_tests) in
      (tells_digits.more b bs (low, high) on.0, on.1)
  choice false test further = let none : None ≡ Some m = ap (λ t. cond t (number_after (n * 10 + (b - 48)) bs) None) (sym test) ∙ e in cc

read_decimal : (n : ℕ) → n < 2 ^ 64 → number_after 0 (decimal n) ≡ Some n
read_decimal n small =
    let d = decimal_is_IsNumeral n small in
    after_reads 0 (decimal n) d.0.1 ∙ ap (λ (m : ℕ). Some m) (own.same (decimal n) d.0.1 ∙ d.1)

pub number_of_decimal : (n : ℕ) → n < 2 ^ 64 → number (decimal n) ≡ Some n
number_of_decimal zero small = number_one (decimal 0) (ap (λ (l : List ℕ). length l) (decimal_digit 0 (lit< tt))) ∙ read_decimal 0 small
number_of_decimal (suc n) small =
    let d = decimal_is_IsNumeral (suc n) small in
    let first : 48 < get_or (decimal (suc n)) 0 0 = first_decimal (suc n) (omega arith) small in
    number_long (decimal (suc n)) d.0.0 (λ e. omega arith) ∙ read_decimal (suc n) small

-- a number that begins with a zero is 0
one_zero : (bs : List ℕ) (n : ℕ) → number bs ≡ Some n → get_or bs 0 0 ≡ 48 → length bs ≡ 1
one_zero [] n e zero_first = absurd (let f : 0 ≡ 48 = zero_first in omega arith)
one_zero (b ∷ []) n e zero_first = refl
one_zero (b ∷ c ∷ bs) n e zero_first = let none = number_none (b ∷ c ∷ bs) (omega arith) zero_first in cc

some_digits : (bs : List ℕ) (n : ℕ) → number bs ≡ Some n → 0 < length bs
some_digits [] n e = let none = number_empty [] refl in cc
some_digits (b ∷ bs) n e = omega arith

pub decimal_of_number : (bs : List ℕ) (n : ℕ) → number bs ≡ Some n → n < 2 ^ 64 → bs ≡ decimal n
decimal_of_number bs n e small =
    let some = some_digits bs n e in
    let same : number bs ≡ number_after 0 bs = elim (eqb_tells (get_or bs 0 0) 48) [
      | inl p ↦ number_one bs (one_zero bs n e p.1)
      | inr p ↦ number_long bs some p.1
    ] in
    let on = after_digits 0 n bs (sym same ∙ e) in
    sym (decimal-digits_value own bs on.0 some (one_zero bs n e) (rw on.1 small)) ∙ ap decimal on.1
