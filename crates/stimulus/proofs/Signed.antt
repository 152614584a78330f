-- A sample's value has one spelling.
use Rattle.std.proofs.Common.{◌≡◌, ℕ, zero, suc, ◌^◌, ◌<◌, ◌≤◌, ℤ, pos, negsuc, List, [], ◌∷◌, ◌++◌, length, take, drop, Bool, true, false}
use Rattle.std.proofs.Common.{cond, ◌&&◌, nat_lt, nat_eq, Option, Some, None, refl, sym, ap, ◌∙◌, arith, codes, take-append-drop}
use Rattle.std.specs.Prelude.{option_map, option_and_then}
use Rattle.std.specs.Fmt.{decimal, signed_decimal}
use Rattle.std.specs.Str.{bytes_eq}
use Rattle.std.specs.Str.Parse.{AllDigits}
use Rattle.std.proofs.lemmas.Fmt.{decimal_is_IsNumeral}
use Rattle.std.proofs.lemmas.Str.Parse.{tells_digits}
use Rattle.std.proofs.lemmas.Bool.Decides.{nat_tests}
use Rattle.std.proofs.lemmas.Slice.Eq.{bytes_eq-Decides}
use Rattle.std.proofs.lemmas.Int.{ints}
use Rattle.det_values.specs.Limits.{IsSampleValue}
use Rattle.stimulus.specs.Numbers.{number, below, as_negative, value_of}
use Rattle.stimulus.proofs.Spelling.{number_of_decimal, decimal_of_number}

pub same_bytes : (xs ys : List ℕ) → bytes_eq xs ys ≡ true → xs ≡ ys
same_bytes xs ys e = (bytes_eq-Decides xs ys).0 e

pub digits_of : (n : ℕ) → n < 2 ^ 64 → AllDigits 10 (decimal n)
digits_of n small = (decimal_is_IsNumeral n small).0.1

pub some_digits_of : (n : ℕ) → n < 2 ^ 64 → 0 < length (decimal n)
some_digits_of n small = (decimal_is_IsNumeral n small).0.0

no_dash : (bs : List ℕ) → AllDigits 10 bs → 0 < length bs → bytes_eq (take 1 bs) (codes "-") ≡ false
no_dash [] h some = absurd (omega arith)
no_dash (b ∷ bs) h some =
    let low : 48 ≤ b = (tells_digits.parts b bs h).0.0 in
    let other : nat_eq b 45 ≡ false = grind (arith, nat_tests) in
    ap (λ t. t && true) other

pub is_below : (limit n : ℕ) → n < limit → below limit (Some n) ≡ Some n
is_below limit n small = grind (arith, nat_tests)

pub below_some : (limit n : ℕ) (o : Option ℕ) → below limit o ≡ Some n → (o ≡ Some n) × (n < limit)
below_some limit n None e = absurd (cc)
below_some limit n (Some m) e = choice (nat_lt m limit) refl e where
  choice : (t : Bool) → nat_lt m limit ≡ t → cond t (Some m) None ≡ Some n → (Some m ≡ Some n) × (n < limit)
  choice true test same = let small : m < limit = grind (arith, nat_tests) in let equal : m ≡ n = cc in (same, omega arith)
  choice false test same = absurd (cc)

positive_value : (n : ℕ) → n < 1000000000001 → value_of (decimal n) ≡ Some (pos n)
unfolding value_of
positive_value n small =
    ap (λ t. cond t (option_and_then as_negative (below 1000000000001 (number (drop 1 (decimal n)))))
    (option_map pos (below 1000000000001 (number (decimal n)))))
    (no_dash (decimal n) (digits_of n (omega arith)) (some_digits_of n (omega arith)))
    ∙ ap (λ o. option_map pos (below 1000000000001 o)) (number_of_decimal n (omega arith))
    ∙ ap (option_map pos) (is_below 1000000000001 n small)

negative_value : (n : ℕ) → suc n < 1000000000001 → value_of (45 ∷ decimal (suc n)) ≡ Some (negsuc n)
unfolding value_of
negative_value n small =
    ap (λ o. option_and_then as_negative (below 1000000000001 o)) (number_of_decimal (suc n) (omega arith))
    ∙ ap (option_and_then as_negative) (is_below 1000000000001 (suc n) small)

-- a value is read as it is written
pub value_of_decimal : (v : ℤ) → IsSampleValue v → value_of (signed_decimal v) ≡ Some v
value_of_decimal (pos n) h = positive_value n (omega (arith, ints))
value_of_decimal (negsuc n) h = negative_value n (omega (arith, ints))

from_positive : (bytes : List ℕ) (o : Option ℕ) (v : ℤ) → below 1000000000001 (number bytes) ≡ o → option_map pos o ≡ Some v → bytes
    ≡ signed_decimal v
from_positive bytes None v read e = absurd (cc)
from_positive bytes (Some n) v read e =
    let found = below_some 1000000000001 n (number bytes) read in
    let same : pos n ≡ v = cc in
    decimal_of_number bytes n found.0 (let small : n < 1000000000001 = found.1 in omega arith) ∙ ap signed_decimal same

from_negative : (bytes : List ℕ) (o : Option ℕ) (v : ℤ) → below 1000000000001 (number bytes) ≡ o → option_and_then as_negative o ≡ Some v
    → 45 ∷ bytes ≡ signed_decimal v
from_negative bytes None v read e = absurd (cc)
from_negative bytes (Some zero) v read e = absurd (cc)
from_negative bytes (Some (suc n)) v read e =
    let found = below_some 1000000000001 (suc n) (number bytes) read in
    let same : negsuc n ≡ v = cc in
    ap (λ l. 45 ∷ l) (decimal_of_number bytes (suc n) found.0 (let small : suc n < 1000000000001 = found.1 in omega arith))
    ∙ ap signed_decimal same

-- only the bytes that write a value are read as it
pub decimal_of_value : (bytes : List ℕ) (v : ℤ) → value_of bytes ≡ Some v → bytes ≡ signed_decimal v
unfolding value_of
decimal_of_value bytes v e = choice (bytes_eq (take 1 bytes) (codes "-")) refl e where
  choice : (t : Bool) → bytes_eq (take 1 bytes) (codes "-") ≡ t
      → cond t (option_and_then as_negative (below 1000000000001 (number (drop 1 bytes))))
      (option_map pos (below 1000000000001 (number bytes))) ≡ Some v
      → bytes ≡ signed_decimal v
  choice true dash found =
      sym (take-append-drop 1 bytes) ∙ ap (λ l. l ++ drop 1 bytes) (same_bytes (take 1 bytes) (codes "-") dash)
      ∙ from_negative (drop 1 bytes) (below 1000000000001 (number (drop 1 bytes))) v refl found
  choice false dash found = from_positive bytes (below 1000000000001 (number bytes)) v refl found
