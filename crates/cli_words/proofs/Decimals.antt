-- A number has one spelling.
use Rattle.std.proofs.Common.{◌≡◌, ℕ, ◌^◌, ◌<◌, List, Bool, true, false, ◌&&◌, cond, nat_lt, Some, None, refl, sym, ap, ◌∙◌, arith}
use Rattle.std.specs.Prelude.{Result, Ok, Err}
use Rattle.std.specs.Fmt.{decimal}
use Rattle.std.specs.Str.{bytes_eq}
use Rattle.std.specs.Str.Parse.{ParsesUnsigned, digits_value}
use Rattle.std.proofs.lemmas.Fmt.{decimal_is_IsNumeral, parse-decimal}
use Rattle.std.proofs.lemmas.Slice.Eq.{bytes_eq-Decides}
use Rattle.std.proofs.lemmas.Bool.Decides.{Decides-ltb, Decides-and}
use Rattle.cli_words.specs.Number.{number_of}

-- whether a word is the decimal of its digits' number
abbrev test : List ℕ → Bool
test word = nat_lt (digits_value 10 word) (2 ^ 64) && bytes_eq word (decimal (digits_value 10 word))

holds : (word : List ℕ) (b : Bool) → test word ≡ b → number_of word ≡ cond b (Some (digits_value 10 word)) None
unfolding number_of
holds word b e = ap (λ t. cond t (Some (digits_value 10 word)) None) e

test_true : (word : List ℕ) → digits_value 10 word < 2 ^ 64 → word ≡ decimal (digits_value 10 word) → test word ≡ true
test_true word small same =
    (Decides-and _ _ (Decides-ltb (digits_value 10 word) (2 ^ 64)) (bytes_eq-Decides word (decimal (digits_value 10 word)))).1 (small, same)

true_test : (word : List ℕ) → test word ≡ true → (digits_value 10 word < 2 ^ 64) × (word ≡ decimal (digits_value 10 word))
true_test word e =
    (Decides-and _ _ (Decides-ltb (digits_value 10 word) (2 ^ 64)) (bytes_eq-Decides word (decimal (digits_value 10 word)))).0 e

pub number_of-spelled : (word : List ℕ) (n : ℕ) → n < 2 ^ 64 → word ≡ decimal n → number_of word ≡ Some n
number_of-spelled word n small same =
    let value : digits_value 10 word ≡ n = ap (digits_value 10) same ∙ (decimal_is_IsNumeral n small).1 in
    let yes : test word ≡ true = test_true word (omega arith) (same ∙ ap decimal (sym value)) in
    holds word true yes ∙ ap (λ (m : ℕ). Some m) value

pub number_of-decimal : (n : ℕ) → n < 2 ^ 64 → number_of (decimal n) ≡ Some n
number_of-decimal n small = number_of-spelled (decimal n) n small refl

pub number_of-is : (word : List ℕ) (n : ℕ) → number_of word ≡ Some n → (n < 2 ^ 64) × (word ≡ decimal n)
number_of-is word n e = by_test (test word) refl where
  by_test : (b : Bool) → test word ≡ b → (n < 2 ^ 64) × (word ≡ decimal n)
  by_test true passed =
      let value : Some (digits_value 10 word) ≡ Some n = sym (holds word true passed) ∙ e in
      let same : digits_value 10 word ≡ n = cc in
      let both = true_test word passed in
      (rw (← same) both.0, both.1 ∙ ap decimal same)
  by_test false refused = let none : None ≡ Some n = sym (holds word false refused) ∙ e in cc

-- a word that spells no number
pub number_of-none : (word : List ℕ) → ((n : ℕ) → n < 2 ^ 64 → word ≡ decimal n → ⊥) → number_of word ≡ None
number_of-none word never = by_test (test word) refl where
  by_test : (b : Bool) → test word ≡ b → number_of word ≡ None
  by_test true passed = let both = true_test word passed in absurd (never (digits_value 10 word) both.0 both.1)
  by_test false refused = holds word false refused

-- a word that doesn't parse, or parses to a number with another spelling
pub unparsed : {E : Type 0} (word : List ℕ) (r : Result ℕ E) (e : E) → ParsesUnsigned 64 10 word r → r ≡ Err e → number_of word ≡ None
unparsed {E = E} word r e parses is = number_of-none word (λ n small same.
    let ok : r ≡ Ok n = parse-decimal {E = E} 64 n word r small small same parses in
    let two : ◌≡◌ {A = Result ℕ E} (Err e) (Ok n) = sym is ∙ ok in cc)

pub otherwise : {E : Type 0} (word text : List ℕ) (r : Result ℕ E) (m : ℕ) → ParsesUnsigned 64 10 word r → r ≡ Ok m → text ≡ decimal m
    → bytes_eq text word ≡ false → number_of word ≡ None
otherwise {E = E} word text r m parses is spelling other = number_of-none word (λ n small same.
    let ok : r ≡ Ok n = parse-decimal {E = E} 64 n word r small small same parses in
    let two : ◌≡◌ {A = Result ℕ E} (Ok m) (Ok n) = sym is ∙ ok in
    let one : m ≡ n = cc in
    let equal : bytes_eq text word ≡ true = (bytes_eq-Decides text word).1 (spelling ∙ ap decimal one ∙ sym same) in
    let clash : false ≡ true = sym other ∙ equal in cc)

-- a word that is the spelling of what it parses to
pub spelled : (word text : List ℕ) (n : ℕ) → n < 2 ^ 64 → text ≡ decimal n → bytes_eq text word ≡ true → number_of word ≡ Some n
spelled word text n small spelling equal = number_of-spelled word n small (sym ((bytes_eq-Decides text word).0 equal) ∙ spelling)
