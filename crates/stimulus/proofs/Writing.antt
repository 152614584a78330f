-- A line has one spelling.
use Rattle.std.proofs.Common.{◌≡◌, ℕ, suc, ◌+◌, ◌^◌, ◌<◌, ◌≤◌, ℤ, List, [], ◌∷◌, ◌++◌, length, take, drop, get_or, Bool, true, false, cond}
use Rattle.std.proofs.Common.{◌&&◌, not, nat_lt, nat_eq, Option, Some, None, refl, sym, ap, ◌∙◌, subst, arith, codes, take-append-drop}
use Rattle.std.proofs.Common.{length-append, drop-cons}
use Rattle.std.specs.Prelude.{option_and_then}
use Rattle.std.specs.Fmt.{decimal, signed_decimal}
use Rattle.std.specs.Str.{bytes_eq}
use Rattle.std.specs.Str.Parse.{AllDigits}
use Rattle.std.specs.List.{position, position_or_len}
use Rattle.std.proofs.lemmas.List.{take_at}
use Rattle.std.proofs.lemmas.List.Quantifiers.{position-Some}
use Rattle.std.proofs.lemmas.Str.Parse.{tells_digits}
use Rattle.std.proofs.lemmas.Bool.Decides.{nat_tests}
use Rattle.det_values.specs.Values.{SampleValue}
use Rattle.stimulus.specs.declared.parse_line.Line.{Line}
use Rattle.stimulus.specs.declared.parse_line.Line.TheVariants as lines
use Rattle.stimulus.specs.Limits.{IsSample, IsLine}
use Rattle.stimulus.specs.Numbers.{number, below, value_of}
use Rattle.stimulus.specs.Lines.{cycle_line, sample_words, sample_line, line_of, spelling}
use Rattle.stimulus.proofs.Spelling.{number_of_decimal, decimal_of_number}
use Rattle.stimulus.proofs.Signed.{same_bytes, digits_of, is_below, below_some, value_of_decimal, decimal_of_value}
use Rattle.stimulus.proofs.Within.{IfLine, line_within, timed, sampled}

-- the first space of two fields comes right after the first one
first_space : (bs rest : List ℕ) → AllDigits 10 bs → position_or_len (λ b. nat_eq b 32) (bs ++ 32 ∷ rest) ≡ length bs
first_space [] rest h = refl
first_space (b ∷ bs) rest h =
    let on = tells_digits.parts b bs h in
    let low : 48 ≤ b = on.0.0 in
    let other : nat_eq b 32 ≡ false = grind (arith, nat_tests) in
    ap (λ t. cond (not t) (1 + position_or_len (λ b. nat_eq b 32) (bs ++ 32 ∷ rest)) 0) other
    ∙ (let next = first_space bs rest on.1 in omega arith)

at_space : (bs rest : List ℕ) → AllDigits 10 bs → position (λ b. nat_eq b 32) (bs ++ 32 ∷ rest) ≡ Some (length bs)
at_space bs rest h =
    let within : nat_lt (length bs) (length (bs ++ 32 ∷ rest)) ≡ true = let count : length (bs ++ 32 ∷ rest)
    ≡ length bs + suc (length rest) = length-append bs (32 ∷ rest) in grind (arith, nat_tests) in
    ap (λ n. cond (nat_lt n (length (bs ++ 32 ∷ rest))) (Some n) None) (first_space bs rest h)
    ∙ ap (λ t. cond t (Some (length bs)) None) within

past_space : (bs rest : List ℕ) → drop (length bs + 1) (bs ++ 32 ∷ rest) ≡ rest
past_space [] rest = refl
past_space (b ∷ bs) rest =
    ap (λ n. drop n (b ∷ (bs ++ 32 ∷ rest))) (let e : suc (length bs) + 1 ≡ suc (length bs + 1) = omega arith in e) ∙ past_space bs rest

sample_written : (events : ℕ) (s : SampleValue) → events ≤ 2 ^ 16 → IsSample events s
    → sample_line events (decimal s.event ++ (32 ∷ signed_decimal s.value)) ≡ Some (lines.Sample s)
sample_written events s few h =
    let e : List ℕ = decimal s.event in
    let v : List ℕ = signed_decimal s.value in
    let in_range : s.event < events = h.event in
    let small : s.event < 2 ^ 64 = omega arith in
    let event : below events (number (take (length e) (e ++ 32 ∷ v))) ≡ Some s.event =
    ap (λ l. below events (number l)) (take_at e (32 ∷ v) (length e) refl) ∙ ap (below events) (number_of_decimal s.event small)
    ∙ is_below events s.event in_range in
    let value : value_of (drop (length e + 1) (e ++ 32 ∷ v)) ≡ Some s.value = ap value_of (past_space e v)
    ∙ value_of_decimal s.value h.value in
    ap (option_and_then (sample_words events (e ++ 32 ∷ v))) (at_space e v (digits_of s.event small)) ∙ (λ i. sampled (event i) (value i))

no_dash_alone : (bs : List ℕ) → AllDigits 10 bs → bytes_eq bs (codes "-") ≡ false
no_dash_alone [] h = refl
no_dash_alone (b ∷ bs) h =
    let low : 48 ≤ b = (tells_digits.parts b bs h).0.0 in
    let other : nat_eq b 45 ≡ false = grind (arith, nat_tests) in
    ap (λ t. t && bytes_eq bs []) other

cycle_written : (time : ℕ) → time < 2 ^ 64 → cycle_line (decimal time) ≡ Some (lines.Cycle (Some time))
cycle_written time small =
    ap (λ t. cond t (Some (lines.Cycle None)) (timed (below (2 ^ 64) (number (decimal time)))))
    (no_dash_alone (decimal time) (digits_of time small))
    ∙ ap (λ o. timed (below (2 ^ 64) o)) (number_of_decimal time small) ∙ ap timed (is_below (2 ^ 64) time small)

cycle_prefix : (events : ℕ) (bytes : List ℕ) → line_of events (codes "cycle " ++ bytes) ≡ cycle_line bytes
unfolding line_of
cycle_prefix events bytes = refl

sample_prefix : (events : ℕ) (bytes : List ℕ) → line_of events (codes "sample " ++ bytes) ≡ sample_line events bytes
unfolding line_of
sample_prefix events bytes = refl

-- a line is read as it is spelled
pub line_of_spelling : (events : ℕ) (l : Line) → events ≤ 2 ^ 16 → IsLine events l → line_of events (spelling l) ≡ Some l
unfolding line_of
line_of_spelling events lines.Stim few h = refl
line_of_spelling events (lines.Cycle None) few h = refl
line_of_spelling events (lines.Cycle (Some time)) few h = cycle_prefix events (decimal time) ∙ cycle_written time h
line_of_spelling events (lines.Sample s) few h =
    sample_prefix events (decimal s.event ++ (codes " " ++ signed_decimal s.value)) ∙ sample_written events s few h
line_of_spelling events lines.Terminate few h = refl

from_time : (bytes : List ℕ) (o : Option ℕ) (l : Line) → below (2 ^ 64) (number bytes) ≡ o → timed o ≡ Some l → codes "cycle " ++ bytes
    ≡ spelling l
from_time bytes None l read e = absurd (cc)
from_time bytes (Some time) l read e =
    let found = below_some (2 ^ 64) time (number bytes) read in
    let same : lines.Cycle (Some time) ≡ l = cc in
    ap (λ b. codes "cycle " ++ b) (decimal_of_number bytes time found.0 found.1) ∙ ap spelling same

from_cycle : (bytes : List ℕ) (l : Line) → cycle_line bytes ≡ Some l → codes "cycle " ++ bytes ≡ spelling l
from_cycle bytes l e = choice (bytes_eq bytes (codes "-")) refl e where
  choice : (t : Bool) → bytes_eq bytes (codes "-") ≡ t → cond t (Some (lines.Cycle None)) (timed (below (2 ^ 64) (number bytes))) ≡ Some l
      → codes "cycle " ++ bytes ≡ spelling l
  choice true dash found =
      let same : lines.Cycle None ≡ l = cc in ap (λ b. codes "cycle " ++ b) (same_bytes bytes (codes "-") dash) ∙ ap spelling same
  choice false dash found = from_time bytes (below (2 ^ 64) (number bytes)) l refl found

from_sampled : (events : ℕ) (first second : List ℕ) (event : Option ℕ) (value : Option ℤ) (l : Line) → events ≤ 2 ^ 16
    → below events (number first) ≡ event → value_of second ≡ value → sampled event value ≡ Some l
    → codes "sample " ++ (first ++ (32 ∷ second)) ≡ spelling l
from_sampled events first second None value l few one two e = absurd (cc)
from_sampled events first second (Some event) None l few one two e = absurd (cc)
from_sampled events first second (Some event) (Some value) l few one two e =
    let found = below_some events event (number first) one in
    let small : event < events = found.1 in
    let same : lines.Sample (record { event = event; value = value }) ≡ l = cc in
    (λ i. codes "sample " ++ (decimal_of_number first event found.0 (omega arith) i ++ (32 ∷ decimal_of_value second value two i)))
    ∙ ap spelling same

parted : (words : List ℕ) (space : ℕ) → position (λ b. nat_eq b 32) words ≡ Some space → words ≡ take space words
    ++ (32 ∷ drop (space + 1) words)
parted words space e =
    let found = position-Some (λ b. nat_eq b 32) words space 0 e in
    let is : get_or words space 0 ≡ 32 = let test : nat_eq (get_or words space 0) 32 ≡ true = found.1 in grind (arith, nat_tests) in
    sym (take-append-drop space words)
    ∙ ap (λ l. take space words ++ l) (drop-cons words space 0 found.0 ∙ (λ i. is i ∷ drop (suc space) words)
    ∙ ap (λ n. 32 ∷ drop n words) (let k : suc space ≡ space + 1 = omega arith in k))

from_words : (events : ℕ) (words : List ℕ) (o : Option ℕ) (l : Line) → events ≤ 2 ^ 16 → position (λ b. nat_eq b 32) words ≡ o
    → option_and_then (sample_words events words) o ≡ Some l → codes "sample " ++ words ≡ spelling l
from_words events words None l few at e = absurd (cc)
from_words events words (Some space) l few at e =
    ap (λ b. codes "sample " ++ b) (parted words space at)
    ∙ from_sampled events (take space words) (drop (space + 1) words) (below events (number (take space words)))
    (value_of (drop (space + 1) words)) l few refl refl e

prefixed : (n : ℕ) (bytes front : List ℕ) → bytes_eq (take n bytes) front ≡ true → bytes ≡ front ++ drop n bytes
prefixed n bytes front e = sym (take-append-drop n bytes) ∙ ap (λ l. l ++ drop n bytes) (same_bytes (take n bytes) front e)

from_sample : (events : ℕ) (bytes : List ℕ) (l : Line) → events ≤ 2 ^ 16
    → cond (bytes_eq (take 7 bytes) (codes "sample ")) (sample_line events (drop 7 bytes)) None ≡ Some l → bytes ≡ spelling l
from_sample events bytes l few e = choice (bytes_eq (take 7 bytes) (codes "sample ")) refl e where
  choice : (t : Bool) → bytes_eq (take 7 bytes) (codes "sample ") ≡ t → cond t (sample_line events (drop 7 bytes)) None ≡ Some l → bytes
      ≡ spelling l
  choice true front found =
      prefixed 7 bytes (codes "sample ") front
      ∙ from_words events (drop 7 bytes) (position (λ b. nat_eq b 32) (drop 7 bytes)) l few refl found
  choice false front found = absurd (cc)

from_prefixed : (events : ℕ) (bytes : List ℕ) (l : Line) → events ≤ 2 ^ 16
    → cond (bytes_eq (take 6 bytes) (codes "cycle ")) (cycle_line (drop 6 bytes))
    (cond (bytes_eq (take 7 bytes) (codes "sample ")) (sample_line events (drop 7 bytes)) None) ≡ Some l → bytes ≡ spelling l
from_prefixed events bytes l few e = choice (bytes_eq (take 6 bytes) (codes "cycle ")) refl e where
  choice : (t : Bool) → bytes_eq (take 6 bytes) (codes "cycle ") ≡ t
      → cond t (cycle_line (drop 6 bytes)) (cond (bytes_eq (take 7 bytes) (codes "sample ")) (sample_line events (drop 7 bytes)) None)
      ≡ Some l → bytes ≡ spelling l
  choice true front found = prefixed 6 bytes (codes "cycle ") front ∙ from_cycle (drop 6 bytes) l found
  choice false front found = from_sample events bytes l few found

-- only the bytes that spell a line are read as it
pub spelling_of_line : (events : ℕ) (bytes : List ℕ) (l : Line) → events ≤ 2 ^ 16 → line_of events bytes ≡ Some l → bytes ≡ spelling l
unfolding line_of
spelling_of_line events bytes l few e = choice (bytes_eq bytes (codes "stim 1")) (bytes_eq bytes (codes "terminate")) refl refl e where
  choice : (t u : Bool) → bytes_eq bytes (codes "stim 1") ≡ t → bytes_eq bytes (codes "terminate") ≡ u
      → cond t (Some lines.Stim) (cond u (Some lines.Terminate)
      (cond (bytes_eq (take 6 bytes) (codes "cycle ")) (cycle_line (drop 6 bytes))
      (cond (bytes_eq (take 7 bytes) (codes "sample ")) (sample_line events (drop 7 bytes)) None))) ≡ Some l
      → bytes ≡ spelling l
  choice true u first last found = let same : lines.Stim ≡ l = cc in same_bytes bytes (codes "stim 1") first ∙ ap spelling same
  choice false true first last found = let same : lines.Terminate ≡ l = cc in same_bytes bytes (codes "terminate") last ∙ ap spelling same
  choice false false first last found = from_prefixed events bytes l few found

-- and what they say is within its limits
pub line_says : (events : ℕ) (bytes : List ℕ) (l : Line) → line_of events bytes ≡ Some l → IsLine events l
line_says events bytes l e = let P : Option Line → Type 0 = λ o. IfLine events o in subst P e (line_within events bytes)
