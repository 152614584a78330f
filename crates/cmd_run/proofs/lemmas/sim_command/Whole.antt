-- A made text is a whole stimulus.
use Rattle.std.proofs.Common.{◌≡◌, ℕ, zero, suc, ◌+◌, ◌*◌, ◌^◌, ◌<◌, ◌≤◌, ℤ, pos, negsuc, List, [], ◌∷◌, ◌++◌, length, Bool, true, false}
use Rattle.std.proofs.Common.{cond, nat_lt, Option, Some, None, refl, ap, ◌∙◌, arith, rules, lit<, append_assoc, length-append, codes}
use Rattle.std.specs.Fmt.{decimal, signed_decimal}
use Rattle.std.specs.List.{All}
use Rattle.std.specs.Str.Parse.{AllDigits}
use Rattle.std.proofs.lemmas.List.Elements.{All-nil, All-cons, All-append, All-from_recursion}
use Rattle.std.proofs.lemmas.List.Splits.{slice_split_at}
use Rattle.std.proofs.lemmas.Fmt.{decimal_digit, length-decimal-le}
use Rattle.std.proofs.lemmas.Str.Parse.{tells_digits}
use Rattle.std.proofs.lemmas.Bool.Decides.{nat_tests}
use Rattle.std.proofs.lemmas.Int.{ints}
use Rattle.det_values.specs.Limits.{IsSampleValue}
use Rattle.det_values.specs.declared.frames.CycleInput.{CycleInput}
use Rattle.stimulus.specs.declared.parse_line.Line.{Line}
use Rattle.stimulus.specs.declared.parse_line.Line.TheVariants as lines
use Rattle.stimulus.specs.declared.stimulus_item.StimulusItem.{StimulusItem}
use Rattle.stimulus.specs.declared.stimulus_item.StimulusItem.TheVariants as items
use Rattle.stimulus.specs.Limits.{IsLine}
use Rattle.stimulus.specs.Lines.{spelling}
use Rattle.stimulus.specs.Places.{Place, First, Between, Inside, Ended, step, taken, empty_block, with_sample}
use Rattle.stimulus.specs.GeneratedText.{word, made_value, block_text, made_blocks, made}
use Rattle.stimulus.specs.Reading.{Terminated, BadLine, parts, reading, reading_from, ending}
use Rattle.stimulus.proofs.Parts.{is_lf}
use Rattle.stimulus.proofs.Signed.{digits_of}
use Rattle.stimulus.proofs.Writing.{line_of_spelling}
use Rattle.stimulus.proofs.Going.{goes_on, taken_there, at_open}

-- without the end of a line
abbrev IsInLine : List ℕ → Type 0
IsInLine bytes = All (λ b. is_lf b ≡ false) bytes

digits_in_line : (bytes : List ℕ) → AllDigits 10 bytes → IsInLine bytes
digits_in_line [] h = All-nil (λ b. is_lf b ≡ false)
digits_in_line (b ∷ bytes) h =
    let on = tells_digits.parts b bytes h in
    let low : 48 ≤ b = on.0.0 in
    All-cons (λ b. is_lf b ≡ false) b bytes (grind (arith, nat_tests)) (digits_in_line bytes on.1)

decimal_in_line : (n : ℕ) → n < 2 ^ 64 → IsInLine (decimal n)
decimal_in_line n small = digits_in_line (decimal n) (digits_of n small)

value_in_line : (v : ℤ) → IsSampleValue v → IsInLine (signed_decimal v)
value_in_line (pos n) h = decimal_in_line n (omega (arith, ints))
value_in_line (negsuc n) h = All-cons (λ b. is_lf b ≡ false) 45 (decimal (suc n)) refl (decimal_in_line (suc n) (omega (arith, ints)))

number_short : (n : ℕ) → n < 2 ^ 64 → length (decimal n) ≤ 20
number_short n small = length-decimal-le 20 n (omega arith) (omega arith) small

value_short : (v : ℤ) → IsSampleValue v → length (signed_decimal v) ≤ 21
value_short (pos n) h = let short = number_short n (omega (arith, ints)) in omega arith
value_short (negsuc n) h = let short = number_short (suc n) (omega (arith, ints)) in omega arith

-- a line, whatever follows it
line_cut : (line rest : List ℕ) → IsInLine line → parts (line ++ 10 ∷ rest) ≡ line ∷ parts rest
line_cut line rest h = slice_split_at is_lf line 10 rest h refl

-- whether the rest of a text, from a place on, ends a whole stimulus
abbrev is_whole_from : Place → List ℕ → Bool
is_whole_from place text = (reading_from 3 place (parts text)).is_whole

-- a line that leads from a place to another
line_leads : (place next : Place) (given : List StimulusItem) (l : Line) (rest : List ℕ) → IsLine 3 l → IsInLine (spelling l)
    → length (spelling l) ≤ 128 → taken place l ≡ step given next
    → is_whole_from place (spelling l ++ 10 ∷ rest) ≡ is_whole_from next rest
line_leads place next given l rest within in_line short leads =
    ap (λ r. r.is_whole) (goes_on 3 place next (spelling l) (spelling l ++ 10 ∷ rest) rest given (line_cut (spelling l) rest in_line)
    (taken_there 3 place (spelling l) l short (line_of_spelling 3 l (omega arith) within) ∙ leads))

abbrev at_time : ℕ → Line
at_time time = lines.Cycle (Some time)

cycle_leads : (place next : Place) (given : List StimulusItem) (time : ℕ) (rest : List ℕ) → time < 2 ^ 64
    → taken place (at_time time) ≡ step given next
    → is_whole_from place ((codes "cycle " ++ decimal time) ++ 10 ∷ rest) ≡ is_whole_from next rest
cycle_leads place next given time rest small leads =
    let few : length (decimal time) ≤ 20 = number_short time small in
    line_leads place next given (at_time time) rest small
    (All-append (λ b. is_lf b ≡ false) (codes "cycle ") (decimal time)
    (All-from_recursion (λ b. is_lf b ≡ false) (codes "cycle ") (search rules)) (decimal_in_line time small))
    (simp length-append (omega arith)) leads

abbrev sampled : ℕ → ℤ → Line
sampled event value = lines.Sample (record { event = event; value = value })

sample_leads : (place next : Place) (given : List StimulusItem) (event : ℕ) (value : ℤ) (rest : List ℕ) → event < 3 → IsSampleValue value
    → taken place (sampled event value) ≡ step given next
    → is_whole_from place ((codes "sample " ++ (decimal event ++ (codes " " ++ signed_decimal value))) ++ 10 ∷ rest) ≡ is_whole_from next
    rest
sample_leads place next given event value rest few within leads =
    let number : length (decimal event) ≤ 20 = number_short event (omega arith) in
    let words : length (signed_decimal value) ≤ 21 = value_short value within in
    line_leads place next given (sampled event value) rest (record { event = few; value = within })
    (All-append (λ b. is_lf b ≡ false) (codes "sample ") (decimal event ++ (codes " " ++ signed_decimal value))
    (All-from_recursion (λ b. is_lf b ≡ false) (codes "sample ") (search rules))
    (All-append (λ b. is_lf b ≡ false) (decimal event) (codes " " ++ signed_decimal value) (decimal_in_line event (omega arith))
    (All-cons (λ b. is_lf b ≡ false) 32 (signed_decimal value) refl (value_in_line value within))))
    (simp length-append (omega arith)) leads

-- its line for a sample
abbrev sample_text : ℕ → ℤ → List ℕ
sample_text event value = codes "sample " ++ (decimal event ++ (codes " " ++ signed_decimal value))

block_lines : (time : ℕ) (first second : ℤ) (rest : List ℕ)
    → block_text time first second ++ rest ≡ (codes "cycle " ++ decimal time)
    ++ 10 ∷ (sample_text 0 first ++ 10 ∷ (sample_text 1 second ++ 10 ∷ rest))
block_lines time first second rest = simp (append_assoc, decimal_digit 0 (lit< tt), decimal_digit 1 (lit< tt))

-- one block leads on, from before the first one or from another
block_leads : (place : Place) (given : List StimulusItem) (number time : ℕ) (first second : ℤ) (rest : List ℕ) → time < 2 ^ 64
    → IsSampleValue first → IsSampleValue second
    → taken place (at_time time) ≡ step given (Inside number (empty_block (Some time)))
    → is_whole_from place (block_text time first second ++ rest)
    ≡ is_whole_from (Inside number (record {
      time = Some time;
      samples = record { event = 0; value = first } ∷ record
          { event = 1; value = second } ∷ [];
    })) rest
block_leads place given number time first second rest small one two leads =
    let begins : CycleInput = empty_block (Some time) in
    let more : CycleInput = with_sample begins (record { event = 0; value = first }) in
    let last : List ℕ = sample_text 1 second ++ 10 ∷ rest in
    ap (is_whole_from place) (block_lines time first second rest)
    ∙ cycle_leads place (Inside number begins) given time (sample_text 0 first ++ 10 ∷ last) small leads
    ∙ sample_leads (Inside number begins) (Inside number more) [] 0 first last (omega arith) one refl
    ∙ sample_leads (Inside number more) (Inside number (with_sample more (record { event = 1; value = second }))) [] 1 second rest
    (omega arith) two refl

made_within : (w : ℕ) → IsSampleValue (made_value w)
made_within w = (omega (arith, ints), omega (arith, ints))

-- the input of block n, counted from 0
abbrev made_input : ℕ → ℕ → CycleInput
made_input k n = record {
  time = Some (10000000 * n);
  samples = record { event = 0; value = made_value (word k (2 * n)) } ∷ record { event = 1; value = made_value (word k (2 * n + 1)) } ∷ [];
}

-- what comes before a line that follows the first n blocks
abbrev place_behind : ℕ → ℕ → Place
place_behind k zero = Between
place_behind k (suc n) = Inside (suc n) (made_input k n)

abbrev made_block : ℕ → ℕ → List ℕ
made_block k n = block_text (10000000 * n) (made_value (word k (2 * n))) (made_value (word k (2 * n + 1)))

another_block : (n : ℕ) (input : CycleInput) (time : Option ℕ) → n < 1000000
    → taken (Inside n input) (lines.Cycle time) ≡ step (items.Cycle input ∷ []) (Inside (suc n) (empty_block time))
another_block n input time few =
    let test : nat_lt n 1000000 ≡ true = grind (arith, nat_tests) in
    ap (λ t. cond t (step (items.Cycle input ∷ []) (Inside (n + 1) (empty_block time))) None) test
    ∙ ap (λ m. step (items.Cycle input ∷ []) (Inside m (empty_block time))) (omega arith)

next_leads : (k n : ℕ) (rest : List ℕ) → n < 1000 → is_whole_from (place_behind k n) (made_block k n ++ rest) ≡ is_whole_from
    (place_behind k (suc n)) rest
next_leads k zero rest few =
    block_leads Between [] 1 0 (made_value (word k 0)) (made_value (word k 1)) rest (omega arith) (made_within (word k 0))
    (made_within (word k 1)) refl
next_leads k (suc n) rest few =
    let m : ℕ = suc n in
    let input : CycleInput = made_input k n in
    block_leads (Inside m input) (items.Cycle input ∷ []) (suc m) (10000000 * m) (made_value (word k (2 * m)))
    (made_value (word k (2 * m + 1))) rest (omega arith)
    (made_within (word k (2 * m))) (made_within (word k (2 * m + 1))) (another_block m input (Some (10000000 * m)) (omega arith))

blocks_lead : (k n : ℕ) (rest : List ℕ) → n ≤ 1000 → is_whole_from Between (made_blocks k n ++ rest) ≡ is_whole_from (place_behind k n) rest
unfolding made_blocks
blocks_lead k zero rest few = refl
blocks_lead k (suc n) rest few =
    ap (is_whole_from Between) (append_assoc (made_blocks k n) (made_block k n) rest)
    ∙ blocks_lead k n (made_block k n ++ rest) (omega arith) ∙ next_leads k n rest (omega arith)

first_leads : (rest : List ℕ) → is_whole_from First (codes "stim 1\n" ++ rest) ≡ is_whole_from Between rest
first_leads rest = line_leads First Between [] lines.Stim rest tt
    (All-from_recursion (λ b. is_lf b ≡ false) (codes "stim 1") (search rules)) (omega arith) refl

ends : (n : ℕ) (input : CycleInput) → is_whole_from (Inside n input) (codes "terminate\n") ≡ true
ends n input =
    line_leads (Inside n input) Ended (items.Cycle input ∷ items.Terminate ∷ []) lines.Terminate [] tt
    (All-from_recursion (λ b. is_lf b ≡ false) (codes "terminate") (search rules)) (omega arith) refl
    ∙ ap (λ r. r.is_whole) (at_open 3 Ended [])

-- the result for a generated text is never a bad line
pub made-is-good : (k : ℕ) → ending 3 (made k) ≡ Terminated
made-is-good k =
    let good : (reading 3 (made k)).is_whole ≡ true =
    ap (is_whole_from First) (append_assoc (codes "stim 1\n") (made_blocks k 200) (codes "terminate\n"))
    ∙ first_leads (made_blocks k 200 ++ codes "terminate\n")
    ∙ blocks_lead k 200 (codes "terminate\n") (omega arith) ∙ ends 200 (made_input k 199) in
    ap (λ t. cond t Terminated (BadLine (length (reading 3 (made k)).head + 1))) good
