-- Reading on from a place.
use Rattle.std.proofs.Common.{◌≡◌, ℕ, ◌<◌, ◌≤◌, List, [], ◌∷◌, ◌++◌, length, true, false, cond, nat_lt, Option, Some, None, refl, sym, ap}
use Rattle.std.proofs.Common.{◌∙◌, arith, append_assoc, append-nil}
use Rattle.std.proofs.lemmas.Bool.Decides.{nat_tests}
use Rattle.std.specs.Prelude.{option_and_then}
use Rattle.std.specs.List.{onto_first}
use Rattle.stimulus.specs.declared.parse_line.Line.{Line}
use Rattle.stimulus.specs.declared.parse_line.Line.TheVariants as lines
use Rattle.stimulus.specs.declared.stimulus_item.StimulusItem.{StimulusItem}
use Rattle.stimulus.specs.Lines.{line_of}
use Rattle.stimulus.specs.Places.{Place, First, Between, Inside, Ended, step, taken}
use Rattle.stimulus.specs.FirstLine.{IsLong}
use Rattle.stimulus.specs.Reading.{Reading, reading_from, parts, after, bad_at_once, at_end, text_step, go_on}
use Rattle.stimulus.specs.StandsFor.{bad_reading}
use Rattle.stimulus.proofs.Parts.{is_lf, some_parts}

pub after_after : (h k : List (List ℕ)) (given more : List StimulusItem) (r : Reading) → after h given (after k more r)
    ≡ after (h ++ k) (given ++ more) r
after_after h k given more r = λ i. record {
  head = sym (append_assoc h k r.head) i;
  items = sym (append_assoc given more r.items) i;
  is_whole = r.is_whole;
  bad_is_fed = r.bad_is_fed;
}

-- a whole line is taken
pub read_whole : (events : ℕ) (place : Place) (line ys : List ℕ) → reading_from events place (line ∷ parts ys)
    ≡ go_on line (text_step events place line) (λ p. reading_from events p (parts ys))
unfolding reading_from
read_whole events place line ys =
    let some = some_parts ys in
    ap (λ t. reading_from events place (line ∷ t)) some.is
    ∙ ap (λ t. go_on line (text_step events place line) (λ p. reading_from events p t)) (sym some.is)

pub taken_there : (events : ℕ) (place : Place) (line : List ℕ) (l : Line) → length line ≤ 128 → line_of events line ≡ Some l
    → text_step events place line ≡ taken place l
taken_there events place line l short e =
    let test : nat_lt 128 (length line) ≡ false = grind (arith, nat_tests) in
    ap (λ t. cond t None (option_and_then (taken place) (line_of events line))) test ∙ ap (option_and_then (taken place)) e

pub none_there : (events : ℕ) (place : Place) (line : List ℕ) → line_of events line ≡ None → text_step events place line ≡ None
none_there events place line e =
    elim (nat_lt 128 (length line)) as (λ t. cond t None (option_and_then (taken place) (line_of events line)) ≡ None) [
      | true ↦ refl
      | false ↦ ap (option_and_then (taken place)) e
    ]

long_there : (events : ℕ) (place : Place) (line : List ℕ) → 128 < length line → text_step events place line ≡ None
long_there events place line long =
    let test : nat_lt 128 (length line) ≡ true = grind (arith, nat_tests) in
    ap (λ t. cond t None (option_and_then (taken place) (line_of events line))) test

nothing_after : (l : Option Line) → option_and_then (taken Ended) l ≡ None
nothing_after None = refl
nothing_after (Some lines.Stim) = refl
nothing_after (Some (lines.Cycle time)) = refl
nothing_after (Some (lines.Sample sample)) = refl
nothing_after (Some lines.Terminate) = refl

pub ended_there : (events : ℕ) (line : List ℕ) → text_step events Ended line ≡ None
ended_there events line =
    elim (nat_lt 128 (length line)) as (λ t. cond t None (option_and_then (taken Ended) (line_of events line)) ≡ None) [
      | true ↦ refl
      | false ↦ nothing_after (line_of events line)
    ]

-- a line that leads on
pub goes_on : (events : ℕ) (place p : Place) (line xs ys : List ℕ) (given : List StimulusItem) → parts xs ≡ line ∷ parts ys
    → text_step events place line ≡ step given p
    → reading_from events place (parts xs) ≡ after (line ∷ []) given (reading_from events p (parts ys))
goes_on events place p line xs ys given cut taken =
    ap (reading_from events place) cut ∙ read_whole events place line ys
    ∙ ap (λ s. go_on line s (λ q. reading_from events q (parts ys))) taken

-- a line that may not come there
pub is_bad : (events : ℕ) (place : Place) (line xs ys : List ℕ) → parts xs ≡ line ∷ parts ys → text_step events place line ≡ None
    → reading_from events place (parts xs) ≡ bad_at_once true
is_bad events place line xs ys cut taken =
    ap (reading_from events place) cut ∙ read_whole events place line ys
    ∙ ap (λ s. go_on line s (λ q. reading_from events q (parts ys))) taken

at_end_long : (place : Place) (line : List ℕ) → 128 < length line → at_end place line ≡ bad_at_once true
at_end_long Ended [] long = absurd (omega arith)
at_end_long Ended (b ∷ bs) long = refl
at_end_long First line long = let test : nat_lt 128 (length line) ≡ true = grind (arith, nat_tests) in ap bad_at_once test
at_end_long Between line long = let test : nat_lt 128 (length line) ≡ true = grind (arith, nat_tests) in ap bad_at_once test
at_end_long (Inside n input) line long = let test : nat_lt 128 (length line) ≡ true = grind (arith, nat_tests) in ap bad_at_once test

pub first_long : (events : ℕ) (place : Place) (line : List ℕ) (others : List (List ℕ)) → 128 < length line
    → reading_from events place (line ∷ others) ≡ bad_at_once true
unfolding reading_from
first_long events place line [] long = at_end_long place line long
first_long events place line (o ∷ os) long =
    ap (λ s. go_on line s (λ p. reading_from events p (o ∷ os))) (long_there events place line long)

-- a line that is too long
pub is_long : (events : ℕ) (place : Place) (xs : List ℕ) → IsLong (parts xs) → reading_from events place (parts xs) ≡ bad_at_once true
is_long events place xs h = ap (reading_from events place) h.is ∙ first_long events place h.line h.others h.long

pub first_ended : (events b : ℕ) (line : List ℕ) (others : List (List ℕ)) → reading_from events Ended ((b ∷ line) ∷ others)
    ≡ bad_at_once true
unfolding reading_from
first_ended events b line [] = refl
first_ended events b line (o ∷ os) = ap (λ s. go_on (b ∷ line) s (λ p. reading_from events p (o ∷ os))) (ended_there events (b ∷ line))

-- a byte after the line `terminate`
pub is_past : (events b : ℕ) (xs : List ℕ) → reading_from events Ended (parts (b ∷ xs)) ≡ bad_at_once true
is_past events b xs =
    elim (is_lf b) as (λ t. reading_from events Ended (cond t ([] ∷ parts xs) (onto_first b (parts xs))) ≡ bad_at_once true) [
      | true ↦ read_whole events Ended [] xs ∙ ap (λ s. go_on [] s (λ q. reading_from events q (parts xs))) (ended_there events [])
      | false ↦ let some =
          some_parts xs in ap (λ t. reading_from events Ended (onto_first b t)) some.is ∙ first_ended events b some.line some.others
    ]

pub at_open : (events : ℕ) (place : Place) (line : List ℕ) → reading_from events place (line ∷ []) ≡ at_end place line
unfolding reading_from
at_open events place line = refl

-- a line that isn't whole completes nothing, and isn't among the good ones
pub open_line : (place : Place) (line : List ℕ) → ((at_end place line).items ≡ []) × ((at_end place line).head ≡ [])
open_line Ended [] = (refl, refl)
open_line Ended (b ∷ bs) = (refl, refl)
open_line First line = (refl, refl)
open_line Between line = (refl, refl)
open_line (Inside n input) line = (refl, refl)

pub open_fed : (place : Place) (line : List ℕ) → length line ≤ 128 → ¬ ((place ≡ Ended) × (0 < length line))
    → (at_end place line).bad_is_fed ≡ false
open_fed Ended [] short other = refl
open_fed Ended (b ∷ bs) short other = absurd (other (refl, omega arith))
open_fed First line short other = grind (arith, nat_tests)
open_fed Between line short other = grind (arith, nat_tests)
open_fed (Inside n input) line short other = grind (arith, nat_tests)

pub open_missing : (place : Place) (line : List ℕ) → ¬ ((place ≡ Ended) × (length line ≡ 0)) → (at_end place line).is_whole ≡ false
open_missing Ended [] other = absurd (other (refl, refl))
open_missing Ended (b ∷ bs) other = refl
open_missing First line other = refl
open_missing Between line other = refl
open_missing (Inside n input) line other = refl

pub ended_whole : (line : List ℕ) → length line ≡ 0 → (at_end Ended line).is_whole ≡ true
ended_whole [] none = refl
ended_whole (b ∷ bs) none = absurd (omega arith)

-- after a line that may not come there, there is no other result
pub after_bad : (head : List (List ℕ)) (given : List StimulusItem) → after head given (bad_at_once true) ≡ bad_reading head given
after_bad head given = λ i. record { head = append-nil head i; items = append-nil given i; is_whole = false; bad_is_fed = true }
