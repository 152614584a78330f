-- The end of a stimulus, after the bytes that were taken.
use Rattle.std.proofs.Common.{◌≡◌, ℕ, ◌+◌, List, [], ◌∷◌, ◌++◌, length, true, false, cond, Option, Some, None, refl, sym, ap}
use Rattle.std.proofs.Common.{◌∙◌, arith, append-nil, length-append}
use Rattle.std.specs.List.{onto_first}
use Rattle.stimulus.specs.declared.line_place.LinePlace.TheVariants as places
use Rattle.stimulus.specs.Places.{Place, Ended, Step}
use Rattle.stimulus.specs.Reading.{Reading, Terminated, BadLine, reading_from, parts, after}
use Rattle.stimulus.specs.Reading.{go_on, good_lines, ending, ending_of}
use Rattle.stimulus.specs.States.{counted_of}
use Rattle.stimulus.proofs.Parts.{is_lf, some_parts}
use Rattle.stimulus.proofs.Going.{at_open, open_missing}
use Rattle.det_stimulus_c.specs.declared.det_stimulus.DetStimulus.{DetStimulus}
use Rattle.det_stimulus_c.specs.Taken.{HasTaken, place_of}
use Rattle.det_stimulus_c.proofs.Steps.{head_is}
use Rattle.det_stimulus_c.proofs.Places.{ended_there}

-- a text with one part is that part
one_part : (xs line : List ℕ) → parts xs ≡ line ∷ [] → line ≡ xs
one_part [] line e = cc
one_part (x ∷ xs) line e =
    elim (is_lf x) as (λ t. cond t ([] ∷ parts xs) (onto_first x (parts xs)) ≡ line ∷ [] → line ≡ x ∷ xs) [
      | true ↦ λ e. let some = some_parts xs in let more : [] ∷ some.line ∷ some.others ≡ line ∷ [] = ap (λ l. [] ∷ l) (sym some.is) ∙ e in
          absurd cc
      | false ↦ λ e.
          let some = some_parts xs in
          let one : (x ∷ some.line) ∷ some.others ≡ line ∷ [] = ap (onto_first x) (sym some.is) ∙ e in
          let none : some.others ≡ [] = cc in
          let first : line ≡ x ∷ some.line = cc in
          first ∙ ap (λ l. x ∷ l) (one_part xs some.line (some.is ∙ ap (λ l. some.line ∷ l) none))
    ] e

-- a line that leads on is a good one
not_whole : (line : List ℕ) (o : Option Step) (next : Place → Reading) → (go_on line o next).head ≡ [] → (go_on line o next).is_whole ≡ false
not_whole line None next none = refl
not_whole line (Some s) next none = absurd cc

-- without a good line more, only the end of a text that has ended is whole
whole_by : (events : ℕ) (place : Place) (bytes : List ℕ) (texts : List (List ℕ)) → parts bytes ≡ texts
    → (reading_from events place texts).head ≡ []
    → ¬ ((place ≡ Ended) × (length bytes ≡ 0)) → (reading_from events place texts).is_whole ≡ false
unfolding reading_from
whole_by events place bytes [] is none other = refl
whole_by events place bytes (line ∷ []) is none other =
    open_missing place line (λ p. other (p.0, ap length (sym (one_part bytes line is)) ∙ p.1))
whole_by events place bytes (line ∷ next ∷ later) is none other = not_whole line _ _ none

nothing_more : (xs ys : List (List ℕ)) → xs ++ ys ≡ xs → ys ≡ []
nothing_more xs [] e = refl
nothing_more xs (y ∷ ys) e =
    let same : length xs + length (y ∷ ys) ≡ length xs = sym (length-append xs (y ∷ ys)) ∙ ap length e in absurd (omega arith)

-- what comes after the lines that were taken has no good line
no_head : (s : DetStimulus) (text bytes : List ℕ) (h : HasTaken s text) → good_lines s.events (text ++ bytes) ≡ good_lines s.events text
    → (reading_from s.events h.place (parts bytes)).head ≡ []
no_head s text bytes h same =
    nothing_more h.head _ (ap (λ (r : Reading). r.head) (sym (h.resumes bytes)) ∙ same ∙ head_is s text h)

pub ends_whole : (s : DetStimulus) (text bytes : List ℕ) → place_of s ≡ places.Ended → length bytes ≡ 0 → HasTaken s text
    → ending s.events (text ++ bytes) ≡ Terminated
ends_whole s text [] ended none h =
    ap ending_of (h.resumes []) ∙ ap (λ p. ending_of (after h.head h.items (reading_from s.events p (parts []))))
    (ended_there h.place (h.counted ∙ ended))
    ∙ ap (λ r. ending_of (after h.head h.items r)) (at_open s.events Ended [])
ends_whole s text (b ∷ bs) ended none h = absurd (omega arith)

bad_by : (head : List (List ℕ)) (lines : ℕ) (r : Reading) → length head ≡ lines → r.is_whole ≡ false → r.head ≡ []
    → (cond r.is_whole Terminated (BadLine (length (head ++ r.head) + 1))) ≡ BadLine (lines + 1)
bad_by head lines r count broken none =
    ap (λ t. cond t Terminated (BadLine (length (head ++ r.head) + 1))) broken
    ∙ ap (λ (l : List (List ℕ)). BadLine (length l + 1)) (ap (λ l. head ++ l) none ∙ append-nil head) ∙ ap (λ n. BadLine (n + 1)) count

pub ends_bad : (s : DetStimulus) (text bytes : List ℕ) → ¬ ((place_of s ≡ places.Ended) × (length bytes ≡ 0))
    → good_lines s.events (text ++ bytes) ≡ good_lines s.events text → HasTaken s text
    → ending s.events (text ++ bytes) ≡ BadLine (s.lines + 1)
ends_bad s text bytes other same h =
    let none = no_head s text bytes h same in
    let broken = whole_by s.events h.place bytes (parts bytes) refl none
    (λ p. other (sym h.counted ∙ ap counted_of p.0, p.1)) in
    ap ending_of (h.resumes bytes) ∙ bad_by h.head s.lines (reading_from s.events h.place (parts bytes)) h.lines broken none
