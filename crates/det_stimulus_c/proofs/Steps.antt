-- What a step finds after the bytes that were taken.
use Rattle.std.proofs.Common.{◌≡◌, ℕ, ◌+◌, ◌<◌, ◌≤◌, ◌-◌, List, [], ◌∷◌, ◌++◌, length, take, drop, true, false, Some, None, sym, ap}
use Rattle.std.proofs.Common.{◌∙◌, arith, append_assoc, append-nil, length-append, length-take, subst, take-append-drop}
use Rattle.stimulus.specs.declared.parse_line.Line.{Line}
use Rattle.stimulus.specs.declared.line_place.LinePlace.TheVariants as places
use Rattle.stimulus.specs.declared.first_line.FirstLine.TheVariants.{Whole, Open, TooLong}
use Rattle.stimulus.specs.FirstLine.{FirstLineIs, IsLong}
use Rattle.stimulus.specs.Lines.{line_of}
use Rattle.stimulus.specs.Places.{Place, Ended, step, taken}
use Rattle.stimulus.specs.Reading.{Reading, reading, reading_from, parts, after, bad_at_once, at_end, text_step, good_lines}
use Rattle.stimulus.specs.States.{counted_of, FollowingIs}
use Rattle.stimulus.proofs.Going.{after_after, goes_on, is_bad, is_long, is_past, taken_there, none_there, at_open, open_line, open_fed}
use Rattle.det_stimulus_c.specs.declared.det_stimulus.DetStimulus.{DetStimulus}
use Rattle.det_stimulus_c.specs.Taken.{HasTaken, MayPrecede, place_of}
use Rattle.det_stimulus_c.specs.Steps.{HasNoMore, IsTaken, GoesOn, TakenIs, FoundIs}
use Rattle.det_stimulus_c.specs.declared.found.Found.{Found}
use Rattle.det_stimulus_c.specs.declared.found.Found.TheVariants.{More, Good, Bad}
use Rattle.det_stimulus_c.proofs.Places.{precedes_next, MayPrecedeNext, few_lines, has_step, no_step, ended_there}

-- the good lines are those that were taken
pub head_is : (s : DetStimulus) (text : List ℕ) (h : HasTaken s text) → good_lines s.events text ≡ h.head
head_is s text h =
    ap (good_lines s.events) (sym (append-nil text)) ∙ ap (λ (r : Reading). r.head) (h.resumes [])
    ∙ ap (λ (r : Reading). h.head ++ r.head) (at_open s.events h.place []) ∙ ap (λ l. h.head ++ l) (open_line h.place []).1
    ∙ append-nil h.head

-- the next line is bad
pub no_more_bad : (s : DetStimulus) (text bytes : List ℕ) (h : HasTaken s text)
    → reading_from s.events h.place (parts bytes) ≡ bad_at_once true → HasNoMore true s.events text bytes
no_more_bad s text bytes h bad =
    let e : reading s.events (text ++ bytes) ≡ after h.head h.items (bad_at_once true) =
    h.resumes bytes ∙ ap (after h.head h.items) bad in
    (ap (λ (r : Reading). r.head) e ∙ append-nil h.head ∙ sym (head_is s text h), ap (λ (r : Reading). r.bad_is_fed) e)

-- a line that is too long
pub long_found : (s : DetStimulus) (text bytes : List ℕ) → FirstLineIs TooLong bytes → HasTaken s text
    → HasNoMore true s.events text bytes
long_found s text bytes long h =
    no_more_bad s text bytes h
    (is_long s.events h.place bytes (subst (λ (l : List ℕ). IsLong (parts l)) (append-nil bytes) (long [])))

past_end : (events : ℕ) (place : Place) (bytes : List ℕ) → place ≡ Ended → 0 < length bytes
    → reading_from events place (parts bytes) ≡ bad_at_once true
past_end events place [] ended some = absurd (omega arith)
past_end events place (b ∷ bs) ended some = ap (λ p. reading_from events p (parts (b ∷ bs))) ended ∙ is_past events b bs

-- a byte after the end
pub past_found : (s : DetStimulus) (text bytes : List ℕ) → place_of s ≡ places.Ended → 0 < length bytes → HasTaken s text
    → HasNoMore true s.events text bytes
past_found s text bytes ended some h =
    no_more_bad s text bytes h (past_end s.events h.place bytes (ended_there h.place (h.counted ∙ ended)) some)

-- no whole line
pub open_found : (s : DetStimulus) (text bytes : List ℕ) → FirstLineIs Open bytes → ¬ ((place_of s ≡ places.Ended) × (0 < length bytes))
    → HasTaken s text → HasNoMore false s.events text bytes
open_found s text bytes first other h =
    let e : reading s.events (text ++ bytes) ≡ after h.head h.items (at_end h.place bytes) =
    h.resumes bytes
    ∙ ap (λ l. after h.head h.items (reading_from s.events h.place l)) first.1
    ∙ ap (after h.head h.items) (at_open s.events h.place bytes) in
    let there : ¬ ((h.place ≡ Ended) × (0 < length bytes)) =
    λ p. other (sym h.counted ∙ ap counted_of p.0, p.1) in (
      ap (λ (r : Reading). r.head) e ∙ ap (λ l. h.head ++ l) (open_line h.place bytes).1 ∙ append-nil h.head ∙ sym (head_is s text h),
      ap (λ (r : Reading). r.bad_is_fed) e ∙ open_fed h.place bytes first.0 there,
    )

-- the parts after a whole line
cut_there : (bytes : List ℕ) (end : ℕ) → FirstLineIs (Whole end) bytes → parts bytes ≡ take end bytes ∷ parts (drop (end + 1) bytes)
cut_there bytes end first = ap parts (sym (take-append-drop (end + 1) bytes)) ∙ first.2 (drop (end + 1) bytes)

-- a whole line that may not come, or that isn't spelled well
pub bad_found : (s : DetStimulus) (text bytes : List ℕ) (end : ℕ) → FirstLineIs (Whole end) bytes
    → ((h : HasTaken s text) → text_step s.events h.place (take end bytes) ≡ None) → HasTaken s text → HasNoMore true s.events text bytes
bad_found s text bytes end first none h =
    no_more_bad s text bytes h
    (is_bad s.events h.place (take end bytes) bytes (drop (end + 1) bytes) (cut_there bytes end first) (none h))

pub unspelled_found : (s : DetStimulus) (text bytes : List ℕ) (end : ℕ) → FirstLineIs (Whole end) bytes
    → line_of s.events (take end bytes) ≡ None → HasTaken s text → HasNoMore true s.events text bytes
unspelled_found s text bytes end first none h =
    bad_found s text bytes end first (λ g. none_there s.events g.place (take end bytes) none) h

line_short : (bytes : List ℕ) (end : ℕ) → FirstLineIs (Whole end) bytes → length (take end bytes) ≤ 128
line_short bytes end first = let few : end ≤ 128 = first.1 in omega (arith, length-take end bytes)

pub misplaced_found : (s : DetStimulus) (text bytes : List ℕ) (end : ℕ) (line : Line) → FirstLineIs (Whole end) bytes
    → line_of s.events (take end bytes) ≡ Some line → FollowingIs None (place_of s) line → HasTaken s text
    → HasNoMore true s.events text bytes
misplaced_found s text bytes end line first spelled none h =
    bad_found s text bytes end first
    (λ g. taken_there s.events g.place (take end bytes) line (line_short bytes end first) spelled
    ∙ no_step g.place line (place_of s) g.counted none)
    h

-- a line that may come was taken
moved : (old new : DetStimulus) (text bytes : List ℕ) (end : ℕ) (line : Line) → FirstLineIs (Whole end) bytes
    → line_of old.events (take end bytes) ≡ Some line → FollowingIs (Some (place_of new)) (place_of old) line
    → GoesOn (place_of new) old new → HasTaken old text → HasTaken new (text ++ take (end + 1) bytes)
moved old new text bytes end line first spelled follows on h =
    let there = has_step h.place line (place_of new) (place_of old) h.counted follows in
    let l : List ℕ = take end bytes in
    let taken_text : List ℕ = take (end + 1) bytes in
    let more : MayPrecede (old.lines + 1) (counted_of there.step.place) =
    subst (MayPrecedeNext old.lines) there.is
    (precedes_next h.place line old.lines (subst (MayPrecede old.lines) (sym h.counted) h.few)) in
    let lines : new.lines ≡ old.lines + 1 = on.lines (few_lines old.lines (place_of old) h.few) in
    let takes : text_step old.events h.place l ≡ step there.step.items there.step.place =
    taken_there old.events h.place l line (line_short bytes end first) spelled ∙ there.is in
    record {
      head = h.head ++ l ∷ [];
      items = h.items ++ there.step.items;
      place = there.step.place;
      counted = there.counted;
      lines = length-append h.head (l ∷ []) ∙ ap (λ n. n + 1) h.lines ∙ sym lines;
      few = subst (λ n. MayPrecede n (place_of new)) (sym lines) (subst (MayPrecede (old.lines + 1)) there.counted more);
      resumes = λ tail.
          ap (λ e. reading e ((text ++ taken_text) ++ tail)) on.events
          ∙ ap (reading old.events) (append_assoc text taken_text tail) ∙ h.resumes (taken_text ++ tail)
          ∙ ap (after h.head h.items)
          (goes_on old.events h.place there.step.place l (taken_text ++ tail) tail there.step.items (first.2 tail) takes)
          ∙ after_after h.head (l ∷ []) h.items there.step.items (reading_from old.events there.step.place (parts tail))
          ∙ ap (λ e. after (h.head ++ l ∷ []) (h.items ++ there.step.items) (reading_from e there.step.place (parts tail)))
          (sym on.events);
    }

one_less : (n : ℕ) → n + 1 - 1 ≡ n
one_less n = omega arith

pub line_found : (old new : DetStimulus) (text bytes : List ℕ) (end : ℕ) (line : Line) → FirstLineIs (Whole end) bytes
    → line_of old.events (take end bytes) ≡ Some line → FollowingIs (Some (place_of new)) (place_of old) line
    → GoesOn (place_of new) old new → HasTaken old text → IsTaken line (end + 1) old new text bytes
unfolding moved
line_found old new text bytes end line first spelled follows on h =
    let next = moved old new text bytes end line first spelled follows on h in
    let same : take (end + 1 - 1) bytes ≡ take end bytes = ap (λ n. take n bytes) (one_less end) in
    let within : end < length bytes = first.0 in
    let short : end ≤ 128 = first.1 in
    record {
      within = omega arith;
      few = omega arith;
      content = ap (line_of old.events) same ∙ spelled;
      good =
          ap (λ e. good_lines e (text ++ take (end + 1) bytes)) (sym on.events) ∙ head_is new (text ++ take (end + 1) bytes) next
          ∙ ap (λ (l : List (List ℕ)). l ++ take end bytes ∷ []) (sym (head_is old text h))
          ∙ ap (λ (l : List ℕ). good_lines old.events text ++ l ∷ []) (sym same);
      taken = next;
    }

pub taken_found : (found : Found) (old new : DetStimulus) (text bytes : List ℕ) (end : ℕ) (line : Line) → FirstLineIs (Whole end) bytes
    → line_of old.events (take end bytes) ≡ Some line → TakenIs found line (end + 1) old new → HasTaken old text
    → FoundIs found old new text bytes
taken_found More old new text bytes end line first spelled taken h = absurd taken
taken_found Bad old new text bytes end line first spelled (none, same) h = misplaced_found old text bytes end line first spelled none h
taken_found (Good said n) old new text bytes end line first spelled (is, count, follows, on) h =
    let found = line_found old new text bytes end line first spelled follows on h in
    subst (λ m. IsTaken said m old new text bytes) (sym count) (subst (λ l. IsTaken l (end + 1) old new text bytes) (sym is) found)
