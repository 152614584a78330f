-- What a reader stands for after a line.
use Rattle.std.proofs.Common.{◌≡◌, ℕ, ◌+◌, ◌<◌, ◌≤◌, List, [], ◌∷◌, ◌++◌, length, take, drop, true, Some, None, Result, Ok, Err, sym, ap}
use Rattle.std.proofs.Common.{◌∙◌, arith, append_assoc, append-nil, drop-drop, add-zero, length-append, length-drop}
use Rattle.stimulus.specs.declared.parse_line.Line.{Line}
use Rattle.stimulus.specs.declared.state.State.{State}
use Rattle.stimulus.specs.declared.state.State.TheVariants as states
use Rattle.stimulus.specs.declared.stimulus_item.StimulusItem.{StimulusItem}
use Rattle.stimulus.specs.declared.stimulus_item.StimulusItem.TheVariants as items
use Rattle.stimulus.specs.declared.stimulus_item.StimulusError.{StimulusError}
use Rattle.stimulus.specs.declared.stimulus_item.StimulusError.TheVariants as errors
use Rattle.stimulus.specs.declared.parser.Progress.{Progress}
use Rattle.stimulus.specs.declared.parser.Progress.TheVariants as progress
use Rattle.stimulus.specs.declared.parser.StimulusParser.{StimulusParser}
use Rattle.stimulus.specs.Lines.{line_of}
use Rattle.stimulus.specs.Places.{Ended, step}
use Rattle.stimulus.specs.FirstLine.{IsLong}
use Rattle.stimulus.specs.Reading.{reading, reading_from, parts, after, bad_at_once, text_step}
use Rattle.stimulus.specs.States.{place_of, items_to_give}
use Rattle.stimulus.specs.StandsFor.{StandsFor, NextIs, left}
use Rattle.stimulus.specs.Steps.{LineIs, Shrinks, TookIs, BadIs, Moves, IsPastEnd}
use Rattle.stimulus.proofs.Parts.{some_parts}
use Rattle.stimulus.proofs.Going.{after_after, goes_on, is_bad, is_long, is_past, taken_there, none_there}
use Rattle.stimulus.proofs.Standing.{from, resumes, standing, next_bad, gives}

two_parts : (xs line ys : List ℕ) → parts xs ≡ xs ∷ [] → parts (xs ++ []) ≡ line ∷ parts ys → ⊥
two_parts xs line ys one two =
    let some = some_parts ys in
    let e : xs ∷ [] ≡ line ∷ some.line ∷ some.others = sym one ∙ ap parts (sym (append-nil xs)) ∙ two ∙ ap (λ l. line ∷ l) some.is in
    cc

-- the remaining bytes begin with a line of this many bytes
pub record Begins (end : ℕ) (r : StimulusParser) : Type 0 where
  pub short : length (take end (left r)) ≤ 128
  pub cut : (tail : List ℕ) → parts (left r ++ tail) ≡ take end (left r) ∷ parts (drop (end + 1) (left r) ++ tail)

-- after a line was taken
moved : (old new : StimulusParser) (bytes : List ℕ) (given more : List StimulusItem) (end : ℕ) → old.fault ≡ None
    → items_to_give old.state ≡ []
    → Begins end old
    → text_step old.events (place_of old.state) (take end (left old)) ≡ step more (place_of new.state) → Moves (end + 1) 1 old new
    → (h : StandsFor old bytes given)
    → (tail : List ℕ) → reading new.events (bytes ++ tail)
    ≡ after (h.head ++ take end (left old) ∷ []) (given ++ more) (from new (left new ++ tail))
moved old new bytes given more end none nothing begins takes (keeps, read, count) h tail =
    let line : List ℕ = take end (left old) in
    let rest : List ℕ = drop (end + 1) (left old) in
    let same : left new ≡ rest = (λ i. drop (read i) (keeps.pending i)) ∙ sym (drop-drop (end + 1) old.read old.pending.items) in
    ap (λ e. reading e (bytes ++ tail)) keeps.events ∙ (resumes old bytes given none h).1 tail
    ∙ ap (λ l. after h.head l (from old (left old ++ tail))) (ap (λ l. given ++ l) nothing ∙ append-nil given)
    ∙ ap (after h.head given) (goes_on old.events (place_of old.state) (place_of new.state) line (left old ++ tail) (rest ++ tail) more
    (begins.cut tail) takes)
    ∙ after_after h.head (line ∷ []) given more (reading_from old.events (place_of new.state) (parts (rest ++ tail)))
    ∙ (λ i. after (h.head ++ line ∷ []) (given ++ more) (reading_from (sym keeps.events i) (place_of new.state)
    (parts (sym same i ++ tail))))

counted : (old new : StimulusParser) (head : List (List ℕ)) (line : List ℕ) → length head ≡ old.lines → new.lines ≡ old.lines + 1
    → length (head ++ line ∷ []) ≡ new.lines
counted old new head line count lines = length-append head (line ∷ []) ∙ ap (λ n. n + 1) count ∙ sym lines

unsettled : (old new : StimulusParser) (bytes : List ℕ) (given : List StimulusItem) (end : ℕ) → old.fault ≡ None → new.settled ≡ old.settled
    → Begins end old → StandsFor old bytes given
    → new.settled ≡ true → (parts (left new) ≡ left new ∷ []) × (items_to_give new.state ≡ [])
unsettled old new bytes given end none same begins h settled =
    absurd (two_parts (left old) (take end (left old)) (drop (end + 1) (left old) ++ []) (h.settled (sym same ∙ settled) none).0
    (begins.cut []))

-- a line that is spelled well
pub line_taken : (old new : StimulusParser) (answer : Result Progress StimulusError) (l : Line) (end : ℕ) (bytes : List ℕ) (given : List
    StimulusItem)
    → old.fault ≡ None → items_to_give old.state ≡ [] → Begins end old
    → line_of old.events (take end (left old)) ≡ Some l → TookIs answer l (end + 1) old new → StandsFor old bytes given
    → LineIs answer new bytes given
line_taken old new (Ok progress.Line) l end bytes given none nothing begins spelled (moves, takes) h =
    let there = taken_there old.events (place_of old.state) (take end (left old)) l begins.short spelled in
    let line : List ℕ = take end (left old) in
    standing new (h.head ++ line ∷ []) bytes given (moves.0.fault ∙ none)
    (counted old new h.head line (resumes old bytes given none h).0 moves.2)
    (λ tail. moved old new bytes given [] end none nothing begins (there ∙ takes.0) moves h tail
    ∙ ap (λ l. after (h.head ++ line ∷ []) (given ++ l) (from new (left new ++ tail))) (sym takes.1))
    (unsettled old new bytes given end none moves.0.settled begins h)
line_taken old new (Ok (progress.Item item)) l end bytes given none nothing begins spelled (moves, takes) h =
    let there = taken_there old.events (place_of old.state) (take end (left old)) l begins.short spelled in
    let line : List ℕ = take end (left old) in
    let all : (tail : List ℕ) → reading new.events (bytes ++ tail)
    ≡ after (h.head ++ line ∷ []) ((given ++ item ∷ []) ++ items_to_give new.state) (from new (left new ++ tail)) =
    λ tail. moved old new bytes given (item ∷ items_to_give new.state) end none nothing begins (there ∙ takes) moves h tail
    ∙ ap (λ l. after (h.head ++ line ∷ []) l (from new (left new ++ tail))) (sym (append_assoc given (item
    ∷ []) (items_to_give new.state))) in (
      standing new (h.head ++ line ∷ []) bytes (given ++ item ∷ []) (moves.0.fault ∙ none)
          (counted old new h.head line (resumes old bytes given none h).0 moves.2) all
          (unsettled old new bytes given end none moves.0.settled begins h),
      gives new.events (h.head ++ line ∷ []) bytes given item (items_to_give new.state) (from new (left new ++ [])) (all []),
    )
line_taken old new (Ok progress.Open) l end bytes given none nothing begins spelled took h = absurd took
line_taken old new (Err (errors.Bad fault)) l end bytes given none nothing begins spelled (bad, takes) h =
    let there = taken_there old.events (place_of old.state) (take end (left old)) l begins.short spelled in
    next_bad old new (errors.Bad fault) bytes given none nothing
    (λ tail. is_bad old.events (place_of old.state) (take end (left old)) (left old ++ tail) (drop (end + 1) (left old) ++ tail)
    (begins.cut tail) (there ∙ takes.0)) bad h
line_taken old new (Err errors.OutOfMemory) l end bytes given none nothing begins spelled ((keeps, read, count), same) h =
    let on = resumes old bytes given none h in
    let rest : left new ≡ left old = λ i. drop ((read ∙ add-zero old.read) i) (keeps.pending i) in
    standing new h.head bytes given (keeps.fault ∙ none) (on.0 ∙ sym (count ∙ add-zero old.lines))
    (λ tail. ap (λ e. reading e (bytes ++ tail)) keeps.events ∙ on.1 tail
    ∙ (λ i. after h.head (given ++ items_to_give (sym same i)) (reading_from (sym keeps.events i) (place_of (sym same i))
    (parts (sym rest i ++ tail)))))
    (unsettled old new bytes given end none keeps.settled begins h)

-- a whole line that is not spelled well
pub line_bad : (old new : StimulusParser) (error : StimulusError) (end : ℕ) (bytes : List ℕ) (given : List StimulusItem) → old.fault ≡ None
    → items_to_give old.state ≡ [] → Begins end old
    → line_of old.events (take end (left old)) ≡ None → BadIs error old new → StandsFor old bytes given → NextIs (Err error) new bytes given
line_bad old new error end bytes given none nothing begins spelled bad h =
    let line : List ℕ = take end (left old) in
    next_bad old new error bytes given none nothing
    (λ tail. is_bad old.events (place_of old.state) line (left old ++ tail) (drop (end + 1) (left old) ++ tail) (begins.cut tail)
    (none_there old.events (place_of old.state) line spelled)) bad h

pub line_long : (old new : StimulusParser) (error : StimulusError) (bytes : List ℕ) (given : List StimulusItem) → old.fault ≡ None
    → items_to_give old.state ≡ []
    → ((tail : List ℕ) → IsLong (parts (left old ++ tail))) → BadIs error old new → StandsFor old bytes given
    → NextIs (Err error) new bytes given
line_long old new error bytes given none nothing long bad h =
    next_bad old new error bytes given none nothing (λ tail. is_long old.events (place_of old.state) (left old ++ tail) (long tail)) bad h

past : (events : ℕ) (xs tail : List ℕ) → 0 < length xs → reading_from events Ended (parts (xs ++ tail)) ≡ bad_at_once true
past events [] tail some = absurd (omega arith)
past events (b ∷ xs) tail some = is_past events b (xs ++ tail)

pub line_past : (old new : StimulusParser) (error : StimulusError) (bytes : List ℕ) (given : List StimulusItem) → old.fault ≡ None
    → items_to_give old.state ≡ []
    → IsPastEnd old.state (left old) → BadIs error old new → StandsFor old bytes given → NextIs (Err error) new bytes given
line_past old new error bytes given none nothing (ended, some) bad h =
    next_bad old new error bytes given none nothing (λ tail. ap (λ s. reading_from old.events (place_of s) (parts (left old ++ tail))) ended
    ∙ past old.events (left old) tail some) bad h

-- the end is returned
pub last_given : (old new : StimulusParser) (bytes : List ℕ) (given : List StimulusItem) → old.fault ≡ None → old.state ≡ states.Last
    → new.state
    ≡ states.Ended → new.fault ≡ old.fault
    → new.events ≡ old.events → new.lines ≡ old.lines → new.settled ≡ old.settled → left new ≡ left old → StandsFor old bytes given
    → NextIs (Ok (Some items.Terminate)) new bytes given
last_given old new bytes given none last ended fault events lines settled rest h =
    let on = resumes old bytes given none h in
    let t : List StimulusItem = items.Terminate ∷ [] in
    let all : (tail : List ℕ) → reading new.events (bytes ++ tail)
    ≡ after h.head ((given ++ t) ++ items_to_give new.state) (from new (left new ++ tail)) =
    λ tail. ap (λ e. reading e (bytes ++ tail)) events ∙ on.1 tail
    ∙ ap (λ s. after h.head (given ++ items_to_give s) (reading_from old.events (place_of s) (parts (left old ++ tail)))) last
    ∙ (λ i. after h.head (sym (append-nil (given ++ t)) i) (reading_from old.events Ended (parts (left old ++ tail))))
    ∙ (λ i. after h.head ((given ++ t) ++ items_to_give (sym ended i)) (reading_from (sym events i) (place_of (sym ended i))
    (parts (sym rest i ++ tail)))) in (
      standing new h.head bytes (given ++ t) (fault ∙ none) (on.0 ∙ sym lines) all
          (λ s. let old_settled : items_to_give old.state ≡ [] = (h.settled (sym settled ∙ s) none).1 in let no : t
          ≡ [] = ap items_to_give (sym last)
          ∙ old_settled in absurd (cc)),
      gives new.events h.head bytes given items.Terminate (items_to_give new.state) (from new (left new ++ [])) (all []),
    )

owes_one : (s : State) → length (items_to_give s) ≤ 1
owes_one states.First = omega arith
owes_one states.Between = omega arith
owes_one (states.Inside n input) = omega arith
owes_one states.Last = omega arith
owes_one states.Ended = omega arith

fewer_left : (old new : StimulusParser) (len : ℕ) → old.read + len ≤ length old.pending.items → new.pending.items ≡ old.pending.items
    → new.read
    ≡ old.read + len → length (left new) + len ≡ length (left old)
fewer_left old new len within pending read =
    let same : length new.pending.items ≡ length old.pending.items = ap (λ (l : List ℕ). length l) pending in
    omega (arith, length-drop new.read new.pending.items, length-drop old.read old.pending.items)

-- fewer items wait after a line was taken
pub took_shrinks : (old new : StimulusParser) (answer : Result Progress StimulusError) (l : Line) (len : ℕ) → 0 < len
    → old.read + len ≤ length old.pending.items → items_to_give old.state ≡ []
    → TookIs answer l len old new → Shrinks answer old new
took_shrinks old new (Ok progress.Line) l len some within nothing ((keeps, read, count), takes) =
    let left : length (left new) + len ≡ length (left old) = fewer_left old new len within keeps.pending read in
    let none : length (items_to_give new.state) ≡ 0 = ap (λ (l : List StimulusItem). length l) takes.1 in omega arith
took_shrinks old new (Ok (progress.Item item)) l len some within nothing ((keeps, read, count), takes) =
    let left : length (left new) + len ≡ length (left old) = fewer_left old new len within keeps.pending read in
    let one : length (items_to_give new.state) ≤ 1 = owes_one new.state in omega arith
took_shrinks old new (Ok progress.Open) l len some within nothing took = absurd took
took_shrinks old new (Err error) l len some within nothing took = tt

pub ends_within : (r : StimulusParser) (end : ℕ) → end < length (left r) → r.read + (end + 1) ≤ length r.pending.items
ends_within r end h = omega (arith, length-drop r.read r.pending.items)
