-- What a reader stands for, and what its results say.
use Rattle.std.proofs.Common.{◌≡◌, ◌↔◌, ℕ, ◌+◌, ◌<◌, ◌≤◌, List, [], ◌∷◌, ◌++◌, length, Bool, true, false, Option, Some, None, Ok, Err, refl}
use Rattle.std.proofs.Common.{sym, ap, ◌∙◌, subst, append_assoc, append-nil}
use Rattle.stimulus.specs.declared.state.State.{State}
use Rattle.stimulus.specs.declared.state.State.TheVariants as states
use Rattle.stimulus.specs.declared.stimulus_item.StimulusItem.{StimulusItem}
use Rattle.stimulus.specs.declared.stimulus_item.StimulusError.{StimulusError}
use Rattle.stimulus.specs.declared.stimulus_item.StimulusError.TheVariants as errors
use Rattle.stimulus.specs.declared.stimulus_item.StimulusFault.{StimulusFault}
use Rattle.stimulus.specs.declared.parser.StimulusParser.{StimulusParser}
use Rattle.stimulus.specs.Places.{Place, Ended}
use Rattle.stimulus.specs.Reading.{Reading, Terminated, BadLine, reading, reading_from, parts, after, bad_at_once, at_end, ending_of}
use Rattle.stimulus.specs.Reading.{ending, inputs_of}
use Rattle.stimulus.specs.States.{place_of, items_to_give}
use Rattle.stimulus.specs.StandsFor.{StandsFor, Resumes, Gives, FoundBad, NextIs, IsSettled, left, bad_reading}
use Rattle.stimulus.specs.Steps.{BadIs, IsPastEnd}
use Rattle.stimulus.proofs.Within.{next_within}
use Rattle.stimulus.proofs.Counting.{next_few}
use Rattle.stimulus.proofs.Going.{at_open, open_line, open_fed, open_missing, ended_whole, after_bad}

-- what is read in a state on
abbrev pub from : StimulusParser → List ℕ → Reading
from r xs = reading_from r.events (place_of r.state) (parts xs)

pub resumes : (r : StimulusParser) (bytes : List ℕ) (given : List StimulusItem) → r.fault ≡ None → (h : StandsFor r bytes given)
    → Resumes None r h.head bytes given
resumes r bytes given none h = let P : Option StimulusFault → Type 0 = λ f. Resumes f r h.head bytes given in subst P none h.resumes

pub found : (r : StimulusParser) (fault : StimulusFault) (bytes : List ℕ) (given : List StimulusItem) → r.fault ≡ Some fault
    → (h : StandsFor r bytes given) → Resumes (Some fault) r h.head bytes given
found r fault bytes given some h = let P : Option StimulusFault → Type 0 = λ f. Resumes f r h.head bytes given in subst P some h.resumes

pub standing : (r : StimulusParser) (head : List (List ℕ)) (bytes : List ℕ) (given : List StimulusItem) → r.fault ≡ None
    → length head ≡ r.lines
    → ((tail : List ℕ) → reading r.events (bytes ++ tail) ≡ after head (given ++ items_to_give r.state) (from r (left r ++ tail)))
    → (r.settled ≡ true → (parts (left r) ≡ left r ∷ []) × (items_to_give r.state ≡ [])) → StandsFor r bytes given
standing r head bytes given none count all settled = record {
  head = head;
  resumes = let P : Option StimulusFault → Type 0 = λ f. Resumes f r head bytes given in subst P (sym none) (count, all);
  settled = λ s _. settled s;
}

stays_bad : (r : StimulusParser) (fault : StimulusFault) (head : List (List ℕ)) (bytes : List ℕ) (given : List StimulusItem)
    → r.fault ≡ Some fault
    → Resumes (Some fault) r head bytes given → StandsFor r bytes given
stays_bad r fault head bytes given some all = record {
  head = head;
  resumes = let P : Option StimulusFault → Type 0 = λ f. Resumes f r head bytes given in subst P (sym some) all;
  settled = λ s n. absurd (cc);
}

-- a bad line that was found decides everything
bad_found : (events line : ℕ) (head : List (List ℕ)) (bytes : List ℕ) (given : List StimulusItem) → length head + 1 ≡ line
    → reading events (bytes ++ []) ≡ bad_reading head given → FoundBad line events bytes given
bad_found events line head bytes given count all =
    let e : reading events bytes ≡ bad_reading head given = ap (reading events) (sym (append-nil bytes)) ∙ all in
    record {
      items = ap (λ (r : Reading). r.items) e;
      blocks = ap (λ (r : Reading). inputs_of r.items) e;
      bad = ap (λ (r : Reading). r.bad_is_fed) e;
      ending = ap ending_of e ∙ ap BadLine count;
    }

-- a bad line comes next
pub next_bad : (old new : StimulusParser) (error : StimulusError) (bytes : List ℕ) (given : List StimulusItem) → old.fault ≡ None
    → items_to_give old.state ≡ []
    → ((tail : List ℕ) → from old (left old ++ tail) ≡ bad_at_once true) → BadIs error old new → StandsFor old bytes given
    → NextIs (Err error) new bytes given
next_bad old new (errors.Bad fault) bytes given none nothing bad (line, some, settled, events, same) h =
    let on = resumes old bytes given none h in
    let all : (tail : List ℕ) → reading new.events (bytes ++ tail) ≡ bad_reading h.head given =
    λ tail. ap (λ e. reading e (bytes ++ tail)) events ∙ on.1 tail ∙ ap (after h.head (given ++ items_to_give old.state)) (bad tail)
    ∙ after_bad h.head (given ++ items_to_give old.state)
    ∙ ap (λ l. bad_reading h.head (given ++ l)) nothing ∙ ap (bad_reading h.head) (append-nil given) in
    let count : length h.head + 1 ≡ fault.line = ap (λ n. n + 1) on.0 ∙ sym line in
    (stays_bad new fault h.head bytes given some (count, all), bad_found new.events fault.line h.head bytes given count (all []))
next_bad old new errors.OutOfMemory bytes given none nothing bad h stands = absurd h

-- the bad line is returned again
pub next_again : (r : StimulusParser) (fault : StimulusFault) (bytes : List ℕ) (given : List StimulusItem) → r.fault ≡ Some fault
    → StandsFor r bytes given
    → NextIs (Err (errors.Bad fault)) r bytes given
next_again r fault bytes given some h =
    let on = found r fault bytes given some h in (h, bad_found r.events fault.line h.head bytes given on.0 (on.1 []))

-- what was read of a text without a whole line more
read_to_open : (r : StimulusParser) (bytes : List ℕ) (given : List StimulusItem) → r.fault ≡ None → items_to_give r.state ≡ []
    → parts (left r) ≡ left r ∷ []
    → (h : StandsFor r bytes given)
    → reading r.events bytes ≡ after h.head given (at_end (place_of r.state) (left r))
read_to_open r bytes given none nothing one h =
    ap (reading r.events) (sym (append-nil bytes)) ∙ (resumes r bytes given none h).1 []
    ∙ ap (λ l. after h.head (given ++ items_to_give r.state) (from r l)) (append-nil (left r))
    ∙ ap (λ l. after h.head (given ++ items_to_give r.state) (reading_from r.events (place_of r.state) l)) one
    ∙ ap (after h.head (given ++ items_to_give r.state)) (at_open r.events (place_of r.state) (left r))
    ∙ ap (λ l. after h.head (given ++ l) (at_end (place_of r.state) (left r))) nothing
    ∙ ap (λ l. after h.head l (at_end (place_of r.state) (left r))) (append-nil given)

-- only `Ended` has nothing to give at the end
open_there : (s : State) (line : List ℕ) → items_to_give s ≡ [] → ¬ ((s ≡ states.Ended) × (0 < length line))
    → ¬ ((place_of s ≡ Ended) × (0 < length line))
open_there states.First line nothing other = λ p. absurd (let e = p.0 in cc)
open_there states.Between line nothing other = λ p. absurd (let e = p.0 in cc)
open_there (states.Inside n input) line nothing other = λ p. absurd (let e = p.0 in cc)
open_there states.Last line nothing other = absurd (cc)
open_there states.Ended line nothing other = λ p. other (refl, p.1)

missing_there : (s : State) (line : List ℕ) → items_to_give s ≡ [] → ¬ ((s ≡ states.Ended) × (length line ≡ 0))
    → ¬ ((place_of s ≡ Ended) × (length line ≡ 0))
missing_there states.First line nothing other = λ p. absurd (let e = p.0 in cc)
missing_there states.Between line nothing other = λ p. absurd (let e = p.0 in cc)
missing_there (states.Inside n input) line nothing other = λ p. absurd (let e = p.0 in cc)
missing_there states.Last line nothing other = absurd (cc)
missing_there states.Ended line nothing other = λ p. other (refl, p.1)

-- no whole line is left
pub next_open : (old new : StimulusParser) (bytes : List ℕ) (given : List StimulusItem) → old.fault ≡ None → items_to_give old.state ≡ []
    → length (left old) ≤ 128 → parts (left old) ≡ left old ∷ []
    → ¬ (IsPastEnd old.state (left old)) → new.events ≡ old.events → new.lines ≡ old.lines → new.state ≡ old.state → new.fault ≡ old.fault
    → left new ≡ left old
    → StandsFor old bytes given → NextIs (Ok None) new bytes given
next_open old new bytes given none nothing short one other events lines state fault rest h =
    let on = resumes old bytes given none h in
    let now : reading new.events bytes ≡ after h.head given (at_end (place_of old.state) (left old)) = ap (λ e. reading e bytes) events
    ∙ read_to_open old bytes given none nothing one h in
    let all : (reading new.events bytes).items ≡ given = ap (λ (r : Reading). r.items) now
    ∙ ap (λ l. given ++ l) (open_line (place_of old.state) (left old)).0 ∙ append-nil given in (
      standing new h.head bytes given (fault ∙ none) (on.0 ∙ sym lines)
          (λ tail. ap (λ e. reading e (bytes ++ tail)) events ∙ on.1 tail
          ∙ (λ i. after h.head (given ++ items_to_give (sym state i)) (reading_from (sym events i) (place_of (sym state i))
          (parts (sym rest i ++ tail)))))
          (λ s. (ap parts rest ∙ one ∙ ap (λ l. l ∷ []) (sym rest), ap items_to_give state ∙ nothing)),
      record {
        items = all;
        blocks = ap inputs_of all;
        good =
            ap (λ (r : Reading). r.bad_is_fed) now
            ∙ open_fed (place_of old.state) (left old) short (open_there old.state (left old) nothing other);
      },
    )

-- the items that follow are there
pub gives : (events : ℕ) (head : List (List ℕ)) (bytes : List ℕ) (given : List StimulusItem) (item : StimulusItem) (more : List
    StimulusItem)
    (r : Reading)
    → reading events (bytes ++ []) ≡ after head ((given ++ item ∷ []) ++ more) r → Gives item events bytes given
gives events head bytes given item more r e =
    let whole : reading events bytes ≡ after head ((given ++ item ∷ []) ++ more) r = ap (reading events) (sym (append-nil bytes)) ∙ e in
    let all : (reading events bytes).items ≡ given ++ item ∷ (more ++ r.items) =
    ap (λ (x : Reading). x.items) whole ∙ append_assoc (given ++ item ∷ []) more r.items
    ∙ append_assoc given (item ∷ []) (more ++ r.items) in
    record {
      others = more ++ r.items;
      items = all;
      within = next_within events bytes given (more ++ r.items) item all;
      few = next_few events bytes given (more ++ r.items) item all;
    }

-- the end of the input
at_last : (r : StimulusParser) (bytes : List ℕ) (given : List StimulusItem) → r.fault ≡ None → IsSettled r → (h : StandsFor r bytes given)
    → reading r.events bytes ≡ after h.head given (at_end (place_of r.state) (left r))
at_last r bytes given none settled h = let s = h.settled settled none in read_to_open r bytes given none s.1 s.0 h

pub finish_found : (r : StimulusParser) (fault : StimulusFault) (bytes : List ℕ) (given : List StimulusItem) → r.fault ≡ Some fault
    → StandsFor r bytes given → ending r.events bytes ≡ BadLine fault.line
finish_found r fault bytes given some h =
    let on = found r fault bytes given some h in (bad_found r.events fault.line h.head bytes given on.0 (on.1 [])).ending

whole_ending : (head : List (List ℕ)) (given : List StimulusItem) (r : Reading) → r.is_whole ≡ true → ending_of (after head given r)
    ≡ Terminated
whole_ending head given r e = rw e refl

bad_ending : (head : List (List ℕ)) (given : List StimulusItem) (r : Reading) → r.is_whole ≡ false → r.head ≡ []
    → ending_of (after head given r) ≡ BadLine (length head + 1)
bad_ending head given r e nothing =
    rw e (ap (λ (l : List (List ℕ)). BadLine (length l + 1)) (ap (λ l. head ++ l) nothing ∙ append-nil head))

pub finish_ended : (r : StimulusParser) (bytes : List ℕ) (given : List StimulusItem) → r.fault ≡ None → IsSettled r → r.state ≡ states.Ended
    → length (left r) ≡ 0 → StandsFor r bytes given → ending r.events bytes ≡ Terminated
finish_ended r bytes given none settled ended nothing h =
    ap ending_of (at_last r bytes given none settled h)
    ∙ whole_ending h.head given (at_end (place_of r.state) (left r)) (ap (λ s. (at_end (place_of s) (left r)).is_whole) ended
    ∙ ended_whole (left r) nothing)

pub finish_bad : (r : StimulusParser) (bytes : List ℕ) (given : List StimulusItem) → r.fault ≡ None → IsSettled r
    → ¬ ((r.state ≡ states.Ended) × (length (left r) ≡ 0)) → StandsFor r bytes given → ending r.events bytes ≡ BadLine (r.lines + 1)
finish_bad r bytes given none settled other h =
    let p : Place = place_of r.state in
    ap ending_of (at_last r bytes given none settled h)
    ∙ bad_ending h.head given (at_end p (left r)) (open_missing p (left r)
    (missing_there r.state (left r) (h.settled settled none).1 other)) (open_line p (left r)).1
    ∙ ap (λ n. BadLine (n + 1)) (resumes r bytes given none h).0

-- if the end isn't still to be returned, nothing is
pub owes_nothing : (s : State) (b : Bool) → (b ≡ true) ↔ (s ≡ states.Last) → b ≡ false → items_to_give s ≡ []
owes_nothing states.First b h lacks = refl
owes_nothing states.Between b h lacks = refl
owes_nothing (states.Inside n input) b h lacks = refl
owes_nothing states.Last b h lacks = let yes : b ≡ true = h.1 refl in absurd (cc)
owes_nothing states.Ended b h lacks = refl
