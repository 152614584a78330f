-- More text only adds blocks, and mends no bad line.
use Rattle.std.proofs.Common.{◌≡◌, ℕ, ◌<◌, List, [], ◌∷◌, ◌++◌, length, true, false, cond, nat_lt, Option, Some, None, refl, sym, ap, ◌∙◌}
use Rattle.std.proofs.Common.{subst, arith, append_assoc, append-nil, length-append}
use Rattle.std.proofs.lemmas.Bool.Decides.{nat_tests}
use Rattle.std.specs.List.{onto_first, All}
use Rattle.std.proofs.lemmas.List.Elements.{All-nil, All-cons, All-head, All-tail}
use Rattle.det_io.specs.Prefix.{IsPrefix}
use Rattle.det_values.specs.declared.frames.CycleInput.{CycleInput}
use Rattle.stimulus.specs.declared.stimulus_item.StimulusItem.{StimulusItem}
use Rattle.stimulus.specs.declared.stimulus_item.StimulusItem.TheVariants as items
use Rattle.stimulus.specs.declared.stimulus_item.StimulusFault.{StimulusFault}
use Rattle.stimulus.specs.declared.parser.StimulusParser.{StimulusParser}
use Rattle.stimulus.specs.Limits.{IsInput, IsItem}
use Rattle.stimulus.specs.Places.{Place, First, Between, Inside, Ended, Step}
use Rattle.stimulus.specs.Reading.{Reading, reading, reading_from, parts, after, bad_at_once, at_end, text_step, go_on, inputs_of, blocks}
use Rattle.stimulus.specs.Reading.{has_bad}
use Rattle.stimulus.specs.States.{items_to_give}
use Rattle.stimulus.specs.StandsFor.{StandsFor, Resumes, left}
use Rattle.stimulus.proofs.Parts.{is_lf, IsSome_parts, some_parts}
use Rattle.stimulus.proofs.Going.{first_long, first_ended}
use Rattle.stimulus.proofs.Counting.{inputs_append}
use Rattle.stimulus.proofs.Within.{all_within}
use Rattle.stimulus.proofs.Standing.{from}

-- parts, the last of which goes on, and others
join : List (List ℕ) → List ℕ → List (List ℕ) → List (List ℕ)
join [] q qs = q ∷ qs
join (p ∷ []) q qs = (p ++ q) ∷ qs
join (p ∷ o ∷ ps) q qs = p ∷ join (o ∷ ps) q qs

join_onto : (x : ℕ) (ps : List (List ℕ)) (q : List ℕ) (qs : List (List ℕ)) → IsSome_parts ps → onto_first x (join ps q qs)
    ≡ join (onto_first x ps) q qs
unfolding join
join_onto x [] q qs some = let none = some.is in absurd (cc)
join_onto x (p ∷ []) q qs some = refl
join_onto x (p ∷ o ∷ ps) q qs some = refl

join_after : (ps : List (List ℕ)) (q : List ℕ) (qs : List (List ℕ)) → IsSome_parts ps → [] ∷ join ps q qs ≡ join ([] ∷ ps) q qs
unfolding join
join_after [] q qs some = let none = some.is in absurd (cc)
join_after (p ∷ ps) q qs some = refl

parts_append : (xs ys : List ℕ) (q : List ℕ) (qs : List (List ℕ)) → parts ys ≡ q ∷ qs → parts (xs ++ ys) ≡ join (parts xs) q qs
unfolding join
parts_append [] ys q qs is = is
parts_append (x ∷ xs) ys q qs is =
    elim (is_lf x) as (λ t. cond t ([] ∷ parts (xs ++ ys)) (onto_first x (parts (xs ++ ys)))
    ≡ join (cond t ([] ∷ parts xs) (onto_first x (parts xs))) q qs) [
      | true ↦ ap (λ l. [] ∷ l) (parts_append xs ys q qs is) ∙ join_after (parts xs) q qs (some_parts xs)
      | false ↦ ap (onto_first x) (parts_append xs ys q qs is) ∙ join_onto x (parts xs) q qs (some_parts xs)
    ]

read_join : (events : ℕ) (place : Place) (line o : List ℕ) (ps : List (List ℕ)) (q : List ℕ) (qs : List (List ℕ))
    → reading_from events place (line ∷ join (o ∷ ps) q qs)
    ≡ go_on line (text_step events place line) (λ p. reading_from events p (join (o ∷ ps) q qs))
unfolding reading_from join
read_join events place line o [] q qs = refl
read_join events place line o (p ∷ ps) q qs = refl

begins_after : (given xs ys : List StimulusItem) → IsPrefix xs ys → IsPrefix (given ++ xs) (given ++ ys)
begins_after given xs ys (rest, is) = (rest, append_assoc given xs rest ∙ ap (λ l. given ++ l) is)

go_on_begins : (line : List ℕ) (o : Option Step) (f g : Place → Reading) → ((p : Place) → IsPrefix (f p).items (g p).items)
    → IsPrefix (go_on line o f).items (go_on line o g).items
go_on_begins line None f g all = ([], refl)
go_on_begins line (Some s) f g all = begins_after s.items (f s.place).items (g s.place).items (all s.place)

at_end_begins : (place : Place) (line : List ℕ) (ys : List StimulusItem) → IsPrefix (at_end place line).items ys
at_end_begins Ended [] ys = (ys, refl)
at_end_begins Ended (b ∷ bs) ys = (ys, refl)
at_end_begins First line ys = (ys, refl)
at_end_begins Between line ys = (ys, refl)
at_end_begins (Inside n input) line ys = (ys, refl)

from_begins : (events : ℕ) (place : Place) (ps : List (List ℕ)) (q : List ℕ) (qs : List (List ℕ))
    → IsPrefix (reading_from events place ps).items (reading_from events place (join ps q qs)).items
unfolding reading_from join
from_begins events place [] q qs = ((reading_from events place (q ∷ qs)).items, refl)
from_begins events place (line ∷ []) q qs = at_end_begins place line (reading_from events place ((line ++ q) ∷ qs)).items
from_begins events place (line ∷ o ∷ ps) q qs =
    let P : List StimulusItem → Type 0 = λ l. IsPrefix (reading_from events place (line ∷ o ∷ ps)).items l in
    subst P (ap (λ (r : Reading). r.items) (sym (read_join events place line o ps q qs)))
    (go_on_begins line (text_step events place line) (λ p. reading_from events p (o ∷ ps)) (λ p. reading_from events p (join (o ∷ ps) q qs))
    (λ p. from_begins events p (o ∷ ps) q qs))

-- the items of a text are the first ones of every text that goes on
pub items_grow : (events : ℕ) (text more : List ℕ) → IsPrefix (reading events text).items (reading events (text ++ more)).items
items_grow events text more =
    let some = some_parts more in
    let P : List (List ℕ) → Type 0 = λ l. IsPrefix (reading events text).items (reading_from events First l).items in
    subst P (sym (parts_append text more some.line some.others some.is)) (from_begins events First (parts text) some.line some.others)

-- the blocks of a text are the first ones of every text that goes on
pub blocks_grow : (events : ℕ) (text more : List ℕ) → IsPrefix (blocks events text) (blocks events (text ++ more))
blocks_grow events text more =
    let grown = items_grow events text more in
    (inputs_of grown.0, sym (inputs_append (reading events text).items grown.0) ∙ ap inputs_of grown.1)

long_at_end : (place : Place) (line q : List ℕ) (qs : List (List ℕ)) (events : ℕ) → bad_at_once (nat_lt 128 (length line))
    ≡ at_end place line → nat_lt 128 (length line) ≡ true
    → reading_from events place ((line ++ q) ∷ qs) ≡ at_end place line
long_at_end place line q qs events same long =
    let more : 128 < length (line ++ q) = let l : 128 < length line = grind (arith, nat_tests) in omega (arith, length-append line q) in
    first_long events place (line ++ q) qs more ∙ ap bad_at_once (sym long) ∙ same

stays_at_end : (events : ℕ) (place : Place) (line q : List ℕ) (qs : List (List ℕ)) → (at_end place line).bad_is_fed ≡ true
    → reading_from events place ((line ++ q) ∷ qs) ≡ at_end place line
stays_at_end events Ended [] q qs bad = absurd (cc)
stays_at_end events Ended (b ∷ bs) q qs bad = first_ended events b (bs ++ q) qs
stays_at_end events First line q qs bad = long_at_end First line q qs events refl bad
stays_at_end events Between line q qs bad = long_at_end Between line q qs events refl bad
stays_at_end events (Inside n input) line q qs bad = long_at_end (Inside n input) line q qs events refl bad

go_on_stays : (line : List ℕ) (o : Option Step) (f g : Place → Reading) → ((p : Place) → (f p).bad_is_fed ≡ true → g p ≡ f p)
    → (go_on line o f).bad_is_fed ≡ true → go_on line o g ≡ go_on line o f
go_on_stays line None f g all bad = refl
go_on_stays line (Some s) f g all bad = ap (after (line ∷ []) s.items) (all s.place bad)

from_stays : (events : ℕ) (place : Place) (ps : List (List ℕ)) (q : List ℕ) (qs : List (List ℕ)) → (reading_from events place ps).bad_is_fed
    ≡ true → reading_from events place (join ps q qs) ≡ reading_from events place ps
unfolding reading_from join
from_stays events place [] q qs bad = absurd (cc)
from_stays events place (line ∷ []) q qs bad = stays_at_end events place line q qs bad
from_stays events place (line ∷ o ∷ ps) q qs bad =
    read_join events place line o ps q qs
    ∙ go_on_stays line (text_step events place line) (λ p. reading_from events p (o ∷ ps)) (λ p. reading_from events p (join (o ∷ ps) q qs))
    (λ p h. from_stays events p (o ∷ ps) q qs h) bad

-- once a bad line was fed, more text changes nothing
pub bad_stays : (events : ℕ) (text more : List ℕ) → has_bad events text ≡ true → reading events (text ++ more) ≡ reading events text
bad_stays events text more bad =
    let some = some_parts more in
    ap (reading_from events First) (parts_append text more some.line some.others some.is)
    ∙ from_stays events First (parts text) some.line some.others bad

-- the returned inputs, after one block more
pub inputs_then : (given : List StimulusItem) (input : CycleInput)
    → inputs_of (given ++ items.Cycle input ∷ []) ≡ inputs_of given ++ input ∷ []
inputs_then given input = inputs_append given (items.Cycle input ∷ [])

-- the returned inputs, after the end
pub inputs_end : (given : List StimulusItem) → inputs_of (given ++ items.Terminate ∷ []) ≡ inputs_of given
inputs_end given = inputs_append given (items.Terminate ∷ []) ∙ append-nil (inputs_of given)

given_first : (fault : Option StimulusFault) (r : StimulusParser) (head : List (List ℕ)) (bytes : List ℕ) (given : List StimulusItem)
    → Resumes fault r head bytes given → IsPrefix given (reading r.events bytes).items
given_first None r head bytes given on =
    let rest : List StimulusItem = (from r (left r ++ [])).items in (
      items_to_give r.state ++ rest,
      sym (ap (λ l. (reading r.events l).items) (sym (append-nil bytes)) ∙ ap (λ (x : Reading). x.items) (on.1 [])
          ∙ append_assoc given (items_to_give r.state) rest),
    )
given_first (Some fault) r head bytes given on =
    ([], append-nil given ∙ sym (ap (λ l. (reading r.events l).items) (sym (append-nil bytes)) ∙ ap (λ (x : Reading). x.items) (on.1 [])))

-- the returned items are the first ones of the text that was fed
pub stands_within : (r : StimulusParser) (bytes : List ℕ) (given : List StimulusItem) → StandsFor r bytes given
    → IsPrefix (inputs_of given) (blocks r.events bytes)
stands_within r bytes given h =
    let first = given_first r.fault r h.head bytes given h.resumes in
    (inputs_of first.0, sym (inputs_append given first.0) ∙ ap inputs_of first.1)

inputs_within : (events : ℕ) (xs : List StimulusItem) → All (IsItem events) xs → All (IsInput events) (inputs_of xs)
inputs_within events [] all = All-nil (IsInput events)
inputs_within events (items.Cycle input ∷ xs) all =
    All-cons (IsInput events) input (inputs_of xs) (All-head (IsItem events) (items.Cycle input) xs all)
    (inputs_within events xs (All-tail (IsItem events) (items.Cycle input) xs all))
inputs_within events (items.Terminate ∷ xs) all = inputs_within events xs (All-tail (IsItem events) items.Terminate xs all)

-- the blocks of a text keep to their limits
pub blocks_within : (events : ℕ) (text : List ℕ) → All (IsInput events) (blocks events text)
blocks_within events text = inputs_within events (reading events text).items (all_within events text)
