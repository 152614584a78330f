-- The head of a text, by the table of lines.
use Rattle.std.proofs.Common.{◌≡◌, ◌↔◌, ℕ, suc, ◌+◌, ◌<◌, ◌≤◌, List, [], ◌∷◌, ◌++◌, length, map, Bool, true, false, cond, nat_lt, Option}
use Rattle.std.proofs.Common.{Some, None, refl, sym, ap, ◌∙◌, subst, inl, inr, arith, append_assoc, append-nil}
use Rattle.std.specs.Prelude.{option_and_then}
use Rattle.std.specs.List.{All}
use Rattle.std.proofs.lemmas.Bool.Decides.{nat_tests}
use Rattle.std.proofs.lemmas.List.Elements.{All-nil, All-cons, All-same, All-head, All-tail}
use Rattle.det_values.specs.declared.frames.CycleInput.{CycleInput}
use Rattle.stimulus.specs.declared.parse_line.Line.{Line}
use Rattle.stimulus.specs.declared.parse_line.Line.TheVariants as lines
use Rattle.stimulus.specs.declared.stimulus_item.StimulusItem.{StimulusItem}
use Rattle.stimulus.specs.declared.stimulus_item.StimulusItem.TheVariants as items
use Rattle.stimulus.specs.Lines.{line_of}
use Rattle.stimulus.specs.Places.{Place, First, Between, Inside, Ended, Step, step, empty_block, with_sample, taken}
use Rattle.stimulus.specs.Reading.{Reading, Terminated, BadLine, reading, reading_from, parts, after, bad_at_once, at_end}
use Rattle.stimulus.specs.Reading.{text_step, go_on, inputs_of, ending_of}
use Rattle.stimulus.specs.GoodLines.{ends, MayStand, InOrder, blocks_in, without_last, IsFed, IsHead}
use Rattle.stimulus.proofs.Parts.{IsSome_parts, some_parts}
use Rattle.stimulus.proofs.Going.{open_line, taken_there, ended_there}
use Rattle.stimulus.proofs.Places.{At, Leads, leads, leads_on, none_counted}

-- lines that are good after earlier ones
record IsGoodAfter (events : ℕ) (earlier : List Line) (texts : List (List ℕ)) (says : List Line) : Type 0 where
  pub short : All (λ text. length text ≤ 128) texts
  pub spelled : map (line_of events) texts ≡ map Some says
  pub order : InOrder earlier says

good_nothing : (events : ℕ) (earlier : List Line) (texts : List (List ℕ)) → texts ≡ [] → IsGoodAfter events earlier texts []
good_nothing events earlier texts none = record {
  short = All-same (λ text. length text ≤ 128) texts [] none (All-nil (λ text. length text ≤ 128));
  spelled = ap (map (line_of events)) none;
  order = tt;
}

-- the inputs of the blocks from a place on
abbrev onward : Place → List Line → List CycleInput
onward First says = (blocks_in says).inputs
onward Between says = (blocks_in says).inputs
onward (Inside n input) says = record { time = input.time; samples = input.samples ++ (blocks_in says).samples } ∷ (blocks_in says).inputs
onward Ended says = []

nothing_onward : (place : Place) → without_last false (onward place []) ≡ []
nothing_onward First = refl
nothing_onward Between = refl
nothing_onward (Inside n input) = refl
nothing_onward Ended = refl

-- the result of reading from a place on
record HeadFrom (events : ℕ) (earlier : List Line) (place : Place) (texts : List (List ℕ)) (r : Reading) : Type 0 where
  pub says : List Line
  pub good : IsGoodAfter events earlier r.head says
  pub line : List ℕ
  pub others : List (List ℕ)
  pub begins : texts ≡ r.head ++ line ∷ others
  pub blocks : inputs_of r.items ≡ without_last (nat_lt 0 (ends says)) (onward place says)
  pub whole : r.is_whole ≡ true → (texts ≡ r.head ++ [] ∷ []) × (ends (earlier ++ says) ≡ 1)
  pub only_whole : texts ≡ r.head ++ [] ∷ [] → ends (earlier ++ says) ≡ 1 → r.is_whole ≡ true
  pub fed : (r.bad_is_fed ≡ true) ↔ IsFed (earlier ++ says) line others

-- nothing is read: the line is bad, or no line
stops : (events : ℕ) (earlier : List Line) (place : Place) (fed : Bool) (line : List ℕ) (others : List (List ℕ))
    → ((line ∷ others ≡ [] ∷ []) → ends earlier ≡ 1 → false ≡ true)
    → (fed ≡ true) ↔ IsFed earlier line others → HeadFrom events earlier place (line ∷ others) (bad_at_once fed)
stops events earlier place fed line others not_whole is_fed = record {
  says = [];
  good = good_nothing events earlier [] refl;
  line = line;
  others = others;
  begins = refl;
  blocks = sym (nothing_onward place);
  whole = λ no_way. absurd (cc);
  only_whole = λ same end. not_whole same (ap ends (sym (append-nil earlier)) ∙ end);
  fed = let P : List Line → Type 0 = λ l. (fed ≡ true) ↔ IsFed l line others in subst P (sym (append-nil earlier)) is_fed;
}

-- before the end only a long line counts as fed
stays_open : (events : ℕ) (earlier : List Line) (place : Place) (line : List ℕ) → ends earlier ≡ 0
    → HeadFrom events earlier place (line ∷ []) (bad_at_once (nat_lt 128 (length line)))
stays_open events earlier place line none =
    stops events earlier place (nat_lt 128 (length line)) line [] (λ same end. absurd (omega arith)) (
      (λ e. inl (let long : 128 < length line = grind (arith, nat_tests) in long)),
      (λ fed. elim fed [
        | inl long ↦ (let e : nat_lt 128 (length line) ≡ true = grind (arith, nat_tests) in e)
        | inr ended ↦
            absurd (let one = ended.0 in omega arith)
      ]),
    )

ends_there : (events : ℕ) (earlier : List Line) (place : Place) (line : List ℕ) → At earlier place
    → HeadFrom events earlier place (line ∷ []) (at_end place line)
ends_there events earlier First line h = stays_open events earlier First line (none_counted _ earlier h)
ends_there events earlier Between line h = stays_open events earlier Between line h.0.1
ends_there events earlier (Inside n input) line h = stays_open events earlier (Inside n input) line h.opened.1
ends_there events earlier Ended (b ∷ bs) h =
    stops events earlier Ended true (b ∷ bs) [] (λ same end. cc) ((λ e. inr (h.1, omega arith)), (λ fed. refl))
ends_there events earlier Ended [] h = record {
  says = [];
  good = good_nothing events earlier [] refl;
  line = [];
  others = [];
  begins = refl;
  blocks = refl;
  whole = λ yes. (refl, ap ends (append-nil earlier) ∙ h.1);
  only_whole = λ same end. refl;
  fed =
      ((λ e. absurd (cc)), (λ fed. elim fed [ inl long ↦ absurd (omega arith) | inr ended ↦ absurd (let some = ended.1 in omega arith) ]));
}

-- a block's inputs, by the line that comes next
abbrev BlocksIf : Place → Line → List Line → List StimulusItem → Option Step → Type 0
BlocksIf place l later rest None = Unit {0}
BlocksIf place l later rest (Some s) =
    (s.place ≡ Ended → later ≡ []) → inputs_of rest ≡ without_last (nat_lt 0 (ends later)) (onward s.place later)
    → inputs_of (s.items ++ rest) ≡ without_last (nat_lt 0 (ends (l ∷ later))) (onward place (l ∷ later))

one_complete : (e : Bool) (input next : CycleInput) (inputs : List CycleInput) → input ∷ without_last e (next ∷ inputs)
    ≡ without_last e (input ∷ next ∷ inputs)
one_complete true input next inputs = refl
one_complete false input next inputs = refl

same_input : (input : CycleInput) → record { time = input.time; samples = input.samples ++ [] } ≡ input
same_input input = λ i. record { time = input.time; samples = append-nil input.samples i }

blocks_cycle : (n : ℕ) (input : CycleInput) (time : Option ℕ) (later : List Line) (rest : List StimulusItem)
    → BlocksIf (Inside n input) (lines.Cycle time) later rest (taken (Inside n input) (lines.Cycle time))
blocks_cycle n input time later rest =
    elim (nat_lt n 1000000) as (λ t. BlocksIf (Inside n input) (lines.Cycle time) later rest
    (cond t (step (items.Cycle input ∷ []) (Inside (n + 1) (empty_block time))) None)) [
      | true ↦ λ ended same. ap (λ l. input ∷ l) same
          ∙ one_complete (nat_lt 0 (ends (lines.Cycle time ∷ later))) input (record { time = time; samples = (blocks_in later).samples })
          (blocks_in later).inputs
          ∙ ap (λ i. without_last (nat_lt 0 (ends (lines.Cycle time ∷ later))) (i ∷ (blocks_in (lines.Cycle time ∷ later)).inputs))
          (sym (same_input input))
      | false ↦ tt
    ]

blocks_end : (rest : List StimulusItem) (later : List Line) → later ≡ [] → inputs_of rest ≡ without_last (nat_lt 0 (ends later)) []
    → inputs_of rest ≡ []
blocks_end rest later none same = same ∙ ap (λ l. without_last (nat_lt 0 (ends l)) []) none

blocks_step : (place : Place) (l : Line) (later : List Line) (rest : List StimulusItem) → BlocksIf place l later rest (taken place l)
blocks_step First lines.Stim later rest = λ ended same. same
blocks_step First (lines.Cycle time) later rest = tt
blocks_step First (lines.Sample s) later rest = tt
blocks_step First lines.Terminate later rest = tt
blocks_step Between lines.Stim later rest = tt
blocks_step Between (lines.Cycle time) later rest = λ ended same. same
blocks_step Between (lines.Sample s) later rest = tt
blocks_step Between lines.Terminate later rest = λ ended same.
    blocks_end rest later (ended refl) same
    ∙ sym (ap (λ l. without_last (nat_lt 0 (ends (lines.Terminate ∷ l))) (blocks_in l).inputs) (ended refl))
blocks_step (Inside n input) lines.Stim later rest = tt
blocks_step (Inside n input) (lines.Cycle time) later rest = blocks_cycle n input time later rest
blocks_step (Inside n input) (lines.Sample s) later rest =
    elim (nat_lt (length input.samples) 4096) as (λ t. BlocksIf (Inside n input) (lines.Sample s) later rest
    (cond t (step [] (Inside n (with_sample input s))) None)) [
      | true ↦ λ ended same. same
          ∙ ap (λ l. without_last (nat_lt 0 (ends (lines.Sample s ∷ later)))
          (record { time = input.time; samples = l } ∷ (blocks_in later).inputs))
          (append_assoc input.samples (s ∷ []) (blocks_in later).samples)
      | false ↦ tt
    ]
blocks_step (Inside n input) lines.Terminate later rest = λ ended same.
    ap (λ l. input ∷ l) (blocks_end rest later (ended refl) same)
    ∙ ap (λ i. i ∷ []) (sym (same_input input))
    ∙ sym (ap (λ l. without_last (nat_lt 0 (ends (lines.Terminate ∷ l)))
    (record { time = input.time; samples = input.samples ++ (blocks_in l).samples } ∷ (blocks_in l).inputs)) (ended refl))
blocks_step Ended lines.Stim later rest = tt
blocks_step Ended (lines.Cycle time) later rest = tt
blocks_step Ended (lines.Sample s) later rest = tt
blocks_step Ended lines.Terminate later rest = tt

-- what a line that was taken said
record Took (events : ℕ) (place : Place) (line : List ℕ) (s : Step) : Type 0 where
  pub says : Line
  pub short : length line ≤ 128
  pub spelled : line_of events line ≡ Some says
  pub taken : taken place says ≡ Some s

took : (events : ℕ) (place : Place) (line : List ℕ) (s : Step) → text_step events place line ≡ Some s → Took events place line s
took events place line s e = long (nat_lt 128 (length line)) refl e where
  said : (o : Option Line) → line_of events line ≡ o → length line ≤ 128 → option_and_then (taken place) o ≡ Some s
      → Took events place line s
  said None spelled short is = absurd (cc)
  said (Some l) spelled short is = record { says = l; short = short; spelled = spelled; taken = is }

  long : (t : Bool) → nat_lt 128 (length line) ≡ t → cond t None (option_and_then (taken place) (line_of events line)) ≡ Some s
      → Took events place line s
  long true test is = absurd (cc)
  long false test is = said (line_of events line) refl (grind (arith, nat_tests)) is

no_lines : (events : ℕ) (texts : List (List ℕ)) (says : List Line) → map (line_of events) texts ≡ map Some says → texts ≡ [] → says ≡ []
no_lines events texts [] same none = refl
no_lines events texts (l ∷ ls) same none = let e : [] ≡ Some l ∷ map Some ls = sym (ap (map (line_of events)) none) ∙ same in absurd (cc)

ended_head : (events : ℕ) (texts : List (List ℕ)) → (reading_from events Ended texts).head ≡ []
unfolding reading_from
ended_head events [] = refl
ended_head events (line ∷ []) = (open_line Ended line).1
ended_head events (line ∷ next ∷ texts) =
    ap (λ s. (go_on line s (λ p. reading_from events p (next ∷ texts))).head) (ended_there events line)

-- a line more in front
goes_on : (events : ℕ) (earlier : List Line) (place : Place) (line : List ℕ) (texts : List (List ℕ)) (s : Step)
    → (t : Took events place line s) → (r : Reading)
    → HeadFrom events (earlier ++ t.says ∷ []) s.place texts r → (s.place ≡ Ended → r.head ≡ []) → MayStand earlier t.says
    → HeadFrom events earlier place (line ∷ texts) (after (line ∷ []) s.items r)
goes_on events earlier place line texts s t r h ended may =
    let same : (earlier ++ t.says ∷ []) ++ h.says ≡ earlier ++ t.says ∷ h.says = append_assoc earlier (t.says ∷ []) h.says in
    record {
      says = t.says ∷ h.says;
      good = record {
        short = All-cons (λ text. length text ≤ 128) line r.head t.short h.good.short;
        spelled = λ i. t.spelled i ∷ h.good.spelled i;
        order = (may, h.good.order);
      };
      line = h.line;
      others = h.others;
      begins = ap (λ l. line ∷ l) h.begins;
      blocks = let P : Option Step → Type 0 = λ o. BlocksIf place t.says h.says r.items o in
          let step_is : BlocksIf place t.says h.says r.items (Some s) = subst P t.taken (blocks_step place t.says h.says r.items) in
          step_is (λ e. no_lines events r.head h.says h.good.spelled (ended e)) h.blocks;
      whole = λ yes. let w = h.whole yes in (ap (λ l. line ∷ l) w.0, ap ends (sym same) ∙ w.1);
      only_whole = λ all end. h.only_whole (let tails : texts ≡ r.head ++ [] ∷ [] = cc in tails) (ap ends same ∙ end);
      fed = let P : List Line → Type 0 = λ l. (r.bad_is_fed ≡ true) ↔ IsFed l h.line h.others in subst P same h.fed;
    }

head_from : (events : ℕ) (earlier : List Line) (place : Place) (texts : List (List ℕ)) → IsSome_parts texts → At earlier place
    → HeadFrom events earlier place texts (reading_from events place texts)
unfolding reading_from
head_from events earlier place [] some h = let none = some.is in absurd (cc)
head_from events earlier place (line ∷ []) some h = ends_there events earlier place line h
head_from events earlier place (line ∷ next ∷ texts) some h =
    choice (text_step events place line) refl (λ earlier p k. head_from events earlier p (next ∷ texts)
    (record { line = next; others = texts; is = refl }) k) where
      choice : (o : Option Step) → text_step events place line ≡ o
          → ((e : List Line) (p : Place) → At e p → HeadFrom events e p (next ∷ texts) (reading_from events p (next ∷ texts)))
          → HeadFrom events earlier place (line ∷ next ∷ texts) (go_on line o (λ p. reading_from events p (next ∷ texts)))
      choice None e further = stops events earlier place true line (next ∷ texts) (λ same end. absurd (cc)) ((λ e. tt), (λ fed. refl))
      choice (Some s) e further =
          let t = took events place line s e in
          let P : Option Step → Type 0 = λ o. Leads earlier t.says o in
          let led : Leads earlier t.says (Some s) = subst P t.taken (leads earlier place t.says h) in
          goes_on events earlier place line (next ∷ texts) s t (reading_from events s.place (next ∷ texts))
          (further (earlier ++ t.says ∷ []) s.place led.1)
          (λ is. ap (λ p. (reading_from events p (next ∷ texts)).head) is ∙ ended_head events (next ∷ texts)) led.0

read_front : (events : ℕ) (place : Place) (line : List ℕ) (texts : List (List ℕ)) (next : List ℕ) (later : List (List ℕ))
    → reading_from events place (line ∷ (texts ++ next ∷ later))
    ≡ go_on line (text_step events place line) (λ p. reading_from events p (texts ++ next ∷ later))
unfolding reading_from
read_front events place line [] next later = refl
read_front events place line (text ∷ texts) next later = refl

longest_from : (events : ℕ) (earlier : List Line) (place : Place) (texts : List (List ℕ)) (next : List ℕ) (later : List (List ℕ))
    (more : List Line) → At earlier place → IsGoodAfter events earlier texts more
    → length texts ≤ length (reading_from events place (texts ++ next ∷ later)).head
longest_from events earlier place [] next later more h good = omega arith
longest_from events earlier place (line ∷ texts) next later [] h good = let e = good.spelled in absurd (cc)
longest_from events earlier place (line ∷ texts) next later (l ∷ more) h good =
    let spelled : line_of events line ≡ Some l = let e = good.spelled in cc in
    let others : map (line_of events) texts ≡ map Some more = let e = good.spelled in cc in
    let led = leads_on earlier place l h good.order.0 in
    let there : text_step events place line
    ≡ Some led.to = taken_there events place line l (All-head (λ text. length text ≤ 128) line texts good.short) spelled ∙ led.is in
    let rest : length texts ≤ length (reading_from events led.to.place (texts ++ next ∷ later)).head =
    longest_from events (earlier ++ l ∷ []) led.to.place texts next later more led.there
    (record { short = All-tail (λ text. length text ≤ 128) line texts good.short; spelled = others; order = good.order.1 }) in
    let head : (reading_from events place (line ∷ (texts ++ next ∷ later))).head ≡ line
    ∷ (reading_from events led.to.place (texts ++ next ∷ later)).head =
    ap (λ (r : Reading). r.head) (read_front events place line texts next later
    ∙ ap (λ o. go_on line o (λ p. reading_from events p (texts ++ next ∷ later))) there) in
    let count : length (reading_from events place (line ∷ (texts ++ next ∷ later))).head
    ≡ suc (length (reading_from events led.to.place (texts ++ next ∷ later)).head) = ap (λ (l : List (List ℕ)). length l) head in
    omega arith

ending_whole : (r : Reading) → ending_of r ≡ Terminated → r.is_whole ≡ true
ending_whole r e = choice r.is_whole refl e where
  choice : (t : Bool) → r.is_whole ≡ t → cond t Terminated (BadLine (length r.head + 1)) ≡ Terminated → r.is_whole ≡ true
  choice true is same = is
  choice false is same = absurd (cc)

whole_ending : (r : Reading) → r.is_whole ≡ true → ending_of r ≡ Terminated
whole_ending r e = ap (λ t. cond t Terminated (BadLine (length r.head + 1))) e

bad_ending : (r : Reading) → (ending_of r ≡ Terminated → ⊥) → ending_of r ≡ BadLine (length r.head + 1)
bad_ending r other = choice r.is_whole refl where
  choice : (t : Bool) → r.is_whole ≡ t → ending_of r ≡ BadLine (length r.head + 1)
  choice true is = absurd (other (whole_ending r is))
  choice false is = ap (λ t. cond t Terminated (BadLine (length r.head + 1))) is

pub is_head : (events : ℕ) (text : List ℕ) → IsHead events text
is_head events text =
    let r : Reading = reading events text in
    let h = head_from events [] First (parts text) (some_parts text) refl in
    record {
      says = h.says;
      good = record { short = h.good.short; spelled = h.good.spelled; order = h.good.order };
      line = h.line;
      others = h.others;
      begins = h.begins;
      longest = λ texts next later more is good.
          let within : length texts ≤ length (reading_from events First (texts ++ next ∷ later)).head =
          longest_from events [] First texts next later more refl (record
          { short = good.short; spelled = good.spelled; order = good.order }) in
          let same : length (reading_from events First (parts text)).head
          ≡ length (reading_from events First (texts ++ next ∷ later)).head = ap (λ l. length (reading_from events First l).head) is in
          omega arith;
      blocks = h.blocks;
      terminated = (λ e. h.whole (ending_whole r e), λ w. whole_ending r (h.only_whole w.0 w.1));
      bad = bad_ending r;
      fed = h.fed;
    }
