-- The inputs of a stimulus keep to their limits.
use Rattle.std.proofs.Common.{◌≡◌, ℕ, zero, suc, ◌+◌, ◌^◌, ◌<◌, ℤ, List, [], ◌∷◌, ◌++◌, length, take, drop, Bool, true, false, cond, nat_lt}
use Rattle.std.proofs.Common.{nat_eq, Option, Some, None, refl, sym, arith, codes, length-append}
use Rattle.std.specs.Prelude.{pos, option_map, option_and_then}
use Rattle.std.specs.List.{All, position}
use Rattle.std.specs.Option.{option_zip}
use Rattle.std.specs.Str.{bytes_eq}
use Rattle.std.proofs.lemmas.Bool.Decides.{nat_tests}
use Rattle.std.proofs.lemmas.Int.{ints}
use Rattle.std.proofs.lemmas.List.Elements.{All-nil, All-cons, All-push, All-append, All-same, All-drop, All-head}
use Rattle.std.proofs.lemmas.List.{drop_at}
use Rattle.det_values.specs.Limits.{IsSampleValue}
use Rattle.det_values.specs.Values.{SampleValue}
use Rattle.det_values.specs.declared.frames.CycleInput.{CycleInput}
use Rattle.stimulus.specs.declared.parse_line.Line.{Line}
use Rattle.stimulus.specs.declared.parse_line.Line.TheVariants as lines
use Rattle.stimulus.specs.declared.stimulus_item.StimulusItem.{StimulusItem}
use Rattle.stimulus.specs.declared.stimulus_item.StimulusItem.TheVariants as items
use Rattle.stimulus.specs.Numbers.{number, below, as_negative, value_of}
use Rattle.stimulus.specs.Lines.{cycle_line, sample_words, sample_line, line_of}
use Rattle.stimulus.specs.Places.{Place, First, Between, Inside, Ended, Step, step, empty_block, with_sample, taken}
use Rattle.stimulus.specs.Limits.{IsTime, IsSample, IsLine, IsInput, IsItem}
use Rattle.stimulus.specs.Reading.{Reading, reading, reading_from, parts, at_end, text_step, go_on}
use Rattle.stimulus.proofs.Going.{open_line}

abbrev IfNumber : ℕ → Option ℕ → Type 0
IfNumber limit None = Unit {0}
IfNumber limit (Some n) = n < limit

abbrev IfValue : Option ℤ → Type 0
IfValue None = Unit {0}
IfValue (Some v) = IsSampleValue v

abbrev pub IfLine : ℕ → Option Line → Type 0
IfLine events None = Unit {0}
IfLine events (Some l) = IsLine events l

number_below : (limit : ℕ) (o : Option ℕ) → IfNumber limit (below limit o)
number_below limit None = tt
number_below limit (Some n) = grind (arith, nat_tests)

positive : (o : Option ℕ) → IfNumber 1000000000001 o → IfValue (option_map pos o)
positive None h = tt
positive (Some n) h = omega (arith, ints)

negative : (o : Option ℕ) → IfNumber 1000000000001 o → IfValue (option_and_then as_negative o)
negative None h = tt
negative (Some zero) h = tt
negative (Some (suc n)) h = omega (arith, ints)

value_within : (bytes : List ℕ) → IfValue (value_of bytes)
unfolding value_of
value_within bytes =
    elim (bytes_eq (take 1 bytes) (codes "-"))
    as (λ t. IfValue
    (cond t (option_and_then as_negative (below 1000000000001 (number (drop 1 bytes))))
    (option_map pos (below 1000000000001 (number bytes))))) [
      | true ↦ negative (below 1000000000001 (number (drop 1 bytes))) (number_below 1000000000001 (number (drop 1 bytes)))
      | false ↦ positive (below 1000000000001 (number bytes)) (number_below 1000000000001 (number bytes))
    ]

-- a cycle's line by its time, and a sample's by its event and value
abbrev pub timed : Option ℕ → Option Line
timed time = option_map (λ t. lines.Cycle (Some t)) time

abbrev pub sampled : Option ℕ → Option ℤ → Option Line
sampled event value = option_map (λ s. lines.Sample (record { event = s.0; value = s.1 })) (option_zip event value)

sampled_within : (events : ℕ) (e : Option ℕ) (v : Option ℤ) → IfNumber events e → IfValue v → IfLine events (sampled e v)
sampled_within events None v h k = tt
sampled_within events (Some e) None h k = tt
sampled_within events (Some e) (Some v) h k = record { event = h; value = k }

words_within : (events : ℕ) (words : List ℕ) (o : Option ℕ) → IfLine events (option_and_then (sample_words events words) o)
words_within events words None = tt
words_within events words (Some space) =
    sampled_within events (below events (number (take space words))) (value_of (drop (space + 1) words))
    (number_below events (number (take space words))) (value_within (drop (space + 1) words))

timed_within : (events : ℕ) (o : Option ℕ) → IfNumber (2 ^ 64) o → IfLine events (timed o)
timed_within events None h = tt
timed_within events (Some t) h = h

cycle_within : (events : ℕ) (time : List ℕ) → IfLine events (cycle_line time)
cycle_within events time =
    elim (bytes_eq time (codes "-")) as (λ t. IfLine events (cond t (Some (lines.Cycle None)) (timed (below (2 ^ 64) (number time))))) [
      | true ↦ tt
      | false ↦ timed_within events (below (2 ^ 64) (number time)) (number_below (2 ^ 64) (number time))
    ]

pub line_within : (events : ℕ) (line : List ℕ) → IfLine events (line_of events line)
unfolding line_of
line_within events line =
    let prefixed : Option Line = cond (bytes_eq (take 7 line) (codes "sample ")) (sample_line events (drop 7 line)) None in
    let last : IfLine events prefixed =
    elim (bytes_eq (take 7 line) (codes "sample ")) as (λ t. IfLine events (cond t (sample_line events (drop 7 line)) None)) [
      | true ↦ words_within events (drop 7 line) (position (λ b. nat_eq b 32) (drop 7 line))
      | false ↦ tt
    ] in
    let later : Option Line = cond (bytes_eq (take 6 line) (codes "cycle ")) (cycle_line (drop 6 line)) prefixed in
    let third : IfLine events later =
    elim (bytes_eq (take 6 line) (codes "cycle ")) as (λ t. IfLine events (cond t (cycle_line (drop 6 line)) prefixed))
    [ true ↦ cycle_within events (drop 6 line) | false ↦ last ] in
    elim (bytes_eq line (codes "stim 1"))
    as (λ t. IfLine events (cond t (Some lines.Stim) (cond (bytes_eq line (codes "terminate")) (Some lines.Terminate) later))) [
      | true ↦ tt
      | false ↦ elim (bytes_eq line (codes "terminate")) as (λ t. IfLine events (cond t (Some lines.Terminate) later))
          [ true ↦ tt | false ↦ third ]
    ]

abbrev IsPlace : ℕ → Place → Type 0
IsPlace events First = Unit {0}
IsPlace events Between = Unit {0}
IsPlace events (Inside n input) = IsInput events input
IsPlace events Ended = Unit {0}

abbrev IfStep : ℕ → Option Step → Type 0
IfStep events None = Unit {0}
IfStep events (Some s) = All (IsItem events) s.items × IsPlace events s.place

no_items : (events : ℕ) → All (IsItem events) []
no_items events = All-nil (IsItem events)

one_item : (events : ℕ) (item : StimulusItem) (others : List StimulusItem) → IsItem events item → All (IsItem events) others →
    All (IsItem events) (item ∷ others)
one_item events item others = All-cons (IsItem events) item others

fresh : (events : ℕ) (time : Option ℕ) → IsTime time → IsInput events (empty_block time)
fresh events time h =
    record { time = h; few = omega arith; known = All-nil (λ s. s.event < events); values = All-nil (λ s. IsSampleValue s.value) }

ended_within : (events : ℕ) (l : Line) → IfStep events (taken Ended l)
ended_within events lines.Stim = tt
ended_within events (lines.Cycle time) = tt
ended_within events (lines.Sample s) = tt
ended_within events lines.Terminate = tt

longer : (events : ℕ) (input : CycleInput) (s : SampleValue) → IsInput events input → IsSample events s → length input.samples < 4096 →
    IsInput events (with_sample input s)
longer events input s h k room = record {
  time = h.time;
  few = omega (arith, length-append input.samples (s ∷ []));
  known = All-push (λ s. s.event < events) input.samples s h.known k.event;
  values = All-push (λ s. IsSampleValue s.value) input.samples s h.values k.value;
}

sample_within : (events n : ℕ) (input : CycleInput) (s : SampleValue) → IsInput events input → IsSample events s →
    IfStep events (taken (Inside n input) (lines.Sample s))
sample_within events n input s h k = choice (nat_lt (length input.samples) 4096) refl where
  choice : (t : Bool) → nat_lt (length input.samples) 4096 ≡ t → IfStep events (cond t (step [] (Inside n (with_sample input s))) None)
  choice true e = (no_items events, longer events input s h k (grind (arith, nat_tests)))
  choice false e = tt

taken_within : (events : ℕ) (p : Place) (l : Line) → IsPlace events p → IsLine events l → IfStep events (taken p l)
taken_within events First lines.Stim h k = (no_items events, tt)
taken_within events First (lines.Cycle time) h k = tt
taken_within events First (lines.Sample s) h k = tt
taken_within events First lines.Terminate h k = tt
taken_within events Between lines.Stim h k = tt
taken_within events Between (lines.Cycle time) h k = (no_items events, fresh events time k)
taken_within events Between (lines.Sample s) h k = tt
taken_within events Between lines.Terminate h k = (one_item events items.Terminate [] tt (no_items events), tt)
taken_within events (Inside n input) lines.Stim h k = tt
taken_within events (Inside n input) (lines.Cycle time) h k =
    elim (nat_lt n 1000000) as (λ t. IfStep events (cond t (step (items.Cycle input ∷ []) (Inside (n + 1) (empty_block time))) None)) [
      | true ↦ (one_item events (items.Cycle input) [] h (no_items events), fresh events time k)
      | false ↦ tt
    ]
taken_within events (Inside n input) (lines.Sample s) h k = sample_within events n input s h k
taken_within events (Inside n input) lines.Terminate h k =
    (one_item events (items.Cycle input) (items.Terminate ∷ []) h (one_item events items.Terminate [] tt (no_items events)), tt)
taken_within events Ended l h k = ended_within events l

taken_if_within : (events : ℕ) (p : Place) (o : Option Line) → IsPlace events p → IfLine events o
    → IfStep events (option_and_then (taken p) o)
taken_if_within events p None h k = tt
taken_if_within events p (Some l) h k = taken_within events p l h k

taken_at_within : (events : ℕ) (p : Place) (line : List ℕ) → IsPlace events p → IfStep events (text_step events p line)
taken_at_within events p line h =
    elim (nat_lt 128 (length line)) as (λ t. IfStep events (cond t None (option_and_then (taken p) (line_of events line)))) [
      | true ↦ tt
      | false ↦ taken_if_within events p (line_of events line) h (line_within events line)
    ]

go_on_within : (events : ℕ) (line : List ℕ) (o : Option Step) (next : Place → Reading) → IfStep events o →
    ((p : Place) → IsPlace events p → All (IsItem events) (next p).items) → All (IsItem events) (go_on line o next).items
go_on_within events line None next h all = no_items events
go_on_within events line (Some s) next h all = All-append (IsItem events) s.items (next s.place).items h.0 (all s.place h.1)

reading_within : (events : ℕ) (p : Place) (texts : List (List ℕ)) → IsPlace events p →
    All (IsItem events) (reading_from events p texts).items
unfolding reading_from
reading_within events p [] h = no_items events
reading_within events p (line ∷ []) h = All-same (IsItem events) (at_end p line).items [] (open_line p line).0 (no_items events)
reading_within events p (line ∷ next ∷ texts) h =
    go_on_within events line (text_step events p line) (λ q. reading_from events q (next ∷ texts)) (taken_at_within events p line h)
    (λ q k. reading_within events q (next ∷ texts) k)

pub all_within : (events : ℕ) (text : List ℕ) → All (IsItem events) (reading events text).items
all_within events text = reading_within events First (parts text) tt

pub next_within : (events : ℕ) (bytes : List ℕ) (given others : List StimulusItem) (item : StimulusItem) →
    (reading events bytes).items ≡ given ++ item ∷ others → IsItem events item
next_within events bytes given others item e =
    let all : All (IsItem events) (given ++ item ∷ others) =
    All-same (IsItem events) (given ++ item ∷ others) (reading events bytes).items (sym e) (all_within events bytes) in
    let rest : All (IsItem events) (item ∷ others) =
    All-same (IsItem events) (item ∷ others) (drop (length given) (given ++ item ∷ others))
    (sym (drop_at given (item ∷ others) (length given) refl))
    (All-drop (IsItem events) (length given) (given ++ item ∷ others) all) in
    All-head (IsItem events) item others rest
