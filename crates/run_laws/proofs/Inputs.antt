-- The blocks of a stimulus are inputs that a record can hold.
use Rattle.std.proofs.Common.{◌≡◌, ℕ, ◌<◌, List, [], ◌∷◌, map, Bool, true, false, Option, Some, None, subst}
use Rattle.std.specs.Prelude.{nat_lt}
use Rattle.std.specs.List.{All}
use Rattle.std.proofs.lemmas.List.Elements.{All-nil, All-cons, All-head, All-tail, All-same}
use Rattle.det_values.specs.Limits.{IsSampleValue}
use Rattle.det_values.specs.Values.{SampleValue}
use Rattle.det_values.specs.declared.frames.CycleInput.{CycleInput}
use Rattle.stimulus.specs.declared.parse_line.Line.{Line}
use Rattle.stimulus.specs.declared.parse_line.Line.TheVariants as lines
use Rattle.stimulus.specs.GoodLines.{blocks_in, without_last, ends}
use Rattle.stimulus.specs.Limits.{IsLine}
use Rattle.stimulus.specs.Lines.{line_of}
use Rattle.stimulus.specs.Reading.{blocks, good_lines}
use Rattle.stimulus.proofs.Within.{IfLine, line_within}
use Rattle.stimulus.proofs.Growing.{blocks_within}
use Rattle.stimulus.proofs.Heads.{is_head}
use Rattle.record_grammar.specs.Spelling.{IsTime, IsSample, IsInput as CanHold}

abbrev IsTimed : CycleInput → Type 0
IsTimed input = IsTime input.time

abbrev AreTimed : List CycleInput → Type 0
AreTimed inputs = All IsTimed inputs

-- what lines of a stimulus say keeps to the limits of lines
says_within : (events : ℕ) (texts : List (List ℕ)) (says : List Line) → map (line_of events) texts ≡ map Some says
    → All (IsLine events) says
says_within events [] [] e = All-nil (IsLine events)
says_within events [] (l ∷ says) e = absurd cc
says_within events (text ∷ texts) [] e = absurd cc
says_within events (text ∷ texts) (l ∷ says) e =
    let here : line_of events text ≡ Some l = cc in
    let rest : map (line_of events) texts ≡ map Some says = cc in
    All-cons (IsLine events) l says (subst (IfLine events) here (line_within events text)) (says_within events texts says rest)

time_of : (events : ℕ) (time : Option ℕ) → IsLine events (lines.Cycle time) → IsTime time
time_of events None h = tt
time_of events (Some t) h = h

blocks_timed : (events : ℕ) (says : List Line) → All (IsLine events) says → AreTimed (blocks_in says).inputs
blocks_timed events [] h = All-nil IsTimed
blocks_timed events (lines.Cycle time ∷ says) h =
    All-cons IsTimed _ _ (time_of events time (All-head (IsLine events) (lines.Cycle time) says h))
    (blocks_timed events says (All-tail (IsLine events) (lines.Cycle time) says h))
blocks_timed events (lines.Sample s ∷ says) h = blocks_timed events says (All-tail (IsLine events) (lines.Sample s) says h)
blocks_timed events (lines.Stim ∷ says) h = blocks_timed events says (All-tail (IsLine events) lines.Stim says h)
blocks_timed events (lines.Terminate ∷ says) h = blocks_timed events says (All-tail (IsLine events) lines.Terminate says h)

without_timed : (t : Bool) (inputs : List CycleInput) → AreTimed inputs → AreTimed (without_last t inputs)
without_timed true inputs h = h
without_timed false [] h = All-nil IsTimed
without_timed false (input ∷ []) h = All-nil IsTimed
without_timed false (input ∷ next ∷ inputs) h =
    All-cons IsTimed input (without_last false (next ∷ inputs)) (All-head IsTimed input (next ∷ inputs) h)
    (without_timed false (next ∷ inputs) (All-tail IsTimed input (next ∷ inputs) h))

all_timed : (events : ℕ) (text : List ℕ) → AreTimed (blocks events text)
all_timed events text =
    let h = is_head events text in
    let all = blocks_timed events h.says (says_within events (good_lines events text) h.says h.good.spelled) in
    All-same IsTimed (blocks events text) (without_last (nat_lt 0 (ends h.says)) (blocks_in h.says).inputs) h.blocks
    (without_timed (nat_lt 0 (ends h.says)) (blocks_in h.says).inputs all)

samples_held : (events : ℕ) (samples : List SampleValue) → All (λ s. s.event < events) samples → All (λ s. IsSampleValue s.value) samples
    → All (IsSample events) samples
samples_held events samples known values = λ k d below. (known k d below, values k d below)

pub all_held : (events : ℕ) (text : List ℕ) → All (CanHold events) (blocks events text)
all_held events text = λ k d below.
    let input = blocks_within events text k d below in
    (all_timed events text k d below, input.few, samples_held events _ input.known input.values)
