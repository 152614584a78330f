-- The place of a line, and what a line completes there.
use Rattle.std.specs.Prelude.{ℕ, ◌+◌, nat_lt, List, [], ◌∷◌, ◌++◌, length, Option, None, Some}
use Rattle.std.specs.Prelude.{if◌then◌else◌}
use Rattle.det_values.specs.Values.{SampleValue}
use Rattle.det_values.specs.declared.frames.CycleInput.{CycleInput}
use Rattle.stimulus.specs.declared.parse_line.Line.{Line}
use Rattle.stimulus.specs.declared.parse_line.Line.TheVariants as lines
use Rattle.stimulus.specs.declared.stimulus_item.StimulusItem.{StimulusItem}
use Rattle.stimulus.specs.declared.stimulus_item.StimulusItem.TheVariants as items

-- What comes before a line: nothing, only the first line, some blocks, or all of a stimulus. Of the
-- last block this input was read.
pub data Place : Type 0 where
  First : Place
  Between : Place
  Inside : ℕ → CycleInput → Place
  Ended : Place

-- the items that a line completes, and the place after it
pub record Step : Type 0 where
  pub items : List StimulusItem
  pub place : Place

abbrev pub step : List StimulusItem → Place → Option Step
step given place = Some (record { items = given; place = place })

-- a block that was just begun
abbrev pub empty_block : Option ℕ → CycleInput
empty_block time = record { time = time; samples = [] }

abbrev pub with_sample : CycleInput → SampleValue → CycleInput
with_sample input s = record { time = input.time; samples = input.samples ++ s ∷ [] }

-- a line at a place; none if it may not come there
abbrev pub taken : Place → Line → Option Step
taken First lines.Stim = step [] Between
taken Between (lines.Cycle time) = step [] (Inside 1 (empty_block time))
taken Between lines.Terminate = step (items.Terminate ∷ []) Ended
taken (Inside blocks input) (lines.Cycle time) =
    if nat_lt blocks 1000000 then step (items.Cycle input ∷ []) (Inside (blocks + 1) (empty_block time))
    else None
taken (Inside blocks input) (lines.Sample s) =
    if nat_lt (length input.samples) 4096 then step [] (Inside blocks (with_sample input s))
    else None
taken (Inside blocks input) lines.Terminate = step (items.Cycle input ∷ items.Terminate ∷ []) Ended
taken _ _ = None
