-- The limits of the inputs of a stimulus.
use Rattle.std.specs.Prelude.{ℕ, ◌^◌, ◌<◌, ◌≤◌, length, Option, Some, None}
use Rattle.std.specs.List.{All}
use Rattle.det_values.specs.Values.{SampleValue}
use Rattle.det_values.specs.Limits.{IsSampleValue}
use Rattle.det_values.specs.declared.frames.CycleInput.{CycleInput}
use Rattle.stimulus.specs.declared.parse_line.Line.{Line}
use Rattle.stimulus.specs.declared.parse_line.Line.TheVariants as lines
use Rattle.stimulus.specs.declared.stimulus_item.StimulusItem.{StimulusItem}
use Rattle.stimulus.specs.declared.stimulus_item.StimulusItem.TheVariants as items

-- a sample of an event below `events`
pub record IsSample (events : ℕ) (s : SampleValue) : Type 0 where
  pub event : s.event < events
  pub value : IsSampleValue s.value

-- a time that is known is a u64
abbrev pub IsTime : Option ℕ → Type 0
IsTime None = Unit {0}
IsTime (Some time) = time < 2 ^ 64

-- the content of a line
abbrev pub IsLine : ℕ → Line → Type 0
IsLine events lines.Stim = Unit {0}
IsLine events (lines.Cycle time) = IsTime time
IsLine events (lines.Sample s) = IsSample events s
IsLine events lines.Terminate = Unit {0}

-- at most 4,096 samples
pub record IsInput (events : ℕ) (input : CycleInput) : Type 0 where
  pub time : IsTime input.time
  pub few : length input.samples ≤ 4096
  pub known : All (λ s. s.event < events) input.samples
  pub values : All (λ s. IsSampleValue s.value) input.samples

abbrev pub IsItem : ℕ → StimulusItem → Type 0
IsItem events (items.Cycle input) = IsInput events input
IsItem events items.Terminate = Unit {0}
