-- Where the struct of a frame says that the frame's parts are.
use Rattle.std.specs.Prelude.{◌≡◌, ℕ, List, [], length, map, take, drop, Option, Some, None, false}
use Rattle.std.specs.Prelude.{if◌then◌else◌}
use Rattle.det_values.specs.declared.format.Format.{Format}
use Rattle.det_values.specs.declared.format.Format.TheVariants.{One, Two}
use Rattle.det_values.specs.declared.frames.CycleInput.{CycleInput}
use Rattle.det_values.specs.declared.frames.DrawnElement.{DrawnElement}
use Rattle.det_values.specs.declared.frames.Outcome.{Outcome}
use Rattle.det_values.specs.declared.frames.Outcome.TheVariants.{Finished, Refused}
use Rattle.det_values.specs.declared.frames.Frame.{Frame}
use Rattle.det_values.specs.declared.frames.Frame.TheVariants as frames
use Rattle.det_values.specs.Values.{RefusedAtValue}
use Rattle.record_grammar.specs.Read.{Read, Got, many}
use Rattle.record_grammar.specs.Grammar.{sample_at, drawn_at}
use Rattle.record_view.specs.Parts.{undrawn}
use Rattle.c_types.specs.CValues.{time_of, place_of_refusal}
use Rattle.c_types.specs.declared.frame.DetFrame.{DetFrame}

-- ---- the parts of a frame; it has none of a kind that isn't named

abbrev pub tag_of : Frame → ℕ
tag_of frames.Register = 1
tag_of frames.Discover = 2
tag_of (frames.Init elements) = 3
tag_of (frames.Run run) = 4
tag_of frames.Terminate = 5

abbrev pub input_in : Frame → CycleInput
input_in (frames.Run run) = run.input
input_in frame = record { time = None; samples = [] }

abbrev pub elements_after : Outcome → List DrawnElement
elements_after (Finished elements output) = elements
elements_after (Refused at) = []

abbrev pub elements_in : Frame → List DrawnElement
elements_in (frames.Init elements) = map undrawn elements
elements_in (frames.Run run) = elements_after run.outcome
elements_in frame = []

abbrev pub output_after : Outcome → List ℕ
output_after (Finished elements output) = output
output_after (Refused at) = []

abbrev pub output_in : Frame → List ℕ
output_in (frames.Run run) = output_after run.outcome
output_in frame = []

abbrev pub refusal_after : Outcome → Option RefusedAtValue
refusal_after (Finished elements output) = None
refusal_after (Refused at) = Some at

abbrev pub refusal_in : Frame → Option RefusedAtValue
refusal_in (frames.Run run) = refusal_after run.outcome
refusal_in frame = None

-- the Run frame of a cycle
abbrev pub cycle_frame : CycleInput → Outcome → Frame
cycle_frame input outcome = frames.Run (record { input = input; outcome = outcome })

-- ---- the struct

-- how its elements are spelled: without draws as in format 1
abbrev pub element_format : DetFrame → Format
element_format f = if f.has_draws then Two else One

abbrev pub refusal_of : DetFrame → Option RefusedAtValue
refusal_of f = if f.refused then Some (place_of_refusal f.refusal) else None

-- this is read from an offset on
abbrev pub ReadsAt : {A : Type 0} → (List ℕ → Read A) → ℕ → List ℕ → A → Type 0
ReadsAt reader at bytes x = (rest : List ℕ) × (reader (drop at bytes) ≡ Got (x, rest))

-- the struct says of these bytes where the parts of the frame are, of a record with such events
pub record IsFrameAt (events : ℕ) (f : DetFrame) (bytes : List ℕ) (frame : Frame) : Type 0 where
  pub tag : f.tag ≡ tag_of frame
  pub time : time_of f.time ≡ (input_in frame).time
  pub samples : ReadsAt (many (sample_at events) f.sample_count) f.samples bytes
      (input_in frame).samples
  pub elements : ReadsAt (many (drawn_at (element_format f)) f.element_count) f.elements bytes
      (elements_in frame)
  pub output : take f.output_count (drop f.output bytes) ≡ output_in frame
  pub output_count : f.output_count ≡ length (output_in frame)
  pub refusal : refusal_of f ≡ refusal_in frame

-- the struct says of no part
pub record HasNoParts (f : DetFrame) : Type 0 where
  pub time : time_of f.time ≡ None
  pub samples : f.sample_count ≡ 0
  pub elements : f.element_count ≡ 0
  pub output : f.output_count ≡ 0
  pub refusal : f.refused ≡ false
