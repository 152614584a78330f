-- The frames of a run, defined from its profile and the inputs of its cycles. The definition
-- doesn't mention workers.
use Rattle.std.specs.Prelude.{ℕ, ◌+◌, List, [], ◌∷◌, ◌++◌, length, map, Result, Bool, if◌then◌else◌}
use Rattle.det_values.specs.Values.{ProfileValue, SampleValue, RefusedAtValue}
use Rattle.det_values.specs.Frames.{outcome_in_format}
use Rattle.det_values.specs.declared.frames.CycleInput.{CycleInput}
use Rattle.det_values.specs.declared.frames.RunFrame.{RunFrame}
use Rattle.det_values.specs.declared.frames.Frame.{Frame}
use Rattle.det_values.specs.declared.frames.Frame.TheVariants.{Register, Discover, Init}
use Rattle.det_values.specs.declared.frames.Frame.TheVariants.{Run, Terminate}
use Rattle.det_client.specs.State.{next_time}
use Rattle.job.specs.event_cache.Windows.{windows_after}
use Rattle.job.specs.Meaning.{Meaning, JobStartValue}
use Rattle.job.specs.Cycle.{State, Done, cycle_result, outcome_of, state_after}

-- the samples of each input
abbrev pub samples_of : List CycleInput → List (List SampleValue)
samples_of inputs = map (λ (input : CycleInput). input.samples) inputs

abbrev pub start_state : {G E : Type 0} → JobStartValue G E → State G E
start_state b = record { globals = b.globals; elements = b.elements; seed = b.seed }

module _ {S G E L P : Type 0} (m : Meaning S G E L P) (profile : ProfileValue) where
  -- the job of the profile
  abbrev pub job_of : S
  job_of = m.made profile.params (length profile.events)

  -- the state before the first cycle
  abbrev pub first_state : State G E
  first_state = start_state (m.started job_of profile.seed)

  -- The cycle of a state and an input, after the inputs of all earlier cycles. Its windows hold
  -- only samples of those.
  abbrev pub cycle_of : List CycleInput → State G E → CycleInput → Result (Done G E) RefusedAtValue
  cycle_of before state input =
      cycle_result m job_of state (windows_after profile.events (samples_of before)) (length before + 1)
      input.time (next_time profile.cycle_time input.time)

  -- its frame, reduced to what the profile's format keeps
  abbrev pub frame_of : List CycleInput → State G E → CycleInput → RunFrame
  frame_of before state input = record {
    input = input;
    outcome = outcome_in_format profile.format (outcome_of (cycle_of before state input));
  }

  -- the state after these inputs, which come after others
  unfoldable pub state_after_inputs : List CycleInput → State G E → List CycleInput → State G E
  state_after_inputs before state [] = state
  state_after_inputs before state (input ∷ inputs) =
      state_after_inputs (before ++ input ∷ []) (state_after state (cycle_of before state input)) inputs

  -- the frames of these inputs, which come after others
  unfoldable pub runs_after_inputs : List CycleInput → State G E → List CycleInput → List RunFrame
  runs_after_inputs before state [] = []
  runs_after_inputs before state (input ∷ inputs) =
      frame_of before state input
      ∷ runs_after_inputs (before ++ input ∷ []) (state_after state (cycle_of before state input)) inputs

  -- the state after the cycles of these inputs, and the frames of those cycles
  abbrev pub state_of : List CycleInput → State G E
  state_of inputs = state_after_inputs [] first_state inputs

  abbrev pub runs : List CycleInput → List RunFrame
  runs inputs = runs_after_inputs [] first_state inputs

  -- the bytes of the elements that the run starts with
  abbrev pub init_of : List (List ℕ)
  init_of = map (m.shown job_of) first_state.elements

  -- the frames of the whole run, with Terminate if it has ended
  abbrev pub frames : List CycleInput → Bool → List Frame
  frames inputs ended =
      (Register ∷ Discover ∷ Init init_of ∷ map (λ run. Run run) (runs inputs))
      ++ (if ended then Terminate ∷ [] else [])
