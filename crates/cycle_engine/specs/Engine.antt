-- The state of an engine, its place in a run, and the effect of one cycle.
use Rattle.std.specs.Prelude.{◌≡◌, ◌≤◌, ℕ, ◌+◌, List, [], ◌∷◌, ◌++◌, length}
use Rattle.std.specs.Prelude.{Option, None, Some, Result, Bool, true, false}
use Rattle.std.specs.List.{All}
use Rattle.det_values.specs.Limits.{IsCycleTime}
use Rattle.det_values.specs.Values.{ProfileValue, SampleValue, EventSpecValue, RefusedAtValue}
use Rattle.det_values.specs.Frames.{outcome_in_format}
use Rattle.det_values.specs.declared.format.Format.{Format}
use Rattle.det_values.specs.declared.frames.CycleInput.{CycleInput}
use Rattle.det_values.specs.declared.frames.RunFrame.{RunFrame}
use Rattle.det_client.specs.declared.activation.Activation.{Activation}
use Rattle.det_client.specs.declared.activation.Activation.TheVariants.{RegisterServices}
use Rattle.det_client.specs.declared.activation.Activation.TheVariants.{ServiceDiscovery, Init}
use Rattle.det_client.specs.declared.activation.Activation.TheVariants.{Run, Terminate}
use Rattle.det_client.specs.Life.{successor}
use Rattle.det_client.specs.State.{State as ClientState, next_time}
use Rattle.job.specs.event_cache.Rings.{Rings, windows}
use Rattle.job.specs.event_cache.Windows.{HasSeen, next_windows}
use Rattle.job.specs.Meaning.{Meaning}
use Rattle.job.specs.Cycle.{State, Done, cycle_result, outcome_of, state_after}
use Rattle.cycle_engine.specs.Frames.{job_of, state_of, samples_of}

pub record EngineState (S G E : Type 0) : Type 0 where
  pub job : S
  pub format : Format
  pub state : State G E
  pub cycles : ℕ
  pub cycle_time : ℕ
  pub rings : List Rings
  -- whether it was stopped
  pub stopped : Bool

abbrev pub is_terminate : Option Activation → Bool
is_terminate None = false
is_terminate (Some RegisterServices) = false
is_terminate (Some ServiceDiscovery) = false
is_terminate (Some Init) = false
is_terminate (Some Run) = false
is_terminate (Some Terminate) = true

-- the fields of an engine fit one another
pub record Fits {S G E L P : Type 0} (m : Meaning S G E L P) (Own : S → E → Type 0) (job : S)
    (elements : List E) (client : ClientState) (rings : List Rings) (time : ℕ) : Type 0 where
  pub own : All (Own job) elements
  pub few : length elements ≤ 65536
  pub events : length rings ≡ m.events job
  pub ready : is_terminate client.last ≡ false → successor client.last ≡ Run
  pub timed : client.cycle_time ≡ time
  pub in_limits : IsCycleTime time

-- An engine is in the run of a profile, after the cycles of these inputs.
pub record StandsFor {S G E L P : Type 0} (m : Meaning S G E L P) (profile : ProfileValue)
    (engine : EngineState S G E) (inputs : List CycleInput) : Type 0 where
  pub job : engine.job ≡ job_of m profile
  pub format : engine.format ≡ profile.format
  pub cycle_time : engine.cycle_time ≡ profile.cycle_time
  pub state : engine.state ≡ state_of m profile inputs
  pub cycles : engine.cycles ≡ length inputs
  pub rings : HasSeen engine.rings profile.events (samples_of inputs) []

module _ {S G E L P : Type 0} (m : Meaning S G E L P) where
  -- the next cycle of an engine, at this time
  abbrev pub next_cycle : EngineState S G E → Option ℕ → Result (Done G E) RefusedAtValue
  next_cycle e time =
      cycle_result m e.job e.state (windows e.rings) (e.cycles + 1) time
      (next_time e.cycle_time time)

  -- its frame, reduced to what the engine's format keeps
  abbrev pub next_frame : EngineState S G E → CycleInput → RunFrame
  next_frame e input = record {
    input = input;
    outcome = outcome_in_format e.format (outcome_of (next_cycle e input.time));
  }

  -- An engine after its next cycle, whose samples arrived at its end. A refused cycle leaves the
  -- old state.
  pub record IsAfter (old : EngineState S G E) (input : CycleInput)
      (new : EngineState S G E) : Type 0 where
    pub job : new.job ≡ old.job
    pub format : new.format ≡ old.format
    pub cycle_time : new.cycle_time ≡ old.cycle_time
    pub state : new.state ≡ state_after old.state (next_cycle old input.time)
    pub cycles : new.cycles ≡ old.cycles + 1
    pub going : new.stopped ≡ false
    pub rings : (events : List EventSpecValue) (rounds : List (List SampleValue))
        → HasSeen old.rings events rounds []
        → HasSeen new.rings events (rounds ++ input.samples ∷ []) []
    pub windows : (events : List EventSpecValue) (rounds : List (List SampleValue))
        → HasSeen old.rings events rounds []
        → windows new.rings ≡ next_windows events (windows old.rings) input.samples
