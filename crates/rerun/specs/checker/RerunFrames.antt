-- The frames that a run gives in the places of those that were read.
use Rattle.std.specs.Prelude.{◌≡◌, ℕ, ◌<◌, List, [], ◌∷◌, length, map, false}
use Rattle.std.specs.List.{All}
use Rattle.det_values.specs.Values.{ProfileValue}
use Rattle.det_values.specs.declared.frames.CycleInput.{CycleInput}
use Rattle.det_values.specs.declared.frames.Frame.{Frame}
use Rattle.det_values.specs.declared.frames.Frame.TheVariants.{Register, Discover, Init, Run}
use Rattle.det_values.specs.declared.frames.Frame.TheVariants.{Terminate}
use Rattle.job.specs.Meaning.{Meaning}
use Rattle.cycle_engine.specs.Engine.{StandsFor as EngineStands}
use Rattle.cycle_engine.specs.Frames.{job_of, state_of, frame_of}
use Rattle.record_grammar.specs.declared.place.Place.{Place}
use Rattle.record_grammar.specs.Places.{format_of}
use Rattle.record_view.specs.Shows.{events_of}
use Rattle.recorder.specs.declared.run_writer.recording.Recording.{Recording}

-- the input of a frame, and none of one that is no Run frame
abbrev pub input_of : Frame → List CycleInput
input_of (Run run) = run.input ∷ []
input_of frame = []

-- two frames of one kind
abbrev pub AreAlike : Frame → Frame → Type 0
AreAlike Register Register = Unit {0}
AreAlike Discover Discover = Unit {0}
AreAlike (Init elements) (Init others) = Unit {0}
AreAlike (Run run) (Run other) = Unit {0}
AreAlike Terminate Terminate = Unit {0}
AreAlike frame other = ⊥

-- What a frame that is read requires of a run: for a Run frame one more cycle is possible, and its
-- samples are of the run's events.
abbrev pub CanCome : (cycles events : ℕ) → Frame → Type 0
CanCome cycles events (Run run) = (cycles < 1000000)
    × All (λ s. s.event < events) run.input.samples
CanCome cycles events frame = Unit {0}

-- a frame's place is one in a record of this profile
pub record IsPlaced (place : Place) (profile : ProfileValue) : Type 0 where
  pub format : format_of place ≡ profile.format
  pub events : events_of place ≡ length profile.events

module _ {S G E L P : Type 0} (m : Meaning S G E L P) where
  -- the frame that a run, after these inputs, gives in the place of one that was read
  abbrev pub rerun_frame : ProfileValue → List CycleInput → Frame → Frame
  rerun_frame profile before (Init elements) =
      Init (map (m.shown (job_of m profile)) (state_of m profile before).elements)
  rerun_frame profile before (Run run) =
      Run (frame_of m profile before (state_of m profile before) run.input)
  rerun_frame profile before frame = frame

  -- its engine has run these inputs, whatever was written
  pub record IsEngineAfter (recording : Recording S G E L P)
      (given : List CycleInput) : Type 0 where
    pub engine : EngineStands m recording.profile recording.engine given
    pub going : recording.engine.stopped ≡ false
