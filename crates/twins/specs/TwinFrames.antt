-- A copy that makes the frames of the run and sends its rows.
use Rattle.std.specs.Prelude.{◌≡◌, ℕ, ◌+◌, ◌-◌, ◌<◌, ◌≤◌, List, length, take, Some}
use Rattle.std.specs.Prelude.{true, false, Result, IfOk, OnOk}
use Rattle.std.specs.List.{All, slice_get}
use Rattle.det_values.specs.Values.{ProfileValue}
use Rattle.det_values.specs.declared.frames.CycleInput.{CycleInput}
use Rattle.det_values.specs.declared.frames.Frame.{Frame}
use Rattle.job.specs.Meaning.{Meaning}
use Rattle.cycle_engine.specs.Engine.{EngineState, StandsFor}
use Rattle.cycle_engine.specs.Frames.{frames}
use Rattle.frame_queue.specs.declared.row.Row.{Row}
use Rattle.frame_queue.specs.declared.queue.FrameQueue.{FrameQueue}
use Rattle.frame_queue.specs.Queues.{sent_of, IsSenderOf}
use Rattle.twins.specs.declared.twin.Twin.{Twin}
use Rattle.twins.specs.TwinVerdict.{rows_from}

-- each sample is of an event of the profile
abbrev pub AreKnown : ProfileValue → List CycleInput → Type 0
AreKnown profile inputs =
    All (λ (input : CycleInput). All (λ s. s.event < length profile.events) input.samples) inputs

module _ {S G E L P : Type 0} (m : Meaning S G E L P) (profile : ProfileValue)
    (inputs : List CycleInput) where
  -- frame `number` of the run
  abbrev pub IsFrame : ℕ → Frame → Type 0
  IsFrame number frame = slice_get (frames m profile inputs true) number ≡ Some frame

  -- the row of this frame, as it is altered
  abbrev pub IsRow : (ℕ → Frame → Frame) → ℕ → Row → Type 0
  IsRow altered number row = (frame : Frame) × IsFrame number frame
      × (row ≡ record { number = number; frame = altered number frame })

  -- the engine made this number of frames, the first of the run
  pub record HasMade (number : ℕ) (engine : EngineState S G E) : Type 0 where
    pub stands : StandsFor m profile engine (take (number - 3) inputs)
    pub going : number < length inputs + 4 → engine.stopped ≡ false

  -- the copy made the frame of the number that it had reached
  pub record MakesFrame {X : Type 0} (before after : Twin S G E L P) (result : Result Frame X)
      : Type 0 where
    pub frame : IfOk result (IsFrame before.number)
    pub made : OnOk result (HasMade (before.number + 1) after.engine)
    pub keeps : after ≡ record before { engine = after.engine }

  module _ (altered : ℕ → ℕ → Frame → Frame) where
    -- The copy sends to this queue, and sent the first of its rows. Unless it ran out of memory,
    -- its engine has made their frames.
    pub record IsTwin (queue : FrameQueue) (twin : Twin S G E L P) : Type 0 where
      pub sender : IsSenderOf queue twin.sender
      pub number : twin.number ≤ length inputs + 4
      pub sent : sent_of twin.sender
          ≡ rows_from (altered twin.copy) 0 (take twin.number (frames m profile inputs true))
      pub made : twin.failed ≡ false → HasMade twin.number twin.engine
