-- What an upgrade does with one frame of a record.
use Rattle.std.specs.Prelude.{◌≡◌, ℕ, ◌+◌, List, [], ◌++◌, length, Option, Some, None}
use Rattle.std.specs.Prelude.{Result, Ok, Err}
use Rattle.det_values.specs.declared.frames.CycleInput.{CycleInput}
use Rattle.det_values.specs.declared.frames.Frame.{Frame}
use Rattle.det_values.specs.declared.frames.Frame.TheVariants.{Terminate}
use Rattle.det_io.specs.Sink.{Grew, GrewShort, Same}
use Rattle.det_io.specs.Traffic.{SinkRun}
use Rattle.det_io.specs.declared.failure.Failure.{Failure}
use Rattle.det_io.specs.declared.failure.Failure.TheVariants.{Read, Write, OutOfMemory}
use Rattle.job.specs.Meaning.{Meaning}
use Rattle.copies.specs.declared.difference.Difference.{Difference}
use Rattle.recorder.specs.declared.run_writer.recording.Recording.{Recording}
use Rattle.rerun.specs.checker.RerunFrames.{IsEngineAfter, input_of}
use Rattle.rerun.specs.declared.upgrader.upgrade.Upgrade.{Upgrade}

-- what is written in the place of a frame: nothing yet for Terminate
abbrev pub unless_last : Frame → List ℕ → List ℕ
unless_last Terminate bytes = []
unless_last frame bytes = bytes

-- one more frame was compared
pub record Counted (frame : Frame) (old new : Upgrade) : Type 0 where
  pub compared : new.compared ≡ old.compared + 1
  pub cycles : new.cycles ≡ old.cycles + length (input_of frame)

-- the run goes on after this frame, and one more frame was compared
pub record GoesOn {S G E L P : Type 0} (m : Meaning S G E L P) (given : List CycleInput)
    (frame : Frame) (recording : Recording S G E L P) (old new : Upgrade) : Type 0 where
  pub behind : IsEngineAfter m recording (given ++ input_of frame)
  pub counted : Counted frame old new

-- what a result says of a frame with this difference, for which these bytes are written; without a
-- difference the run goes on
abbrev pub Takes : Result (Option Difference) Failure → Option Difference → List ℕ → Type 0
    → SinkRun → Type 0
Takes (Ok None) difference bytes goes_on out =
    (difference ≡ None) × Grew out.before out.after bytes × goes_on
Takes (Ok (Some at)) difference bytes goes_on out =
    (difference ≡ Some at) × Same out.before out.after
Takes (Err Read) difference bytes goes_on out = ⊥
Takes (Err Write) difference bytes goes_on out =
    (difference ≡ None) × GrewShort out.before out.after bytes
Takes (Err OutOfMemory) difference bytes goes_on out = Same out.before out.after
