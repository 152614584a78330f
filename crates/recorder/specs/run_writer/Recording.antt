-- How far a recording is in its run, and what its calls write.
use Rattle.std.specs.Prelude.{◌≡◌, ℕ, ◌+◌, List, [], ◌∷◌, ◌++◌, length, false}
use Rattle.det_io.specs.Sink.{Grew, GrewShort, Same}
use Rattle.det_io.specs.declared.failure.Failure.{Failure}
use Rattle.det_io.specs.declared.failure.Failure.TheVariants.{Read, Write, OutOfMemory}
use Rattle.det_values.specs.Values.{ProfileValue}
use Rattle.det_values.specs.declared.frames.CycleInput.{CycleInput}
use Rattle.det_values.specs.declared.frames.RunFrame.{RunFrame}
use Rattle.det_values.specs.declared.frames.Frame.TheVariants.{Run}
use Rattle.job.specs.Meaning.{Meaning}
use Rattle.cycle_engine.specs.Engine.{StandsFor as EngineStands}
use Rattle.cycle_engine.specs.Frames.{frame_of, state_of, runs}
use Rattle.record_grammar.specs.Spelling.{spelled_frame}
use Rattle.recorder.specs.declared.run_writer.counts.Counts.{Counts}
use Rattle.recorder.specs.declared.run_writer.recording.Recording.{Recording}
use Rattle.recorder.specs.run_writer.Record.{counted, Counted, record_with}

-- The writing of these bytes was cut off: by a write that failed before their end, or before the
-- first byte.
abbrev pub Cuts : Failure → (List ℕ → Type 0) → (List ℕ → Type 0) → List ℕ → Type 0
Cuts Read before after bytes = ⊥
Cuts Write before after bytes = GrewShort before after bytes
Cuts OutOfMemory before after bytes = Same before after

-- the counts after these bytes were written
abbrev pub counts_after : Counts → List ℕ → Counts
counts_after counts bytes = record counts { bytes = counted (counts.bytes + length bytes) }

module _ {S G E L P : Type 0} where
  -- the engine, the profile and the counts stay
  pub record Keeps (old new : Recording S G E L P) : Type 0 where
    pub engine : new.engine ≡ old.engine
    pub profile : new.profile ≡ old.profile
    pub counts : new.counts ≡ old.counts

  module _ (m : Meaning S G E L P) where
    -- its run has had no cycle, and nothing was written of it
    pub record IsNew (recording : Recording S G E L P) : Type 0 where
      pub engine : EngineStands m recording.profile recording.engine []
      pub going : recording.engine.stopped ≡ false
      pub counts : recording.counts ≡ record { cycles = 0; refused = 0; bytes = 0 }

    -- its engine has run these inputs, and the record of their run was written except for its end
    pub record IsRecordingAfter (recording : Recording S G E L P)
        (given : List CycleInput) : Type 0 where
      pub engine : EngineStands m recording.profile recording.engine given
      pub going : recording.engine.stopped ≡ false
      pub counts : Counted recording.counts (runs m recording.profile given)
          (record_with m recording.profile given false)

    -- after these inputs the next one was run, and its frame was written
    pub record Ran (profile : ProfileValue) (given : List CycleInput) (input : CycleInput)
        (recording : Recording S G E L P) (frame : RunFrame) (before after : List ℕ → Type 0)
        : Type 0 where
      pub stands : IsRecordingAfter recording (given ++ input ∷ [])
      pub run : frame ≡ frame_of m profile given (state_of m profile given) input
      pub took : Grew before after (spelled_frame profile.format (Run frame))
