-- How far two clients are in their runs, and what a cycle of both writes.
use Rattle.std.specs.Prelude.{◌≡◌, ◌⊎◌, ℕ, ◌≤◌, List, [], ◌∷◌, ◌++◌, length, Option, Some}
use Rattle.det_values.specs.Values.{ProfileValue}
use Rattle.det_values.specs.declared.frames.CycleInput.{CycleInput}
use Rattle.det_values.specs.declared.frames.RunFrame.{RunFrame}
use Rattle.det_values.specs.declared.frames.Frame.TheVariants.{Run}
use Rattle.det_io.specs.Count.{Rose}
use Rattle.det_io.specs.declared.failure.Failure.{Failure}
use Rattle.det_io.specs.declared.failure.Failure.TheVariants.{Read, Write, OutOfMemory}
use Rattle.job.specs.Meaning.{Meaning}
use Rattle.cycle_engine.specs.Frames.{frame_of, state_of}
use Rattle.record_grammar.specs.Spelling.{spelled_frame}
use Rattle.recorder.specs.declared.run_writer.recording.Recording.{Recording}
use Rattle.recorder.specs.run_writer.Recording.{IsRecordingAfter}
use Rattle.cmd_run.specs.chain.OutputSamples.{chained_input}
use Rattle.cmd_run.specs.chain.SecondClient.{passed_on}
use Rattle.cmd_run.specs.chain.ChainEnds.{Sinks, BothGrew, BothGrewByPrefix}

-- a failure that cuts off a record
abbrev pub IsCut : Failure → Type 0
IsCut Read = ⊥
IsCut Write = Unit {0}
IsCut OutOfMemory = Unit {0}

-- the writing of these bytes was cut off
pub record CutOff (failure : Failure) (sinks : Sinks) (bytes others : List ℕ) : Type 0 where
  pub cause : IsCut failure
  pub grew : BothGrewByPrefix sinks bytes others

-- a write failed only if one of the counts of faults rose; the counts never fall
pub record BothTraffic (sinks : Sinks) (failure : Option Failure) : Type 0 where
  pub cause : failure ≡ Some Write → Rose sinks.first.faults_before sinks.first.faults_after
      ⊎ Rose sinks.second.faults_before sinks.second.faults_after
  pub first : sinks.first.faults_before ≤ sinks.first.faults_after
  pub second : sinks.second.faults_before ≤ sinks.second.faults_after

-- the frame of the cycle after these inputs
abbrev pub next_run : {S G E L P : Type 0} → Meaning S G E L P → ProfileValue → List CycleInput
    → CycleInput → RunFrame
next_run m profile given input = frame_of m profile given (state_of m profile given) input

module _ {S G E L P : Type 0} (m : Meaning S G E L P) {T H F M Q : Type 0} (n : Meaning T H F M Q)
  where
    -- the first client has run these inputs, and the second those that they give it
    pub record AreBothAfter (recording : Recording S G E L P) (other : Recording T H F M Q)
        (given : List CycleInput) : Type 0 where
      pub first : IsRecordingAfter m recording given
      pub second : IsRecordingAfter n other (passed_on m recording.profile n other.profile given)

    module _ (first second : ProfileValue) (given : List CycleInput) (input : CycleInput) where
      -- what the first client's cycle gives the second
      abbrev pub next_input : CycleInput
      next_input = chained_input (length second.events) (next_run m first given input)

      -- the two frames of the cycle after these inputs
      abbrev pub first_frame : List ℕ
      first_frame = spelled_frame first.format (Run (next_run m first given input))

      abbrev pub second_frame : List ℕ
      second_frame = spelled_frame second.format
          (Run (next_run n second (passed_on m first n second given) next_input))

      -- both ran one more cycle and wrote its frame
      pub record Linked (recording : Recording S G E L P) (other : Recording T H F M Q)
          (sinks : Sinks) : Type 0 where
        pub stands : AreBothAfter recording other (given ++ input ∷ [])
        pub grew : BothGrew sinks first_frame second_frame
