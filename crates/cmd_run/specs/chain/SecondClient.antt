-- The two records of a chain: of a client over a stimulus, and of a second one over its outputs.
use Rattle.std.specs.Prelude.{ℕ, List, length, Bool}
use Rattle.det_values.specs.Values.{ProfileValue}
use Rattle.det_values.specs.declared.frames.CycleInput.{CycleInput}
use Rattle.job.specs.Meaning.{Meaning}
use Rattle.stimulus.specs.Reading.{blocks, ending}
use Rattle.recorder.specs.run_writer.Record.{record_with}
use Rattle.recorder.specs.Record.{is_terminated}
use Rattle.cmd_run.specs.chain.OutputSamples.{derived}

module _ {S G E L P : Type 0} (m : Meaning S G E L P) (first : ProfileValue)
    {T H F M Q : Type 0} (n : Meaning T H F M Q) (second : ProfileValue) where
  -- the inputs of the second client, if the first one was given these
  abbrev pub passed_on : List CycleInput → List CycleInput
  passed_on inputs = derived m first inputs (length second.events)

  -- the second client's record of these, with Terminate if the run is ended
  abbrev pub second_with : List CycleInput → Bool → List ℕ
  second_with inputs ended = record_with n second (passed_on inputs) ended

  -- the second client's record of a text, which is checked against the events of the first profile
  abbrev pub second_of : List ℕ → List ℕ
  second_of text = second_with (blocks (length first.events) text)
      (is_terminated (ending (length first.events) text))
