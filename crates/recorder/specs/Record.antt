-- The record of a stimulus: the run of a profile over the blocks of a text, spelled.
use Rattle.std.specs.Prelude.{ℕ, List, length, Bool, true, false}
use Rattle.det_values.specs.Values.{ProfileValue}
use Rattle.job.specs.Meaning.{Meaning}
use Rattle.stimulus.specs.Reading.{Ending, Terminated, BadLine, blocks, ending}
use Rattle.recorder.specs.run_writer.Record.{record_with}

abbrev pub is_terminated : Ending → Bool
is_terminated Terminated = true
is_terminated (BadLine line) = false

-- the record of a text: a run over its complete blocks, ended where the text is a whole stimulus
abbrev pub record_of : {S G E L P : Type 0} → Meaning S G E L P → ProfileValue → List ℕ → List ℕ
record_of m profile text =
    record_with m profile (blocks (length profile.events) text)
    (is_terminated (ending (length profile.events) text))
