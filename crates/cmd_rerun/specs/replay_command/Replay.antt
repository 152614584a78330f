-- What `replay` gives for the bytes of a record: the record that its inputs give now.
use Rattle.std.specs.Prelude.{ℕ, List, Result, Ok, Err}
use Rattle.det_values.specs.Values.{ProfileValue}
use Rattle.det_io.specs.declared.failure.Stopped.{Stopped}
use Rattle.job.specs.Meaning.{Meaning}
use Rattle.record_grammar.specs.declared.record_fault.RecordFault.{RecordFault}
use Rattle.record_grammar.specs.Record.{fault as fault_in}
use Rattle.recorder.specs.declared.run_writer.counts.Counts.{Counts}
use Rattle.rerun.specs.replayer.ReplayRecord.{replay_record}
use Rattle.cli_answers.specs.declared.answer.Answer.{Answer}
use Rattle.cli_answers.specs.declared.answer.Answer.TheVariants.{Done}
use Rattle.cli_answers.specs.Answers.{by_fault, stopped}
use Rattle.cli_answers.specs.Outcome.{Outcome, refusal}
use Rattle.run_setup.specs.recorded_run.Run.{run_of, over_run, refused}

-- the record that the inputs of a record give; the answer has the fault of the first record, if
-- there is one
abbrev pub replayed_with : {S G E L P : Type 0} → Meaning S G E L P → ProfileValue → List ℕ
    → Outcome
replayed_with m profile record_bytes = record {
  answer = by_fault (fault_in record_bytes);
  bytes = replay_record m profile record_bytes;
}

-- the same with the run that the header of the record names, or why it names none
abbrev pub replay_outcome : List ℕ → Outcome
replay_outcome record_bytes = over_run (λ S G E L P m profile. replayed_with m profile record_bytes)
    (λ why. refusal (refused why)) (run_of record_bytes)

-- the answer of the command for the result of a replay
abbrev pub replay_answer : Result Counts (Stopped RecordFault) → Answer
replay_answer (Ok counts) = Done
replay_answer (Err stop) = stopped stop
