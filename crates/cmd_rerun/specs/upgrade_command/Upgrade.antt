-- What `upgrade` gives for the bytes of a record: the record of the same run in format 2.
use Rattle.std.specs.Prelude.{ℕ, List, is_none, if◌then◌else◌, Result, Ok, Err}
use Rattle.det_values.specs.Values.{ProfileValue}
use Rattle.det_io.specs.declared.failure.Stopped.{Stopped}
use Rattle.job.specs.Meaning.{Meaning}
use Rattle.record_grammar.specs.declared.record_fault.RecordFault.{RecordFault}
use Rattle.record_grammar.specs.Record.{fault as fault_in}
use Rattle.copies.specs.declared.check_verdict.CheckVerdict.{CheckVerdict}
use Rattle.copies.specs.declared.check_verdict.CheckVerdict.TheVariants.{Genuine, Departs}
use Rattle.rerun.specs.checker.Departure.{departure}
use Rattle.rerun.specs.upgrader.UpgradedRecord.{upgraded}
use Rattle.cli_answers.specs.declared.answer.Answer.{Answer}
use Rattle.cli_answers.specs.declared.answer.Answer.TheVariants.{Done, Differs}
use Rattle.cli_answers.specs.Answers.{by_fault, stopped}
use Rattle.cli_answers.specs.Outcome.{Outcome, refusal}
use Rattle.run_setup.specs.recorded_run.Run.{run_of, over_run, refused}

-- the record of the same run in format 2, and why it isn't whole; a departure comes before a fault
abbrev pub upgraded_with : {S G E L P : Type 0} → Meaning S G E L P → ProfileValue → List ℕ
    → Outcome
upgraded_with m profile record_bytes = record {
  answer = if is_none (departure m profile record_bytes) then by_fault (fault_in record_bytes)
      else Differs;
  bytes = upgraded m profile record_bytes;
}

-- the same with the run that the header of the record names, or why it names none
abbrev pub upgrade_outcome : List ℕ → Outcome
upgrade_outcome record_bytes =
    over_run (λ S G E L P m profile. upgraded_with m profile record_bytes)
    (λ why. refusal (refused why)) (run_of record_bytes)

-- the answer of the command for the result of an upgrade
abbrev pub upgrade_answer : Result CheckVerdict (Stopped RecordFault) → Answer
upgrade_answer (Ok (Genuine cycles)) = Done
upgrade_answer (Ok (Departs at)) = Differs
upgrade_answer (Err stop) = stopped stop
