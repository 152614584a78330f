-- What `check` gives for the bytes of a record: whether it is what its inputs give, and what an
-- audience reports of the runs that were compared.
use Rattle.std.specs.Prelude.{ℕ, List, [], ◌++◌, Result, Ok, Err}
use Rattle.det_io.specs.Prefix.{IsPrefix}
use Rattle.det_values.specs.Values.{ProfileValue}
use Rattle.det_values.specs.declared.frames.RunFrame.{RunFrame}
use Rattle.job.specs.Meaning.{Meaning}
use Rattle.record_grammar.specs.declared.record_fault.RecordFault.{RecordFault}
use Rattle.probes.specs.Reports.{AudienceState, reported}
use Rattle.probes.specs.Shows.{SawRuns}
use Rattle.copies.specs.declared.check_verdict.CheckVerdict.{CheckVerdict}
use Rattle.copies.specs.declared.check_verdict.CheckVerdict.TheVariants.{Genuine, Departs}
use Rattle.rerun.specs.checker.Departure.{checked_runs}
use Rattle.rerun.specs.checker.CheckVerdict.{check_verdict}
use Rattle.copies.specs.verdict_text.Verdicts.{check_line}
use Rattle.cli_answers.specs.declared.answer.Answer.{Answer}
use Rattle.cli_answers.specs.declared.answer.Answer.TheVariants.{Done, Differs, BadRecord}
use Rattle.cli_answers.specs.Outcome.{Outcome, refusal}
use Rattle.run_setup.specs.recorded_run.Run.{run_of, over_run, refused}

abbrev pub answer_to : CheckVerdict → Answer
answer_to (Genuine cycles) = Done
answer_to (Departs at) = Differs

-- the line of a verdict and these reports, or the fault of the record
abbrev pub outcome_by : Result CheckVerdict RecordFault → List ℕ → Outcome
outcome_by (Ok verdict) reports =
    record { answer = answer_to verdict; bytes = check_line verdict ++ reports }
outcome_by (Err fault) reports = refusal (BadRecord 0 fault)

-- the verdict on a record with this header, and what an audience reports of the runs checked
abbrev pub checked_with : {S G E L P : Type 0} → Meaning S G E L P → ProfileValue
    → AudienceState → List ℕ → Outcome
checked_with m profile audience record_bytes =
    outcome_by (check_verdict m profile record_bytes)
    (reported audience (checked_runs m profile record_bytes))

-- the same with the run that the header of the record names, or why it names none
abbrev pub check_outcome : AudienceState → List ℕ → Outcome
check_outcome audience record_bytes =
    over_run (λ S G E L P m profile. checked_with m profile audience record_bytes)
    (λ why. refusal (refused why)) (run_of record_bytes)

-- ---- the audience

-- the runs of a record that are checked: none if its header names no run
abbrev pub runs_checked : List ℕ → List RunFrame
runs_checked record_bytes = over_run (λ S G E L P m profile. checked_runs m profile record_bytes)
    (λ why. []) (run_of record_bytes)

-- the audience has seen the first of these runs
pub record SawFirst (old now : AudienceState) (runs : List RunFrame) : Type 0 where
  pub seen : List RunFrame
  pub first : IsPrefix seen runs
  pub saw : SawRuns old now seen
