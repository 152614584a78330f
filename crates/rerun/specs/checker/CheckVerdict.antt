-- The verdict on a record, by running its inputs again.
use Rattle.std.specs.Prelude.{ℕ, List, length, Option, Some, None, Result, Ok, Err}
use Rattle.det_values.specs.Values.{ProfileValue}
use Rattle.job.specs.Meaning.{Meaning}
use Rattle.record_grammar.specs.declared.record_fault.RecordFault.{RecordFault}
use Rattle.record_grammar.specs.Record.{fault as fault_in}
use Rattle.copies.specs.declared.difference.Difference.{Difference}
use Rattle.rerun.specs.replayer.ReplayRecord.{inputs}
use Rattle.copies.specs.declared.check_verdict.CheckVerdict.{CheckVerdict}
use Rattle.copies.specs.declared.check_verdict.CheckVerdict.TheVariants.{Genuine, Departs}
use Rattle.rerun.specs.checker.Departure.{departure}

-- A departure comes before a fault. Without either the record is genuine.
abbrev pub verdict_by : Option Difference → Option RecordFault → ℕ → Result CheckVerdict RecordFault
verdict_by (Some at) end cycles = Ok (Departs at)
verdict_by None None cycles = Ok (Genuine cycles)
verdict_by None (Some fault) cycles = Err fault

-- the verdict on a record with this header, or its fault
abbrev pub check_verdict : {S G E L P : Type 0} → Meaning S G E L P → ProfileValue → List ℕ
    → Result CheckVerdict RecordFault
check_verdict m profile record_bytes = verdict_by (departure m profile record_bytes)
    (fault_in record_bytes) (length (inputs record_bytes))
