-- How `upgrade_run` ends: what its result says of the record and of what the sink took.
use Rattle.std.specs.Prelude.{◌≡◌, ◌⊎◌, ℕ, List, ◌++◌, false, Some, None, Result, Ok, Err, IfSome}
use Rattle.det_values.specs.Values.{ProfileValue}
use Rattle.det_io.specs.Shelf.{IsAtEnd}
use Rattle.det_io.specs.Sink.{Grew}
use Rattle.det_io.specs.Traffic.{ShelfRun, SinkRun}
use Rattle.det_io.specs.declared.failure.Failure.TheVariants.{Read, Write, OutOfMemory}
use Rattle.det_io.specs.declared.failure.Stopped.{Stopped}
use Rattle.det_io.specs.declared.failure.Stopped.TheVariants.{Refused, Failed}
use Rattle.job.specs.Meaning.{Meaning}
use Rattle.record_grammar.specs.declared.record_fault.RecordFault.{RecordFault}
use Rattle.record_grammar.specs.Record.{fault_so_far}
use Rattle.record_reader.specs.ItemTaker.{OfSlot}
use Rattle.copies.specs.declared.check_verdict.CheckVerdict.{CheckVerdict}
use Rattle.copies.specs.declared.check_verdict.CheckVerdict.TheVariants.{Genuine, Departs}
use Rattle.rerun.specs.replayer.ReplayEnds.{PartTaken}
use Rattle.rerun.specs.checker.Departure.{departure}
use Rattle.rerun.specs.checker.Needed.{IsNeeded}
use Rattle.rerun.specs.checker.CheckVerdict.{check_verdict}
use Rattle.rerun.specs.upgrader.UpgradedRecord.{upgraded_with, upgraded}

module _ {S G E L P : Type 0} (m : Meaning S G E L P) (profile : ProfileValue) where
  -- what a result says of a record with this header, and of what the sink took
  abbrev pub Answers : Result CheckVerdict (Stopped RecordFault) → List ℕ → SinkRun → Type 0
  Answers (Ok verdict) record_bytes out = (check_verdict m profile record_bytes ≡ Ok verdict)
      × Grew out.before out.after (upgraded m profile record_bytes)
  Answers (Err (Refused fault)) record_bytes out =
      (check_verdict m profile record_bytes ≡ Err fault)
      × Grew out.before out.after (upgraded m profile record_bytes)
  Answers (Err (Failed failure)) record_bytes out =
      PartTaken failure out (upgraded m profile record_bytes)

  -- How far a record was read: to its end, as far as a departure, or as far as its fault shows. And
  -- what was written where a read failed.
  abbrev pub ReadsTo : Result CheckVerdict (Stopped RecordFault) → List ℕ → Type 0 → SinkRun
      → Type 0
  ReadsTo (Ok (Genuine cycles)) read at_end out = at_end
  ReadsTo (Ok (Departs at)) read at_end out = departure m profile read ≡ Some at
  ReadsTo (Err (Refused fault)) read at_end out = ((rest : List ℕ)
      → check_verdict m profile (read ++ rest) ≡ Err fault) ⊎ at_end
  ReadsTo (Err (Failed Read)) read at_end out = (fault_so_far read ≡ None)
      × (departure m profile read ≡ None)
      × Grew out.before out.after (upgraded_with m profile read false)
  ReadsTo (Err (Failed Write)) read at_end out = Unit {0}
  ReadsTo (Err (Failed OutOfMemory)) read at_end out = Unit {0}

  -- The result where some bytes were read before the call and these bytes by it. It holds of every
  -- record that begins with them. At the end of the record it holds only of the bytes themselves.
  pub record Ended (result : Result CheckVerdict (Stopped RecordFault)) (before more : List ℕ)
      (shelf : ShelfRun) (slot : ℕ) (out : SinkRun) : Type 0 where
    pub reads_to : ReadsTo result (before ++ more) (IsAtEnd shelf.last slot) out
    pub needed : IsNeeded m profile before more
    pub answers : OfSlot shelf slot more (λ bytes. Answers result (before ++ bytes) out)

  -- of a record that begins with the bytes that were read before the call
  pub record IsUpgraded (before : List ℕ) (slot : ℕ) (shelf : ShelfRun) (out : SinkRun)
      (result : Result CheckVerdict (Stopped RecordFault)) : Type 0 where
    -- where the rest of the record is known
    pub told : IfSome (shelf.first.left slot) (λ rest. Answers result (before ++ rest) out)
    -- by the bytes that were read, also where the rest is unknown
    pub run : (more : List ℕ) × Ended result before more shelf slot out
