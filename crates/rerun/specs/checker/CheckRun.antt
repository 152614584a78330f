-- What `check_run` ensures of a record's bytes, and of what an audience has seen.
use Rattle.std.specs.Prelude.{◌≡◌, ◌⊎◌, ℕ, List, ◌++◌, Some, None, Result, Ok, Err, IfSome}
use Rattle.det_values.specs.Values.{ProfileValue}
use Rattle.det_values.specs.declared.frames.RunFrame.{RunFrame}
use Rattle.det_io.specs.Prefix.{IsPrefix}
use Rattle.det_io.specs.Shelf.{IsAtEnd}
use Rattle.det_io.specs.Traffic.{ShelfRun}
use Rattle.det_io.specs.declared.failure.Failure.TheVariants.{Read, Write, OutOfMemory}
use Rattle.det_io.specs.declared.failure.Stopped.{Stopped}
use Rattle.det_io.specs.declared.failure.Stopped.TheVariants.{Refused, Failed}
use Rattle.job.specs.Meaning.{Meaning}
use Rattle.record_grammar.specs.declared.record_fault.RecordFault.{RecordFault}
use Rattle.record_grammar.specs.Record.{fault_so_far}
use Rattle.record_reader.specs.ItemTaker.{OfSlot}
use Rattle.probes.specs.Reports.{AudienceState}
use Rattle.probes.specs.Shows.{SawRuns}
use Rattle.copies.specs.declared.check_verdict.CheckVerdict.{CheckVerdict}
use Rattle.copies.specs.declared.check_verdict.CheckVerdict.TheVariants.{Genuine, Departs}
use Rattle.rerun.specs.checker.Departure.{departure, checked_runs}
use Rattle.rerun.specs.checker.Needed.{IsNeeded}
use Rattle.rerun.specs.checker.CheckVerdict.{check_verdict}

module _ {S G E L P : Type 0} (m : Meaning S G E L P) (profile : ProfileValue)
    (old now : AudienceState) where
  -- the audience has seen the first of the runs that are checked
  pub record SawFirst (record_bytes : List ℕ) : Type 0 where
    pub seen : List RunFrame
    pub first : IsPrefix seen (checked_runs m profile record_bytes)
    pub saw : SawRuns old now seen

  -- what a result says of a record
  abbrev pub Answers : Result CheckVerdict (Stopped RecordFault) → List ℕ → Type 0
  Answers (Ok verdict) record_bytes = (check_verdict m profile record_bytes ≡ Ok verdict)
      × SawRuns old now (checked_runs m profile record_bytes)
  Answers (Err (Refused fault)) record_bytes = (check_verdict m profile record_bytes ≡ Err fault)
      × SawRuns old now (checked_runs m profile record_bytes)
  Answers (Err (Failed Read)) record_bytes = SawFirst record_bytes
  Answers (Err (Failed Write)) record_bytes = ⊥
  Answers (Err (Failed OutOfMemory)) record_bytes = Unit {0}

  -- how far a record was read: to its end, as far as a departure, or as far as its fault shows
  abbrev pub ReadsTo : Result CheckVerdict (Stopped RecordFault) → List ℕ → Type 0 → Type 0
  ReadsTo (Ok (Genuine cycles)) read at_end = at_end
  ReadsTo (Ok (Departs at)) read at_end = departure m profile read ≡ Some at
  ReadsTo (Err (Refused fault)) read at_end = ((rest : List ℕ)
      → check_verdict m profile (read ++ rest) ≡ Err fault) ⊎ at_end
  ReadsTo (Err (Failed Read)) read at_end = (fault_so_far read ≡ None)
      × (departure m profile read ≡ None)
  ReadsTo (Err stop) read at_end = Unit {0}

  -- The result where some bytes were read before the call and these bytes by it. It holds of every
  -- record that begins with them. At the end of the record it holds only of the bytes themselves.
  pub record Ended (result : Result CheckVerdict (Stopped RecordFault)) (before more : List ℕ)
      (shelf : ShelfRun) (slot : ℕ) : Type 0 where
    pub reads_to : ReadsTo result (before ++ more) (IsAtEnd shelf.last slot)
    pub needed : IsNeeded m profile before more
    pub answers : OfSlot shelf slot more (λ bytes. Answers result (before ++ bytes))

  -- of a record that begins with the bytes that were read before the call
  pub record IsChecked (before : List ℕ) (slot : ℕ) (shelf : ShelfRun)
      (result : Result CheckVerdict (Stopped RecordFault)) : Type 0 where
    -- where the rest of the record is known
    pub told : IfSome (shelf.first.left slot) (λ rest. Answers result (before ++ rest))
    -- by the bytes that were read, also where the rest is unknown
    pub run : (more : List ℕ) × Ended result before more shelf slot
