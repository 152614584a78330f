-- How `replay_run` ends: what its result says of the record and of what the sink took.
use Rattle.std.specs.Prelude.{◌≡◌, ℕ, List, ◌++◌, false, Some, None, Result, Ok, Err}
use Rattle.det_values.specs.Values.{ProfileValue}
use Rattle.det_io.specs.Shelf.{IsAtEnd}
use Rattle.det_io.specs.Sink.{Grew, GrewByPrefix, GrewShort}
use Rattle.det_io.specs.Traffic.{ShelfRun, SinkRun}
use Rattle.det_io.specs.declared.failure.Failure.{Failure}
use Rattle.det_io.specs.declared.failure.Failure.TheVariants.{Read, Write, OutOfMemory}
use Rattle.det_io.specs.declared.failure.Stopped.{Stopped}
use Rattle.det_io.specs.declared.failure.Stopped.TheVariants.{Refused, Failed}
use Rattle.job.specs.Meaning.{Meaning}
use Rattle.cycle_engine.specs.Frames.{runs}
use Rattle.record_grammar.specs.declared.record_fault.RecordFault.{RecordFault}
use Rattle.record_grammar.specs.Record.{items as items_in, fault as fault_in, fault_so_far}
use Rattle.record_reader.specs.item_reader.Needed.{ReadsWhile}
use Rattle.record_reader.specs.item_reader.StandsFor.{FoundFault}
use Rattle.record_reader.specs.ItemTaker.{OfSlot}
use Rattle.recorder.specs.declared.run_writer.counts.Counts.{Counts}
use Rattle.recorder.specs.run_writer.Record.{Counted, record_with}
use Rattle.rerun.specs.replayer.ReplayRecord.{inputs, replay_record}

-- a sink took the first of these bytes before a failure, and not all of them if a write failed
abbrev pub PartTaken : Failure → SinkRun → List ℕ → Type 0
PartTaken Write out bytes = GrewShort out.before out.after bytes
PartTaken failure out bytes = GrewByPrefix out.before out.after bytes

module _ {S G E L P : Type 0} (m : Meaning S G E L P) (profile : ProfileValue) where
  -- the record is whole, and all that its inputs give was taken
  pub record Finishes (record_bytes : List ℕ) (counts : Counts) (out : SinkRun) : Type 0 where
    pub whole : fault_in record_bytes ≡ None
    pub grew : Grew out.before out.after (replay_record m profile record_bytes)
    pub counted : Counted counts (runs m profile (inputs record_bytes))
        (replay_record m profile record_bytes)

  -- the record has this fault, and all that its inputs give was taken
  pub record Stops (record_bytes : List ℕ) (fault : RecordFault) (out : SinkRun) : Type 0 where
    pub has : fault_in record_bytes ≡ Some fault
    pub grew : Grew out.before out.after (replay_record m profile record_bytes)

  -- what a result says of a record and of what the sink took
  abbrev pub Answers : Result Counts (Stopped RecordFault) → List ℕ → SinkRun → Type 0
  Answers (Ok counts) record_bytes out = Finishes record_bytes counts out
  Answers (Err (Refused fault)) record_bytes out = Stops record_bytes fault out
  Answers (Err (Failed failure)) record_bytes out =
      PartTaken failure out (replay_record m profile record_bytes)

  -- How far a record was read: to its end, or as far as its fault shows. And what was written where
  -- a read failed.
  abbrev pub ReadsTo : Result Counts (Stopped RecordFault) → List ℕ → Type 0 → SinkRun → Type 0
  ReadsTo (Ok counts) read at_end out = at_end
  ReadsTo (Err (Refused fault)) read at_end out = FoundFault fault at_end read (items_in read)
  ReadsTo (Err (Failed Read)) read at_end out = (fault_so_far read ≡ None)
      × Grew out.before out.after (record_with m profile (inputs read) false)
  ReadsTo (Err (Failed Write)) read at_end out = Unit {0}
  ReadsTo (Err (Failed OutOfMemory)) read at_end out = Unit {0}

  -- The result where some bytes were read before the call and these bytes by it. It holds of every
  -- record that begins with them. At the end of the record it holds only of the bytes themselves.
  pub record Ended (result : Result Counts (Stopped RecordFault)) (before more : List ℕ)
      (shelf : ShelfRun) (slot : ℕ) (out : SinkRun) : Type 0 where
    pub reads_to : ReadsTo result (before ++ more) (IsAtEnd shelf.last slot) out
    pub needed : ReadsWhile (λ first. fault_so_far (before ++ first) ≡ None) more
    pub answers : OfSlot shelf slot more (λ bytes. Answers result (before ++ bytes) out)
