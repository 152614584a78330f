-- What `replay_run` ensures of a record and of what the sink took.
use Rattle.std.specs.Prelude.{◌≡◌, ℕ, List, ◌++◌, Result, Err, IfSome, IfOk}
use Rattle.det_values.specs.Values.{ProfileValue}
use Rattle.det_io.specs.Sink.{GrewByPrefix}
use Rattle.det_io.specs.Traffic.{ShelfRun, SinkRun}
use Rattle.det_io.specs.declared.failure.Stopped.{Stopped}
use Rattle.det_io.specs.declared.failure.Stopped.TheVariants.{Refused}
use Rattle.job.specs.Meaning.{Meaning}
use Rattle.record_grammar.specs.declared.record_fault.RecordFault.{RecordFault}
use Rattle.recorder.specs.declared.run_writer.counts.Counts.{Counts}
use Rattle.rerun.specs.replayer.ReplayRecord.{replay_record}
use Rattle.rerun.specs.replayer.ReplayEnds.{Finishes, Stops, Ended}

-- of a record that begins with the bytes that were read before the call
pub record IsReplayed {S G E L P : Type 0} (m : Meaning S G E L P) (profile : ProfileValue)
    (before : List ℕ) (slot : ℕ) (shelf : ShelfRun) (out : SinkRun)
    (result : Result Counts (Stopped RecordFault)) : Type 0 where
  -- where the rest of the record is known: it was replayed whole, or up to its fault, or in part
  pub ok : IfSome (shelf.first.left slot) (λ rest. IfOk result (λ counts.
      Finishes m profile (before ++ rest) counts out))
  pub refused : IfSome (shelf.first.left slot) (λ rest. (fault : RecordFault)
      → result ≡ Err (Refused fault) → Stops m profile (before ++ rest) fault out)
  pub part : IfSome (shelf.first.left slot) (λ rest.
      GrewByPrefix out.before out.after (replay_record m profile (before ++ rest)))
  -- by the bytes that were read, also where the rest is unknown
  pub run : (more : List ℕ) × Ended m profile result before more shelf slot out
