-- What follows for the text where the shelf knows it.
use Rattle.std.proofs.Common.{◌≡◌, ℕ, List, ◌++◌, subst}
use Rattle.std.specs.Prelude.{Result, Ok, Err, IfOk}
use Rattle.det_values.specs.Values.{ProfileValue}
use Rattle.det_io.specs.Sink.{GrewByPrefix}
use Rattle.det_io.specs.Traffic.{ShelfRun, SinkRun}
use Rattle.det_io.specs.declared.failure.Failure.TheVariants.{Read, Write, OutOfMemory}
use Rattle.det_io.specs.declared.failure.Stopped.{Stopped}
use Rattle.det_io.specs.declared.failure.Stopped.TheVariants.{Refused, Failed}
use Rattle.det_io.proofs.Growth.{part-whole, short-part}
use Rattle.job.specs.Meaning.{Meaning}
use Rattle.record_grammar.specs.declared.record_fault.RecordFault.{RecordFault}
use Rattle.record_reader.proofs.ItemTaker.{told, of-slot}
use Rattle.recorder.specs.declared.run_writer.counts.Counts.{Counts}
use Rattle.rerun.specs.replayer.ReplayRecord.{replay_record}
use Rattle.rerun.specs.replayer.ReplayEnds.{Finishes, Stops, Answers, Ended}
use Rattle.rerun.specs.replayer.ReplayRun.{IsReplayed}

module _ {S G E L P : Type 0} (m : Meaning S G E L P) (profile : ProfileValue) where
  finished : (result : Result Counts (Stopped RecordFault)) (bytes : List ℕ) (out : SinkRun) → Answers m profile result bytes out
      → IfOk result (λ counts. Finishes m profile bytes counts out)
  finished (Ok counts) bytes out answer = answer
  finished (Err stop) bytes out answer = tt

  stopped : (result : Result Counts (Stopped RecordFault)) (bytes : List ℕ) (out : SinkRun) (fault : RecordFault)
      → result ≡ Err (Refused fault) → Answers m profile result bytes out → Stops m profile bytes fault out
  stopped result bytes out fault is answer =
      let answers : Answers m profile (Err (Refused fault)) bytes out = subst (λ r. Answers m profile r bytes out) is answer in answers

  part : (result : Result Counts (Stopped RecordFault)) (bytes : List ℕ) (out : SinkRun) → Answers m profile result bytes out
      → GrewByPrefix out.before out.after (replay_record m profile bytes)
  part (Ok counts) bytes out answer = part-whole out.before out.after _ answer.grew
  part (Err (Refused fault)) bytes out answer = part-whole out.before out.after _ answer.grew
  part (Err (Failed Read)) bytes out answer = answer
  part (Err (Failed Write)) bytes out answer = short-part out.before out.after _ answer
  part (Err (Failed OutOfMemory)) bytes out answer = answer

  pub replayed : {before : List ℕ} {slot : ℕ} {shelf : ShelfRun} {out : SinkRun} {result : Result Counts (Stopped RecordFault)}
      (more : List ℕ) → Ended m profile result before more shelf slot out → IsReplayed m profile before slot shelf out result
  replayed {before} {slot} {shelf} {out} {result} more ended = record {
    ok = told _ (of-slot (λ bytes. Answers m profile result (before ++ bytes) out)
        (λ rest. IfOk result (λ counts. Finishes m profile (before ++ rest) counts out))
        (λ bytes. finished result (before ++ bytes) out) ended.answers);
    refused = told _ (of-slot (λ bytes. Answers m profile result (before ++ bytes) out)
        (λ rest. (fault : RecordFault) → result ≡ Err (Refused fault) → Stops m profile (before ++ rest) fault out)
        (λ bytes answer fault is. stopped result (before ++ bytes) out fault is answer) ended.answers);
    part = told _ (of-slot (λ bytes. Answers m profile result (before ++ bytes) out)
        (λ rest. GrewByPrefix out.before out.after (replay_record m profile (before ++ rest)))
        (λ bytes. part result (before ++ bytes) out) ended.answers);
    run = (more, ended);
  }
