-- A record that was run again meets the outcome of its bytes.
use Rattle.std.proofs.Common.{◌≡◌, ℕ, List, [], ◌∷◌, ◌++◌, true, refl, sym, ap, inr}
use Rattle.std.specs.Prelude.{Some, Result, Ok, Err}
use Rattle.det_values.specs.Values.{ProfileValue}
use Rattle.det_io.specs.Count.{Rose}
use Rattle.det_io.specs.Sink.{GrewByPrefix}
use Rattle.det_io.specs.Traffic.{ShelfRun, SinkRun, ShelfTraffic, SinkTraffic, failure_in}
use Rattle.det_io.specs.declared.failure.Stopped.{Stopped}
use Rattle.det_io.specs.declared.failure.Stopped.TheVariants.{Refused, Failed}
use Rattle.job.specs.Meaning.{Meaning}
use Rattle.record_grammar.specs.declared.record_fault.RecordFault.{RecordFault}
use Rattle.record_grammar.specs.declared.item.Item.TheVariants.{Header}
use Rattle.record_reader.specs.declared.frame_reader.FrameReader.{FrameReader}
use Rattle.record_reader.specs.Frames.{StandsFor, slot_of}
use Rattle.recorder.specs.declared.run_writer.counts.Counts.{Counts}
use Rattle.rerun.specs.replayer.ReplayRecord.{replay_record}
use Rattle.rerun.specs.replayer.ReplayEnds.{Finishes, Stops}
use Rattle.rerun.specs.replayer.ReplayRun.{IsReplayed}
use Rattle.cli_answers.specs.declared.answer.Answer.{Answer}
use Rattle.cli_answers.specs.Ends.{can_end, reruns_records}
use Rattle.cli_answers.specs.Outcome.{Meets}
use Rattle.cli_answers.specs.Answers.{by_fault}
use Rattle.cmd_rerun.specs.replay_command.Replay.{replayed_with, replay_answer}
use Rattle.cmd_rerun.specs.Rest.{IsRerun}
use Rattle.cmd_rerun.proofs.RestMeets.{at-told, meets-failed}

module _ {S G E L P : Type 0} (m : Meaning S G E L P) (profile : ProfileValue) (read rest : List ℕ) (slot : ℕ) (shelf : ShelfRun)
    (out : SinkRun) where
  abbrev is_known : Type 0
  is_known = shelf.first.left slot ≡ Some rest

  abbrev rose : Type 0
  rose = Rose shelf.first.faults shelf.last.faults

  part : (result : Result Counts (Stopped RecordFault)) → IsReplayed m profile read slot shelf out result → is_known
      → GrewByPrefix out.before out.after (replay_record m profile (read ++ rest))
  part result r told =
      let Part : List ℕ → Type 0 = λ more. GrewByPrefix out.before out.after (replay_record m profile (read ++ more)) in
      at-told (shelf.first.left slot) rest Part told r.part

  finished : (counts : Counts) → IsReplayed m profile read slot shelf out (Ok counts) → is_known
      → Finishes m profile (read ++ rest) counts out
  finished counts r told =
      let P : List ℕ → Type 0 = λ more. Finishes m profile (read ++ more) counts out in
      at-told (shelf.first.left slot) rest P told r.ok

  stopped : (fault : RecordFault) → IsReplayed m profile read slot shelf out (Err (Refused fault)) → is_known
      → Stops m profile (read ++ rest) fault out
  stopped fault r told =
      let Is : RecordFault → Type 0 = λ other. ◌≡◌ {A = Result Counts (Stopped RecordFault)} (Err (Refused fault)) (Err (Refused other)) in
      let P : List ℕ → Type 0 = λ more. (other : RecordFault) → Is other → Stops m profile (read ++ more) other out in
      at-told (shelf.first.left slot) rest P told r.refused fault refl

  -- by its end
  met-replayed : (result : Result Counts (Stopped RecordFault)) → IsReplayed m profile read slot shelf out result
      → ShelfTraffic shelf (failure_in result) → SinkTraffic out (failure_in result)
      → Meets (replayed_with m profile (read ++ rest)) is_known rose out (replay_answer result)
  met-replayed (Ok counts) r reads writes = record {
    part = part (Ok counts) r;
    whole = λ t. inr (inr (inr (ap by_fault (sym (finished counts r t).whole), (finished counts r t).grew)));
    read_fault = λ e. cc;
    write_fault = λ e. cc;
  }
  met-replayed (Err (Refused fault)) r reads writes = record {
    part = part (Err (Refused fault)) r;
    whole = λ t. inr (inr (inr (ap by_fault (sym (stopped fault r t).has), (stopped fault r t).grew)));
    read_fault = λ e. cc;
    write_fault = λ e. cc;
  }
  met-replayed (Err (Failed failure)) r reads writes =
      meets-failed (replayed_with m profile (read ++ rest)) is_known rose out failure
      (part (Err (Failed failure)) r) reads.cause writes.cause

-- the answer of a replay meets the outcome
pub rerun-replayed : {S G E L P : Type 0} (m : Meaning S G E L P) (profile : ProfileValue) (frames : FrameReader) (shelf : ShelfRun)
    (out : SinkRun) (result : Result Counts (Stopped RecordFault)) (answer : Answer)
    → ((read : List ℕ) → StandsFor frames read (Header profile ∷ []) → IsReplayed m profile read (slot_of frames) shelf out result)
    → ShelfTraffic shelf (failure_in result) → SinkTraffic out (failure_in result)
    → answer ≡ replay_answer result → can_end reruns_records answer ≡ true → IsRerun (replayed_with m profile) reruns_records profile frames shelf out answer
rerun-replayed m profile frames shelf out result answer replayed reads writes is ends = record {
  meets = λ read rest stands.
      rw is (met-replayed m profile read rest (slot_of frames) shelf out result (replayed read stands) reads writes);
  ends = ends;
  reads = λ read stands. let run = (replayed read stands).run in (run.0, run.1.answers.reads);
}
