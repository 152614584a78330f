-- A record that was upgraded meets the outcome of its bytes.
use Rattle.std.proofs.Common.{◌≡◌, ℕ, List, [], ◌∷◌, ◌++◌, refl, true, sym, ap, ◌∙◌, inr}
use Rattle.std.specs.Prelude.{Option, Some, None, Result, Ok, Err, cond, is_none}
use Rattle.det_values.specs.Values.{ProfileValue}
use Rattle.det_io.specs.Count.{Rose}
use Rattle.det_io.specs.Sink.{GrewByPrefix}
use Rattle.det_io.specs.Traffic.{ShelfRun, SinkRun, failure_in}
use Rattle.det_io.specs.Traffic.{ShelfTraffic, SinkTraffic}
use Rattle.det_io.specs.declared.failure.Failure.TheVariants.{Read, Write, OutOfMemory}
use Rattle.det_io.specs.declared.failure.Stopped.{Stopped}
use Rattle.det_io.specs.declared.failure.Stopped.TheVariants.{Refused, Failed}
use Rattle.det_io.proofs.Growth.{part-whole, short-part}
use Rattle.job.specs.Meaning.{Meaning}
use Rattle.record_grammar.specs.declared.record_fault.RecordFault.{RecordFault}
use Rattle.record_grammar.specs.declared.item.Item.TheVariants.{Header}
use Rattle.record_grammar.specs.Record.{fault as fault_in}
use Rattle.record_reader.specs.declared.frame_reader.FrameReader.{FrameReader}
use Rattle.record_reader.specs.Frames.{StandsFor, slot_of}
use Rattle.copies.specs.declared.difference.Difference.{Difference}
use Rattle.copies.specs.declared.check_verdict.CheckVerdict.{CheckVerdict}
use Rattle.copies.specs.declared.check_verdict.CheckVerdict.TheVariants.{Genuine, Departs}
use Rattle.rerun.specs.checker.Departure.{departure}
use Rattle.rerun.specs.checker.CheckVerdict.{verdict_by, check_verdict}
use Rattle.rerun.specs.upgrader.UpgradedRecord.{upgraded}
use Rattle.rerun.specs.upgrader.UpgradeEnds.{Answers, IsUpgraded}
use Rattle.cli_answers.specs.declared.answer.Answer.{Answer}
use Rattle.cli_answers.specs.declared.answer.Answer.TheVariants.{Differs, ReadFault, WriteFault}
use Rattle.cli_answers.specs.Answers.{by_fault}
use Rattle.cli_answers.specs.Ends.{can_end, compares_runs}
use Rattle.cli_answers.specs.Outcome.{Meets}
use Rattle.cmd_rerun.specs.upgrade_command.Upgrade.{upgraded_with, upgrade_answer}
use Rattle.cmd_rerun.specs.Rest.{IsRerun}
use Rattle.cmd_rerun.proofs.RestMeets.{at-told, meets-failed}

-- ---- the answer for a verdict

-- the end of an upgrade that came to a verdict, or to a fault
abbrev ended_as : Result CheckVerdict RecordFault → Result CheckVerdict (Stopped RecordFault)
ended_as (Ok verdict) = Ok verdict
ended_as (Err fault) = Err (Refused fault)

-- a departure comes before a fault
abbrev answer_by : Option Difference → Option RecordFault → Answer
answer_by at end = cond (is_none at) (by_fault end) Differs

answer-is : (at : Option Difference) (end : Option RecordFault) (cycles : ℕ)
    → upgrade_answer (ended_as (verdict_by at end cycles)) ≡ answer_by at end
answer-is (Some at) end cycles = refl
answer-is None None cycles = refl
answer-is None (Some fault) cycles = refl

-- it is no failure
no-read-fault : (verdict : CheckVerdict) → upgrade_answer (Ok verdict) ≡ ReadFault → ⊥
no-read-fault (Genuine cycles) e = cc
no-read-fault (Departs at) e = cc

no-write-fault : (verdict : CheckVerdict) → upgrade_answer (Ok verdict) ≡ WriteFault → ⊥
no-write-fault (Genuine cycles) e = cc
no-write-fault (Departs at) e = cc

module _ {S G E L P : Type 0} (m : Meaning S G E L P) (profile : ProfileValue) where
  -- the answer for a verdict is that for the departure and the fault
  as-answered : (bytes : List ℕ) (verdict : Result CheckVerdict RecordFault) → check_verdict m profile bytes ≡ verdict
      → upgrade_answer (ended_as verdict) ≡ answer_by (departure m profile bytes) (fault_in bytes)
  as-answered bytes verdict is =
      ap (λ (v : Result CheckVerdict RecordFault). upgrade_answer (ended_as v)) (sym is)
      ∙ answer-is (departure m profile bytes) (fault_in bytes) _

  part-of : (result : Result CheckVerdict (Stopped RecordFault)) (bytes : List ℕ) (out : SinkRun) → Answers m profile result bytes out
      → GrewByPrefix out.before out.after (upgraded m profile bytes)
  part-of (Ok verdict) bytes out answer = part-whole out.before out.after _ answer.1
  part-of (Err (Refused fault)) bytes out answer = part-whole out.before out.after _ answer.1
  part-of (Err (Failed Read)) bytes out answer = answer
  part-of (Err (Failed Write)) bytes out answer = short-part out.before out.after _ answer
  part-of (Err (Failed OutOfMemory)) bytes out answer = answer

  module _ (read rest : List ℕ) (slot : ℕ) (shelf : ShelfRun) (out : SinkRun) where
    abbrev is_known : Type 0
    is_known = shelf.first.left slot ≡ Some rest

    abbrev rose : Type 0
    rose = Rose shelf.first.faults shelf.last.faults

    answered : (result : Result CheckVerdict (Stopped RecordFault)) → IsUpgraded m profile read slot shelf out result → is_known
        → Answers m profile result (read ++ rest) out
    answered result u told = at-told (shelf.first.left slot) rest (λ more. Answers m profile result (read ++ more) out) told u.told

    part : (result : Result CheckVerdict (Stopped RecordFault)) → IsUpgraded m profile read slot shelf out result → is_known
        → GrewByPrefix out.before out.after (upgraded m profile (read ++ rest))
    part result u told = part-of result (read ++ rest) out (answered result u told)

    -- it came to a verdict, or to a fault
    met-verdict : (verdict : Result CheckVerdict RecordFault) → (is_known → Answers m profile (ended_as verdict) (read ++ rest) out)
        → IsUpgraded m profile read slot shelf out (ended_as verdict)
        → Meets (upgraded_with m profile (read ++ rest)) is_known rose out (upgrade_answer (ended_as verdict))
    met-verdict (Ok verdict) each u = record {
      part = part (Ok verdict) u;
      whole = λ t. inr (inr (inr (
        as-answered (read ++ rest) (Ok verdict) (each t).0,
        (each t).1,
      )));
      read_fault = λ e. absurd (no-read-fault verdict e);
      write_fault = λ e. absurd (no-write-fault verdict e);
    }
    met-verdict (Err fault) each u = record {
      part = part (Err (Refused fault)) u;
      whole = λ t. inr (inr (inr (
        as-answered (read ++ rest) (Err fault) (each t).0,
        (each t).1,
      )));
      read_fault = λ e. cc;
      write_fault = λ e. cc;
    }

    -- by its end
    met-upgraded : (result : Result CheckVerdict (Stopped RecordFault)) → IsUpgraded m profile read slot shelf out result
        → ShelfTraffic shelf (failure_in result) → SinkTraffic out (failure_in result)
        → Meets (upgraded_with m profile (read ++ rest)) is_known rose out (upgrade_answer result)
    met-upgraded (Ok verdict) u reads writes = met-verdict (Ok verdict) (answered (Ok verdict) u) u
    met-upgraded (Err (Refused fault)) u reads writes = met-verdict (Err fault) (answered (Err (Refused fault)) u) u
    met-upgraded (Err (Failed failure)) u reads writes =
        meets-failed (upgraded_with m profile (read ++ rest)) is_known rose out failure
        (part (Err (Failed failure)) u) reads.cause writes.cause

-- the answer of an upgrade meets the outcome
pub rerun-upgraded : {S G E L P : Type 0} (m : Meaning S G E L P) (header : ProfileValue) (frames : FrameReader) (shelf : ShelfRun)
    (out : SinkRun) (result : Result CheckVerdict (Stopped RecordFault)) (answer : Answer)
    → ((read : List ℕ) → StandsFor frames read (Header header ∷ []) → IsUpgraded m header read (slot_of frames) shelf out result)
    → ShelfTraffic shelf (failure_in result) → SinkTraffic out (failure_in result)
    → answer ≡ upgrade_answer result → can_end compares_runs answer ≡ true → IsRerun (upgraded_with m header) compares_runs header frames shelf out answer
rerun-upgraded m header frames shelf out result answer upgraded reads writes is ends = record {
  meets = λ read rest stands.
      rw is (met-upgraded m header read rest (slot_of frames) shelf out result (upgraded read stands) reads writes);
  ends = ends;
  reads = λ read stands. let run = (upgraded read stands).run in (run.0, run.1.answers.reads);
}
