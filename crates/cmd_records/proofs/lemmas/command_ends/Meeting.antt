-- How a command meets its outcome, by the result of its work.
use Rattle.std.proofs.Common.{◌≡◌, refl, sym, inr}
use Rattle.std.specs.Prelude.{Result, Ok, Err}
use Rattle.det_io.specs.Count.{Rose}
use Rattle.det_io.specs.Sink.{Grew}
use Rattle.det_io.specs.StdSink.{NoBytesKnown}
use Rattle.det_io.specs.Traffic.{ShelfRun, SinkRun, ShelfTraffic, SinkTraffic, failure_in}
use Rattle.det_io.specs.declared.failure.Failure.TheVariants.{Read, Write, OutOfMemory}
use Rattle.det_io.specs.declared.failure.Stopped.{Stopped}
use Rattle.det_io.specs.declared.failure.Stopped.TheVariants.{Refused, Failed}
use Rattle.det_io.proofs.Growth.{part-whole}
use Rattle.cli_answers.specs.declared.answer.Answer.{Answer}
use Rattle.cli_answers.specs.declared.answer.Answer.TheVariants.{ReadFault, WriteFault}
use Rattle.cli_answers.specs.Outcome.{Outcome, Meets}
use Rattle.cli_answers.proofs.AnswerMeets.{meets-read-fault-part, meets-write-fault, meets-no-memory-part}
use Rattle.cmd_records.specs.command_ends.Results.{answer_by, Gives}

-- the outcome's answer was given, and all its bytes taken
meets-given : {wanted : Outcome} {is_known rose : Type 0} {out : SinkRun} {answer : Answer}
    → (answer ≡ ReadFault → ⊥) → (answer ≡ WriteFault → ⊥)
    → (is_known → (wanted.answer ≡ answer) × Grew out.before out.after wanted.bytes) → Meets wanted is_known rose out answer
meets-given {wanted = wanted} {out = out} not_read not_write given = record {
  part = λ t. part-whole out.before out.after wanted.bytes (given t).1;
  whole = λ t. inr (inr (inr (sym (given t).0, (given t).1)));
  read_fault = λ e. absurd (not_read e);
  write_fault = λ e. absurd (not_write e);
}

-- what was printed is the outcome, if the names are known
pub meets-printed : {wanted printed : Outcome} {is_known rose : Type 0} {out : SinkRun} {answer : Answer}
    → (is_known → wanted ≡ printed) → Meets printed (Unit {0}) ⊥ out answer → Meets wanted is_known rose out answer
meets-printed is m = record {
  part = λ t. rw (is t) (m.part tt);
  whole = λ t. rw (is t) (m.whole tt);
  read_fault = λ e. absurd (m.read_fault e);
  write_fault = m.write_fault;
}

-- the run of a sink that discards all bytes
abbrev pub discarded : SinkRun
discarded = record { before = NoBytesKnown; after = NoBytesKnown; faults_before = 0; faults_after = 0 }

-- a refusal isn't answered as a failure is
pub record IsOther (answer : Answer) : Type 0 where
  pub not_read : answer ≡ ReadFault → ⊥
  pub not_write : answer ≡ WriteFault → ⊥

module _ {T E : Type 0} (refused : E → Answer) (others : (why : E) → IsOther (refused why)) (wanted : Outcome) (is_known : Type 0)
    (shelf : ShelfRun) (out : SinkRun) where
  pub gives-meets : (result : Result T (Stopped E)) → (is_known → Gives refused result wanted out)
      → ShelfTraffic shelf (failure_in result) → SinkTraffic out (failure_in result)
      → Meets wanted is_known (Rose shelf.first.faults shelf.last.faults) out (answer_by refused result)
  gives-meets (Ok value) given reads writes = meets-given (λ e. cc) (λ e. cc) given
  gives-meets (Err (Refused why)) given reads writes = meets-given (others why).not_read (others why).not_write given
  gives-meets (Err (Failed Read)) given reads writes = meets-read-fault-part _ _ _ out given (reads.cause refl)
  gives-meets (Err (Failed Write)) given reads writes = meets-write-fault _ _ _ out given (writes.cause refl)
  gives-meets (Err (Failed OutOfMemory)) given reads writes = meets-no-memory-part _ _ _ out given
