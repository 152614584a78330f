-- How a command meets its outcome by what a call beneath it did.
use Rattle.std.proofs.Common.{◌≡◌, sym, subst, inr}
use Rattle.det_io.specs.Sink.{Grew, Same}
use Rattle.det_io.specs.Traffic.{SinkRun}
use Rattle.det_io.proofs.Growth.{part-whole, part-none, same-none}
use Rattle.cli_answers.specs.declared.answer.Answer.{Answer}
use Rattle.cli_answers.specs.declared.answer.Answer.TheVariants.{ReadFault, WriteFault, OutOfMemory}
use Rattle.cli_answers.specs.Outcome.{Outcome, Meets}
use Rattle.cli_answers.proofs.AnswerMeets.{meets-no-memory-part}

-- a run meets any outcome that is the same where the bytes of the names are known
pub meets-as : (wanted other : Outcome) (is_known tells2 rose rose2 : Type 0) (out : SinkRun) (answer : Answer)
    → (tells2 → is_known) → (tells2 → other ≡ wanted) → (rose → rose2)
    → Meets wanted is_known rose out answer → Meets other tells2 rose2 out answer
meets-as wanted other is_known tells2 rose rose2 out answer t same r m = record {
  part = λ x. rw (same x) (m.part (t x));
  whole = λ x. rw (same x) (m.whole (t x));
  read_fault = λ e. r (m.read_fault e);
  write_fault = m.write_fault;
}

-- where the bytes of the names are known, the answer is the outcome's and all its bytes were written
pub meets-known : (wanted : Outcome) (is_known rose : Type 0) (out : SinkRun) (answer : Answer)
    → (answer ≡ ReadFault → ⊥) → (answer ≡ WriteFault → ⊥)
    → (is_known → (answer ≡ wanted.answer) × Grew out.before out.after wanted.bytes)
    → Meets wanted is_known rose out answer
meets-known wanted is_known rose out answer not_read not_write done = record {
  part = λ t. part-whole out.before out.after wanted.bytes (done t).1;
  whole = λ t. inr (inr (inr (done t)));
  read_fault = λ e. absurd (not_read e);
  write_fault = λ e. absurd (not_write e);
}

-- memory could not be had, and the sink is as it was
pub meets-unchanged : (wanted : Outcome) (is_known rose : Type 0) (out : SinkRun) → out.after ≡ out.before
    → Meets wanted is_known rose out OutOfMemory
meets-unchanged wanted is_known rose out same =
    meets-no-memory-part wanted is_known rose out
    (λ t. part-none out.before out.after wanted.bytes (subst (Same out.before) (sym same) (same-none out.before)))
