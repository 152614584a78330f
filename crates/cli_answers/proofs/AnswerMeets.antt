-- How a run meets an outcome, by its answer, and what follows from that.
use Rattle.std.proofs.Common.{◌≡◌, ℕ, List, Some, refl, sym, ap, subst, inl, inr}
use Rattle.std.specs.Prelude.{◌⊎◌, Result, Ok, Err, OnOk, OnErr}
use Rattle.det_io.specs.declared.failure.Failure.{Failure}
use Rattle.det_io.specs.declared.failure.Failure.TheVariants as failures
use Rattle.det_io.specs.Count.{Rose}
use Rattle.det_io.specs.Sink.{Grew, GrewByPrefix}
use Rattle.det_io.specs.Traffic.{SinkRun}
use Rattle.det_io.proofs.Growth.{grew-none, same-none, part-none, part-whole}
use Rattle.cli_answers.specs.declared.answer.Answer.{Answer}
use Rattle.cli_answers.specs.declared.answer.Answer.TheVariants.{ReadFault, WriteFault, OutOfMemory}
use Rattle.cli_answers.specs.Answers.{failed}
use Rattle.cli_answers.specs.Outcome.{Outcome, Meets, HasRisen, WritesLine, EndsBy, refusal}

-- a sink that took nothing
abbrev pub unwritten : (List ℕ → Type 0) → ℕ → ℕ → SinkRun
unwritten took faults_before faults_after =
    record { before = took; after = took; faults_before = faults_before; faults_after = faults_after }

module _ (wanted : Outcome) (is_known rose : Type 0) where
  -- a read failed before anything was written
  pub meets-read-fault : (before : List ℕ → Type 0) (m n : ℕ) → rose → Meets wanted is_known rose (unwritten before m n) ReadFault
  meets-read-fault before m n r = record {
    part = λ t. part-none before before wanted.bytes (same-none before);
    whole = λ t. inl refl;
    read_fault = λ e. r;
    write_fault = λ e. cc;
  }

  -- memory could not be had before anything was written
  pub meets-no-memory : (before : List ℕ → Type 0) (m n : ℕ) → Meets wanted is_known rose (unwritten before m n) OutOfMemory
  meets-no-memory before m n = record {
    part = λ t. part-none before before wanted.bytes (same-none before);
    whole = λ t. inr (inr (inl refl));
    read_fault = λ e. cc;
    write_fault = λ e. cc;
  }

  -- an open failed before anything was written
  pub meets-unopened : (before : List ℕ → Type 0) (m n : ℕ) (failure : Failure) → (Some failure ≡ Some failures.Read → rose)
      → (Some failure ≡ Some failures.Write → ⊥)
      → Meets wanted is_known rose (unwritten before m n) (failed failure)
  meets-unopened before m n failures.Read r no_write = meets-read-fault before m n (r refl)
  meets-unopened before m n failures.Write r no_write = absurd (no_write refl)
  meets-unopened before m n failures.OutOfMemory r no_write = meets-no-memory before m n

  -- the outcome was refused before anything was written
  pub meets-refusal : (before : List ℕ → Type 0) (m n : ℕ) (answer : Answer) → (answer ≡ ReadFault → ⊥) → (answer ≡ WriteFault → ⊥)
      → (is_known → wanted ≡ refusal answer)
      → Meets wanted is_known rose (unwritten before m n) answer
  meets-refusal before m n answer not_read not_write refused = record {
    part = λ t. part-none before before wanted.bytes (same-none before);
    whole = λ t. inr (inr (inr (sym (ap (λ (w : Outcome). w.answer) (refused t)), rw (refused t) (grew-none before))));
    read_fault = λ e. absurd (not_read e);
    write_fault = λ e. absurd (not_write e);
  }

  -- all bytes were written
  pub meets-whole : (out : SinkRun) (answer : Answer) (bytes : List ℕ) → (answer ≡ ReadFault → ⊥)
      → (answer ≡ WriteFault → ⊥)
      → (is_known → wanted ≡ record { answer = answer; bytes = bytes }) → Grew out.before out.after bytes
      → Meets wanted is_known rose out answer
  meets-whole out answer bytes not_read not_write is grew = record {
    part = λ t. rw (is t) (part-whole out.before out.after bytes grew);
    whole = λ t. inr (inr (inr (sym (ap (λ (w : Outcome). w.answer) (is t)), rw (is t) grew)));
    read_fault = λ e. absurd (not_read e);
    write_fault = λ e. absurd (not_write e);
  }

  -- a read failed, a part of the bytes was written
  pub meets-read-fault-part : (out : SinkRun) → (is_known → GrewByPrefix out.before out.after wanted.bytes) → rose
      → Meets wanted is_known rose out ReadFault
  meets-read-fault-part out part failed = record {
    part = part;
    whole = λ t. inl refl;
    read_fault = λ e. failed;
    write_fault = λ e. cc;
  }

  -- a write failed
  pub meets-write-fault : (out : SinkRun) → (is_known → GrewByPrefix out.before out.after wanted.bytes) → HasRisen out
      → Meets wanted is_known rose out WriteFault
  meets-write-fault out part failed = record {
    part = part;
    whole = λ t. inr (inl refl);
    read_fault = λ e. cc;
    write_fault = λ e. failed;
  }

  -- memory could not be had, a part of the bytes was written
  pub meets-no-memory-part : (out : SinkRun) → (is_known → GrewByPrefix out.before out.after wanted.bytes)
      → Meets wanted is_known rose out OutOfMemory
  meets-no-memory-part out part = record {
    part = part;
    whole = λ t. inr (inr (inl refl));
    read_fault = λ e. cc;
    write_fault = λ e. cc;
  }

-- a run that meets an outcome if more is known, or fewer failures are allowed
pub meets-under : (wanted : Outcome) (is_known rose tells2 rose2 : Type 0) (out : SinkRun) (answer : Answer)
    → (tells2 → is_known) → (rose → rose2)
    → Meets wanted is_known rose out answer → Meets wanted tells2 rose2 out answer
meets-under wanted is_known rose tells2 rose2 out answer t r m = record {
  part = λ x. m.part (t x);
  whole = λ x. m.whole (t x);
  read_fault = λ e. r (m.read_fault e);
  write_fault = m.write_fault;
}

-- the cases of an answer
pub met : {wanted : Outcome} {is_known rose : Type 0} {out : SinkRun} {answer : Answer}
    → Meets wanted is_known rose out answer → is_known
    → (answer ≡ ReadFault) ⊎ ((answer ≡ WriteFault) ⊎ ((answer ≡ OutOfMemory)
    ⊎ ((answer ≡ wanted.answer) × Grew out.before out.after wanted.bytes)))
met m t = m.whole t

-- what the line for `err` says of an answer
pub told-line : {wanted : Outcome} {is_known rose : Type 0} {out : SinkRun} {answer : Answer}
    → Meets wanted is_known rose out answer → is_known
    → (answer ≡ ReadFault) ⊎ ((answer ≡ WriteFault) ⊎ ((answer ≡ OutOfMemory) ⊎ (answer ≡ wanted.answer)))
told-line m t = elim (m.whole t) [
  | inl read ↦ inl read
  | inr more ↦ inr (elim more [
    | inl write ↦ inl write
    | inr rest ↦ inr (elim rest [
      | inl memory ↦ inl memory
      | inr same ↦ inr same.0
    ])
  ])
]

-- a line that was written, or whose writing failed
pub writes-line : {A E : Type 0} (line : List ℕ) (out : SinkRun) (written : Result A E) → GrewByPrefix out.before out.after line
    → OnOk written (Grew out.before out.after line) → OnErr written (HasRisen out) → WritesLine line out
writes-line line out (Ok done) part whole cause = record { part = part; whole = λ calm. whole }
writes-line line out (Err why) part whole cause = record { part = part; whole = λ calm. absurd (calm cause) }

-- the end of a program that wrote the line of its answer
pub ends-by : {A S : Type 0} {status_of : A → S} {line_of : A → List ℕ} {Ran : A → Type 0} {err : SinkRun} {status : S} {line : List ℕ}
    (answer : A) → status ≡ status_of answer → Ran answer → line ≡ line_of answer → WritesLine line err
    → EndsBy status_of line_of Ran err status
ends-by {err = err} answer is ran same written =
    record { answer = answer; is = is; runs = ran; line = subst (λ (line : List ℕ). WritesLine line err) same written }
