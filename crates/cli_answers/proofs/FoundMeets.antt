-- How a run that prints what it found meets its outcome.
use Rattle.std.proofs.Common.{◌≡◌, inl, inr, [], ap, ◌∙◌}
use Rattle.std.specs.Prelude.{◌⊎◌, Result, Err}
use Rattle.det_io.specs.declared.failure.Failure.{Failure}
use Rattle.det_io.specs.declared.failure.Failure.TheVariants.{Read, Write, OutOfMemory}
use Rattle.det_io.specs.Sink.{Grew, GrewByPrefix}
use Rattle.det_io.specs.Traffic.{SinkRun}
use Rattle.det_io.proofs.Growth.{part-wider}
use Rattle.det_io.proofs.Prefixes.{prefix-none}
use Rattle.cli_answers.specs.Found.{found_by, FindsBy}
use Rattle.cli_answers.specs.Outcome.{OutcomeIn, MeetsBy}

-- what was printed is the outcome, if that is known
pub meets-printed : {A : Type 0} {failed : Failure → A} {wanted printed : OutcomeIn A} {is_known read_failed : Type 0} {out : SinkRun}
    {answer : A} → (is_known → wanted ≡ printed) → MeetsBy failed printed (Unit {0}) ⊥ out answer
    → MeetsBy failed wanted is_known read_failed out answer
meets-printed is m = record {
  part = λ t. rw (is t) (m.part tt);
  whole = λ t. rw (is t) (m.whole tt);
  read_fault = λ e. absurd (m.read_fault e);
  write_fault = m.write_fault;
}

module _ {V A : Type 0} {failed : Failure → A} {printed : V → OutcomeIn A} {wanted : OutcomeIn A} {is_known read_failed : Type 0}
    {found : Result V A} {out : SinkRun} {answer : A} (f : FindsBy failed printed wanted is_known read_failed found)
    (m : MeetsBy failed (found_by printed found) (Unit {0}) (found ≡ Err (failed Read)) out answer) where
  abbrev Part : OutcomeIn A → Type 0
  Part o = GrewByPrefix out.before out.after o.bytes

  abbrev Whole : OutcomeIn A → Type 0
  Whole o = (answer ≡ failed Read) ⊎ ((answer ≡ failed Write) ⊎ ((answer ≡ failed OutOfMemory)
      ⊎ ((answer ≡ o.answer) × Grew out.before out.after o.bytes)))

  -- nothing is written where a failure was found
  part-failure : (failure : Failure) → found ≡ Err (failed failure) → Part (found_by printed found) → Part wanted
  part-failure failure e part =
      part-wider out.before out.after [] wanted.bytes (let p = rw e at part in p) (prefix-none wanted.bytes)

  -- a failure that was found is the answer, or another failure is
  whole-failure : (failure : Failure) → found ≡ Err (failed failure) → (answer ≡ failed failure → Whole wanted)
      → Whole (found_by printed found) → Whole wanted
  whole-failure failure e told (inl read) = inl read
  whole-failure failure e told (inr (inl write)) = inr (inl write)
  whole-failure failure e told (inr (inr (inl memory))) = inr (inr (inl memory))
  whole-failure failure e told (inr (inr (inr same))) = told (same.0 ∙ ap (λ (r : Result V A). (found_by printed r).answer) e)

  -- what was found was printed
  pub meets-found : MeetsBy failed wanted is_known read_failed out answer
  meets-found = record {
    part = λ t. elim (f.finds t) [
      | inl fault ↦ part-failure Read fault (m.part tt)
      | inr (inl memory) ↦ part-failure OutOfMemory memory (m.part tt)
      | inr (inr same) ↦ rw (← same) (m.part tt)
    ];
    whole = λ t. elim (f.finds t) [
      | inl fault ↦ whole-failure Read fault (λ e. inl e) (m.whole tt)
      | inr (inl memory) ↦ whole-failure OutOfMemory memory (λ e. inr (inr (inl e))) (m.whole tt)
      | inr (inr same) ↦ rw (← same) (m.whole tt)
    ];
    read_fault = λ e. f.read_fault (m.read_fault e);
    write_fault = m.write_fault;
  }
