-- A record that was checked meets the outcome of its bytes.
use Rattle.std.proofs.Common.{◌≡◌, ℕ, List, [], ◌∷◌, ◌++◌, true, refl, sym, ap, subst, inl, inr}
use Rattle.std.specs.Prelude.{◌⊎◌, Some, Result, Ok, Err}
use Rattle.det_values.specs.Values.{ProfileValue}
use Rattle.det_values.specs.declared.job_kind.JobKind.{JobKind}
use Rattle.det_io.specs.Count.{Rose}
use Rattle.det_io.specs.Shelf.{Reads}
use Rattle.det_io.specs.Traffic.{ShelfRun, SinkRun}
use Rattle.det_io.proofs.Growth.{same-then-grew, grew-same}
use Rattle.det_io.specs.declared.failure.Failure.TheVariants as failures
use Rattle.det_io.specs.declared.failure.Stopped.{Stopped}
use Rattle.det_io.specs.declared.failure.Stopped.TheVariants.{Refused, Failed}
use Rattle.job.specs.Meaning.{Meaning}
use Rattle.jobs.specs.Kinds.{of_kind}
use Rattle.jobs.proofs.ByKinds.{by_kind-then, of_kind-gives}
use Rattle.record_grammar.specs.declared.record_fault.RecordFault.{RecordFault}
use Rattle.record_grammar.specs.declared.item.Item.TheVariants.{Header}
use Rattle.record_reader.specs.declared.frame_reader.FrameReader.{FrameReader}
use Rattle.record_reader.specs.Frames.{StandsFor, slot_of}
use Rattle.probes.specs.Reports.{AudienceState, reported}
use Rattle.copies.specs.declared.check_verdict.CheckVerdict.{CheckVerdict}
use Rattle.rerun.specs.checker.Departure.{checked_runs}
use Rattle.rerun.specs.checker.CheckRun.{Answers}
use Rattle.cli_answers.specs.declared.answer.Answer.{Answer}
use Rattle.cli_answers.specs.declared.answer.Answer.TheVariants.{BadRecord, OutOfMemory}
use Rattle.cli_answers.specs.Answers.{stopped}
use Rattle.cli_answers.specs.Ends.{can_end, compares_runs}
use Rattle.cli_answers.specs.Outcome.{Outcome, Meets, refusal}
use Rattle.cli_answers.proofs.AnswerMeets.{unwritten, meets-read-fault, meets-no-memory, meets-refusal}
use Rattle.run_setup.specs.declared.recorded_run.bad_run.BadRun.{BadRun}
use Rattle.run_setup.specs.recorded_run.Run.{RunValue, over_run, refused}
use Rattle.cmd_rerun.specs.check_command.Check.{outcome_by, checked_with}
use Rattle.cmd_rerun.specs.check_command.CheckVisit.{checked, IsUntouched, HasChecked}
use Rattle.cmd_rerun.specs.Rest.{IsRerun}
use Rattle.cmd_rerun.proofs.RestMeets.{at-told}

-- the outcome by the run that a record's header names
abbrev pub checked_by : AudienceState → List ℕ → Result RunValue BadRun → Outcome
checked_by audience record_bytes named =
    over_run (λ S G E L P m profile. checked_with m profile audience record_bytes) (λ why. refusal (refused why)) named

-- a run of a sink, from what it took and its faults before and after
abbrev run_from : (before : List ℕ → Type 0) (faults : ℕ) (after : List ℕ → Type 0) (faults_after : ℕ) → SinkRun
run_from before faults after faults_after =
    record { before = before; after = after; faults_before = faults; faults_after = faults_after }

-- what was printed is the outcome, where the rest of the record is known
meets-printed : {wanted printed : Outcome} {is_known rose : Type 0} {out : SinkRun} {answer : Answer} → (is_known → wanted ≡ printed)
    → Meets printed (Unit {0}) ⊥ out answer → Meets wanted is_known rose out answer
meets-printed is m = record {
  part = λ t. rw (is t) (m.part tt);
  whole = λ t. rw (is t) (m.whole tt);
  read_fault = λ e. absurd (m.read_fault e);
  write_fault = m.write_fault;
}

in-fourth : {A B C D E : Type 0} → A ⊎ (B ⊎ (C ⊎ D)) → (D → E) → A ⊎ (B ⊎ (C ⊎ E))
in-fourth which f = elim which [
  | inl a ↦ inl a
  | inr more ↦ inr (elim more [
    | inl b ↦ inl b
    | inr rest ↦ inr (elim rest [
      | inl c ↦ inl c
      | inr d ↦ inr (f d)
    ])
  ])
]

-- nothing was written before or after what was
module _ {wanted : Outcome} {is_known rose : Type 0} {answer : Answer} (sink : SinkRun) (untouched : IsUntouched sink) where
  same-first : (last : List ℕ → Type 0) (faults : ℕ) → Meets wanted is_known rose (run_from sink.after sink.faults_after last faults) answer
      → Meets wanted is_known rose (run_from sink.before sink.faults_before last faults) answer
  same-first last faults m = record {
    part = λ t. let p = m.part t in (p.0, p.1, same-then-grew untouched.took p.2);
    whole = λ t. in-fourth (m.whole t) (λ all. (all.0, same-then-grew untouched.took all.1));
    read_fault = m.read_fault;
    write_fault = λ e. subst (λ (k : ℕ). Rose k faults) untouched.faults (m.write_fault e);
  }

  same-last : Meets wanted is_known rose (unwritten sink.before sink.faults_before sink.faults_after) answer
      → Meets wanted is_known rose sink answer
  same-last m = record {
    part = λ t. let p = m.part t in (p.0, p.1, grew-same p.2 untouched.took);
    whole = λ t. in-fourth (m.whole t) (λ all. (all.0, grew-same all.1 untouched.took));
    read_fault = m.read_fault;
    write_fault = m.write_fault;
  }

module _ {S G E L P : Type 0} (m : Meaning S G E L P) (profile : ProfileValue) (frames : FrameReader) (read : List ℕ)
    (stands : StandsFor frames read (Header profile ∷ [])) (shelf : ShelfRun) (sink : SinkRun) (old now : AudienceState) where
  -- what a result says of the record, where the rest of it is known
  pub answers : (result : Result CheckVerdict (Stopped RecordFault)) (rest : List ℕ)
      → HasChecked m profile frames shelf sink old now result → shelf.first.left (slot_of frames) ≡ Some rest
      → Answers m profile old now result (read ++ rest)
  answers result rest h told =
      at-told (shelf.first.left (slot_of frames)) rest (λ more. Answers m profile old now result (read ++ more)) told
      (h.checked read stands).told

  outcome-is : (verdict : CheckVerdict) (rest : List ℕ) → HasChecked m profile frames shelf sink old now (Ok verdict)
      → shelf.first.left (slot_of frames) ≡ Some rest
      → checked_with m profile old (read ++ rest) ≡ outcome_by (Ok verdict) (reported now [])
  outcome-is verdict rest h told = let a = answers (Ok verdict) rest h told in λ i. outcome_by (a.0 i) (sym a.1 i)

  -- a check writes nothing
  pub no-write : HasChecked m profile frames shelf sink old now (Err (Failed failures.Write)) → ⊥
  no-write h = (h.checked read stands).run.1.answers.each [] (λ end. refl)

  met-stopped : (stop : Stopped RecordFault) (rest : List ℕ) → HasChecked m profile frames shelf sink old now (Err stop)
      → Meets (checked_with m profile old (read ++ rest)) (shelf.first.left (slot_of frames) ≡ Some rest)
      (Rose shelf.first.faults shelf.last.faults) (unwritten sink.before sink.faults_before sink.faults_after) (stopped stop)
  met-stopped (Refused fault) rest h =
      meets-refusal (checked_with m profile old (read ++ rest)) (shelf.first.left (slot_of frames) ≡ Some rest)
      (Rose shelf.first.faults shelf.last.faults) sink.before sink.faults_before sink.faults_after (BadRecord 0 fault) (λ e. cc) (λ e. cc)
      (λ told. ap (λ (v : Result CheckVerdict RecordFault). outcome_by v (reported old (checked_runs m profile (read ++ rest))))
      (answers (Err (Refused fault)) rest h told).0)
  met-stopped (Failed failures.Read) rest h =
      meets-read-fault (checked_with m profile old (read ++ rest)) (shelf.first.left (slot_of frames) ≡ Some rest)
      (Rose shelf.first.faults shelf.last.faults) sink.before sink.faults_before sink.faults_after (h.traffic.cause refl)
  met-stopped (Failed failures.Write) rest h = absurd (no-write h)
  met-stopped (Failed failures.OutOfMemory) rest h =
      meets-no-memory (checked_with m profile old (read ++ rest)) (shelf.first.left (slot_of frames) ≡ Some rest)
      (Rose shelf.first.faults shelf.last.faults) sink.before sink.faults_before sink.faults_after

can-stop : (stop : Stopped RecordFault) → can_end compares_runs (stopped stop) ≡ true
can-stop (Refused fault) = refl
can-stop (Failed failures.Read) = refl
can-stop (Failed failures.Write) = refl
can-stop (Failed failures.OutOfMemory) = refl

-- with the job of a kind
module _ (kind : JobKind) (profile : ProfileValue) (frames : FrameReader) (shelf : ShelfRun) (sink : SinkRun) (old now : AudienceState)
    (result : Result CheckVerdict (Stopped RecordFault))
    (visited : of_kind (λ S G E L P m. HasChecked m profile frames shelf sink old now result) kind) where
  untouched : IsUntouched sink
  untouched = of_kind-gives (λ S G E L P m. HasChecked m profile frames shelf sink old now result) (IsUntouched sink)
      (λ S G E L P m h. h.untouched) kind visited

  -- all that it read was of its slot
  abbrev ReadsSlot : Type 0
  ReadsSlot = (more : List ℕ) × Reads shelf.first shelf.last (slot_of frames) more

  reads-by-kind : (read : List ℕ) → StandsFor frames read (Header profile ∷ []) → ReadsSlot
  reads-by-kind read stands =
      of_kind-gives (λ S G E L P m. HasChecked m profile frames shelf sink old now result) ReadsSlot
      (λ S G E L P m h. let run = (h.checked read stands).run in (run.0, run.1.answers.reads)) kind visited

  -- the line of a verdict was printed, and the reports
  pub rerun-verdict : (verdict : CheckVerdict) (last : List ℕ → Type 0) (faults : ℕ) (answer : Answer) → result ≡ Ok verdict
      → Meets (outcome_by (Ok verdict) (reported now [])) (Unit {0}) ⊥ (run_from sink.after sink.faults_after last faults) answer
      → can_end compares_runs answer ≡ true
      → IsRerun (checked kind profile old) compares_runs profile frames shelf (run_from sink.before sink.faults_before last faults) answer
  rerun-verdict verdict last faults answer is met ends = record {
    meets = λ read rest stands.
        meets-printed (by_kind-then (λ S G E L P m. checked_with m profile old (read ++ rest))
        (λ S G E L P m. HasChecked m profile frames shelf sink old now result)
        (λ wanted. shelf.first.left (slot_of frames) ≡ Some rest → wanted ≡ outcome_by (Ok verdict) (reported now []))
        (λ S G E L P m h. outcome-is m profile frames read stands shelf sink old now verdict rest
        (subst (λ (r : Result CheckVerdict (Stopped RecordFault)). HasChecked m profile frames shelf sink old now r) is h)) kind visited)
        (same-first sink untouched last faults met);
    ends = ends;
    reads = reads-by-kind;
  }

  -- the check stopped, and nothing was printed
  pub rerun-stop : (stop : Stopped RecordFault) (answer : Answer) → result ≡ Err stop → answer ≡ stopped stop
      → IsRerun (checked kind profile old) compares_runs profile frames shelf sink answer
  rerun-stop stop answer is answered = record {
    meets = λ read rest stands.
        rw answered (same-last sink untouched
        (by_kind-then (λ S G E L P m. checked_with m profile old (read ++ rest))
        (λ S G E L P m. HasChecked m profile frames shelf sink old now result)
        (λ wanted. Meets wanted (shelf.first.left (slot_of frames) ≡ Some rest) (Rose shelf.first.faults shelf.last.faults)
        (unwritten sink.before sink.faults_before sink.faults_after) (stopped stop))
        (λ S G E L P m h. met-stopped m profile frames read stands shelf sink old now stop rest
        (subst (λ (r : Result CheckVerdict (Stopped RecordFault)). HasChecked m profile frames shelf sink old now r) is h)) kind visited));
    ends = rw answered (can-stop stop);
    reads = reads-by-kind;
  }

  -- memory couldn't be had, and nothing was printed
  pub rerun-unprinted : IsRerun (checked kind profile old) compares_runs profile frames shelf sink OutOfMemory
  rerun-unprinted = record {
    meets = λ read rest stands.
        same-last sink untouched
        (meets-no-memory (checked kind profile old (read ++ rest)) (shelf.first.left (slot_of frames) ≡ Some rest)
        (Rose shelf.first.faults shelf.last.faults) sink.before sink.faults_before sink.faults_after);
    ends = refl;
    reads = reads-by-kind;
  }
