-- The list job keeps the laws of a job.
use Rattle.std.proofs.Common.{◌≡◌, ℕ, ◌≤◌, ◌%◌, List, [], ◌∷◌, length, Result, Ok, Err, refl, arith}
use Rattle.std.proofs.Common.{true, false, cond, ltb, append_assoc, append-nil, length-append}
use Rattle.std.proofs.Common.{subst}
use Rattle.std.proofs.lemmas.List.Elements.{All-nil}
use Rattle.job.specs.declared.job_results.Conclusion.{Conclusion}
use Rattle.job.specs.Meaning.{ElementResult}
use Rattle.job.specs.Laws.{JobLaws}
use Rattle.thread_tests.specs.declared.pool_tests.list_job.ListJob.{ListJob}
use Rattle.job_heavy.specs.declared.heavy_job.NoGlobals.{NoGlobals}
use Rattle.thread_tests.specs.pool_tests.Meaning.{meaning, byte_after, worked, drawn, Covers, Own}
use Rattle.thread_tests.specs.pool_tests.Meaning.{Fit}

covers_run : (j : ListJob) (e k : ℕ) (w : ElementResult ℕ (List ℕ)) → worked j e k ≡ Ok w
    → Covers j w.part 1
covers_run j e k w h = elim (ltb e j.limit) as (λ b. cond b
    (Ok (record { element = byte_after e k; part = e ∷ [] })) (Err e) ≡ Ok w → Covers j w.part 1) [
      | true ↦ λ h. let same : ◌≡◌ {A = ElementResult ℕ (List ℕ)}
          (record { element = byte_after e k; part = e ∷ [] }) w = cc in
          rw (← same) (omega arith, omega arith)
      | false ↦ λ h. cc
    ] h

drawn_few : (j : ListJob) (e : ℕ) → drawn j e ≤ 65535
drawn_few j e = elim (ltb e j.limit) as (λ b. cond b (e % 2) 0 ≤ 65535) [
  | true ↦ omega arith
  | false ↦ omega arith
]

ok_same : {T : Type 0} (a b : T) → ◌≡◌ {A = Result T ℕ} (Ok a) (Ok b) → a ≡ b
ok_same a b h = cc

pub list_laws : JobLaws meaning Covers Own Fit
list_laws = record {
  events_made = λ params events small. refl;
  assoc = λ j a b c. append_assoc a b c;
  left_unit = λ j part. refl;
  right_unit = λ j part. append-nil part;
  covers_few = λ j part n h. h.1;
  covers_unit = λ j. (omega arith, omega arith);
  covers_run = λ j plan carry pass e key w fit own below carried h. covers_run j e key w h;
  covers_joined = λ j left right a b l r few. (
    rw (length-append left right) (let x = l.0 in
        let y = r.0 in omega arith),
    few,
  );
  own_run = λ j plan carry pass e key w fit own below carried h. tt;
  own_started = λ j seed. All-nil (Own j);
  fit_prepared = λ j globals es windows seed cycle time next p own few windowed h. tt;
  shown_few = λ j e own. omega arith;
  shown_apart = λ j a b l r h. cc;
  output_few = λ j globals plan part d h. subst
      (λ (x : Conclusion NoGlobals). length x.output ≤ 1048576) (ok_same _ _ h) (omega arith);
  few_started = λ j seed. omega arith;
  fit_passes = λ j plan fit. (omega arith, omega arith);
  drawn_few = λ j plan carry pass e key. drawn_few j e;
}
