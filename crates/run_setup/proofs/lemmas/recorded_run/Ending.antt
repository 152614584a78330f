-- A command that has no run meets its outcome.
use Rattle.std.proofs.Common.{◌≡◌, ℕ, Bool, true, false, List, refl, ap, ◌∙◌}
use Rattle.std.specs.Prelude.{◌||◌, Result, Err, Some}
use Rattle.det_io.specs.declared.failure.Failure.TheVariants.{Read, Write, OutOfMemory}
use Rattle.det_io.specs.declared.failure.Stopped.{Stopped}
use Rattle.det_io.specs.declared.failure.Stopped.TheVariants.{Refused, Failed}
use Rattle.det_io.specs.Traffic.{failure_in, IfRefused}
use Rattle.cli_answers.specs.Ends.{Work, can_end}
use Rattle.cli_answers.specs.Outcome.{Outcome, Meets, refusal}
use Rattle.cli_answers.proofs.AnswerMeets.{unwritten, meets-read-fault, meets-no-memory, meets-refusal}
use Rattle.run_setup.specs.declared.recorded_run.bad_run.BadRun.{BadRun}
use Rattle.run_setup.specs.declared.recorded_run.bad_run.BadRun.TheVariants.{Fault, Profile}
use Rattle.run_setup.specs.recorded_run.Run.{RunValue, run_of, refused, bad_run_answer}

-- `wanted` is the command's outcome by the run of a record, a refusal where there is none
pub meets-end : (wanted : Result RunValue BadRun → Outcome) → ((why : BadRun) → wanted (Err why) ≡ refusal (refused why))
    → (bytes : List ℕ) (is_known rose : Type 0) (before : List ℕ → Type 0) (m n : ℕ)
    → (end : Stopped BadRun) → IfRefused end (λ why. is_known → run_of bytes ≡ Err why)
    → (failure_in {A = RunValue} (Err end) ≡ Some Read → rose) → (failure_in {A = RunValue} (Err end) ≡ Some Write → ⊥)
    → Meets (wanted (run_of bytes)) is_known rose (unwritten before m n) (bad_run_answer end)
meets-end wanted refuses bytes is_known rose before m n (Refused (Fault fault)) bad read write =
    meets-refusal (wanted (run_of bytes)) is_known rose before m n (refused (Fault fault)) (λ e. cc) (λ e. cc)
    (λ t. ap wanted (bad t) ∙ refuses (Fault fault))
meets-end wanted refuses bytes is_known rose before m n (Refused Profile) bad read write =
    meets-refusal (wanted (run_of bytes)) is_known rose before m n (refused Profile) (λ e. cc) (λ e. cc)
    (λ t. ap wanted (bad t) ∙ refuses Profile)
meets-end wanted refuses bytes is_known rose before m n (Failed Read) bad read write =
    meets-read-fault (wanted (run_of bytes)) is_known rose before m n (read refl)
meets-end wanted refuses bytes is_known rose before m n (Failed Write) bad read write = absurd (write refl)
meets-end wanted refuses bytes is_known rose before m n (Failed OutOfMemory) bad read write =
    meets-no-memory (wanted (run_of bytes)) is_known rose before m n

fails-reading : (manifest stimulus recorded votes : Bool) → recorded ≡ true → manifest || (stimulus || (recorded || votes)) ≡ true
fails-reading true stimulus recorded votes is = refl
fails-reading false true recorded votes is = refl
fails-reading false false true votes is = refl
fails-reading false false false votes is = absurd cc

-- a command that runs the inputs of a record again can end so
pub can-end : (end : Stopped BadRun) (work : Work) → work.recorded ≡ true → work.reruns ≡ true → can_end work (bad_run_answer end) ≡ true
can-end (Refused (Fault fault)) work is again = is
can-end (Refused Profile) work is again = again
can-end (Failed Read) work is again = fails-reading work.manifest work.stimulus work.recorded work.votes is
can-end (Failed Write) work is again = refl
can-end (Failed OutOfMemory) work is again = refl
