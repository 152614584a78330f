-- A command that has no manifest meets its outcome.
use Rattle.std.proofs.Common.{◌≡◌, ℕ, Bool, true, List, refl, ap, ◌∙◌}
use Rattle.std.specs.Prelude.{Result, Err, Some}
use Rattle.det_io.specs.declared.failure.Failure.TheVariants.{Read, Write, OutOfMemory}
use Rattle.det_io.specs.declared.failure.Stopped.{Stopped}
use Rattle.det_io.specs.declared.failure.Stopped.TheVariants.{Refused, Failed}
use Rattle.det_io.specs.Traffic.{failure_in, IfRefused}
use Rattle.manifest.specs.Values.{ManifestValue}
use Rattle.cli_answers.specs.declared.answer.BadManifest.{BadManifest}
use Rattle.cli_answers.specs.declared.answer.Answer.TheVariants as answers
use Rattle.cli_answers.specs.Answers.{without_manifest}
use Rattle.cli_answers.specs.Ends.{Work, can_end}
use Rattle.cli_answers.specs.Outcome.{Outcome, Meets, refusal}
use Rattle.cli_answers.proofs.AnswerMeets.{unwritten, meets-read-fault, meets-no-memory, meets-refusal}
use Rattle.run_setup.specs.Setup.{setup_of}

-- `wanted` is the command's outcome by the manifest, a refusal where the manifest is refused
pub meets-end : (wanted : Result ManifestValue BadManifest → Outcome)
    → ((why : BadManifest) → wanted (Err why) ≡ refusal (answers.BadManifest why))
    → (strict : Bool) (bytes : List ℕ) (is_known rose : Type 0) (before : List ℕ → Type 0) (m n : ℕ)
    → (end : Stopped BadManifest) → IfRefused end (λ why. is_known → setup_of strict bytes ≡ Err why)
    → (failure_in {A = ManifestValue} (Err end) ≡ Some Read → rose)
    → (failure_in {A = ManifestValue} (Err end) ≡ Some Write → ⊥)
    → Meets (wanted (setup_of strict bytes)) is_known rose (unwritten before m n) (without_manifest end)
meets-end wanted refuses strict bytes is_known rose before m n (Refused why) bad read write =
    meets-refusal (wanted (setup_of strict bytes)) is_known rose before m n (answers.BadManifest why) (λ e. cc) (λ e. cc)
    (λ t. ap wanted (bad t) ∙ refuses why)
meets-end wanted refuses strict bytes is_known rose before m n (Failed Read) bad read write =
    meets-read-fault (wanted (setup_of strict bytes)) is_known rose before m n (read refl)
meets-end wanted refuses strict bytes is_known rose before m n (Failed Write) bad read write = absurd (write refl)
meets-end wanted refuses strict bytes is_known rose before m n (Failed OutOfMemory) bad read write =
    meets-no-memory (wanted (setup_of strict bytes)) is_known rose before m n

-- a command that reads a manifest can end so
pub can-end : (end : Stopped BadManifest) (work : Work) → work.manifest ≡ true → can_end work (without_manifest end) ≡ true
can-end (Refused why) work is = is
can-end (Failed Read) work is = rw is refl
can-end (Failed Write) work is = refl
can-end (Failed OutOfMemory) work is = refl
