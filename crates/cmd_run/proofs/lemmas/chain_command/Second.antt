-- The outcome after a first client is that of the second manifest's client.
use Rattle.std.proofs.Common.{◌≡◌, ℕ, Bool, List, [], refl, sym, ap, ◌∙◌}
use Rattle.std.specs.Prelude.{Ok, Err, Some, IsSome}
use Rattle.std.specs.Option.{unwrap_or}
use Rattle.det_values.specs.Values.{ProfileValue}
use Rattle.det_values.specs.declared.job_kind.JobKind.{JobKind}
use Rattle.det_io.specs.Shelf.{ShelfState}
use Rattle.det_io.specs.Traffic.{failure_in, IfRefused}
use Rattle.det_io.specs.declared.failure.Failure.TheVariants.{Read, Write}
use Rattle.det_io.specs.declared.failure.Stopped.{Stopped}
use Rattle.manifest.specs.Values.{ManifestValue}
use Rattle.manifest.specs.Profiles.{profile_of}
use Rattle.cli_answers.specs.Answers.{without_manifest}
use Rattle.cli_answers.specs.declared.answer.BadManifest.{BadManifest}
use Rattle.cli_answers.specs.Outcome.{Meets, KnowsBytes, known_bytes}
use Rattle.cli_answers.proofs.AnswerMeets.{unwritten}
use Rattle.run_setup.specs.Setup.{setup_of}
use Rattle.run_setup.proofs.Ending.{meets-end}
use Rattle.cmd_run.specs.record_command.Outcomes.{record_names}
use Rattle.cmd_run.proofs.lemmas.record_command.ByManifest.{is-told, bad-told}
use Rattle.cmd_run.specs.chain_command.Clients.{Client, chained_second, chained_by_kinds}

module _ (strict : Bool) (first : ShelfState) (name stimulus : List ℕ) (seed : ℕ) (client : Client) where
  -- the same outcome, where the bytes of the manifest and of the stimulus are known
  pub by-told : (m : ManifestValue) → (IsSome (first.holds name) → setup_of strict (known_bytes first name) ≡ Ok m) → (mid : ShelfState)
      (kind : JobKind) (p : ProfileValue) → mid.holds ≡ first.holds → kind ≡ m.kind → p ≡ profile_of m seed
      → KnowsBytes first (record_names name stimulus (setup_of strict (known_bytes first name)))
      → chained_second seed client (known_bytes first stimulus) (setup_of strict (known_bytes first name))
      ≡ chained_by_kinds client (record { kind = kind; profile = p }) (known_bytes mid stimulus)
  by-told m is mid kind p holds same profile is_known =
      ap (chained_second seed client (known_bytes first stimulus)) (is-told strict first name stimulus m is is_known)
      ∙ ap (λ k. chained_by_kinds client (record { kind = k; profile = profile_of m seed }) (known_bytes first stimulus)) (sym same)
      ∙ ap (λ q. chained_by_kinds client (record { kind = kind; profile = q }) (known_bytes first stimulus)) (sym profile)
      ∙ ap (λ h. chained_by_kinds client (record { kind = kind; profile = p }) (unwrap_or (h stimulus) [])) (sym holds)

  -- a manifest that is refused, or couldn't be read
  pub met-end : (rose : Type 0) (before : List ℕ → Type 0) (m n : ℕ) (end : Stopped BadManifest)
      → IfRefused end (λ why. IsSome (first.holds name) → setup_of strict (known_bytes first name) ≡ Err why)
      → (failure_in {A = ManifestValue} (Err end) ≡ Some Read → rose) → (failure_in {A = ManifestValue} (Err end) ≡ Some Write → ⊥)
      → Meets (chained_second seed client (known_bytes first stimulus) (setup_of strict (known_bytes first name)))
      (KnowsBytes first (record_names name stimulus (setup_of strict (known_bytes first name)))) rose (unwritten before m n)
      (without_manifest end)
  met-end rose before m n end bad read write =
      meets-end (chained_second seed client (known_bytes first stimulus)) (λ why. refl) strict (known_bytes first name)
      (KnowsBytes first (record_names name stimulus (setup_of strict (known_bytes first name)))) rose before m n end
      (bad-told strict first name stimulus end bad) read write
