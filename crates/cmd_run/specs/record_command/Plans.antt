-- The run that a command plans by a manifest and its options.
use Rattle.std.specs.Prelude.{◌≡◌, ℕ, Bool, List, Option, Some, Ok, Err, IsSome}
use Rattle.std.specs.Option.{unwrap_or}
use Rattle.det_values.specs.Values.{ProfileValue}
use Rattle.det_values.specs.declared.job_kind.JobKind.{JobKind}
use Rattle.det_io.specs.Count.{Rose}
use Rattle.det_io.specs.Shelf.{ShelfState}
use Rattle.det_io.specs.Traffic.{failure_in, IfRefused}
use Rattle.det_io.specs.declared.failure.Failure.TheVariants.{Read, Write}
use Rattle.det_io.specs.declared.failure.Stopped.{Stopped}
use Rattle.manifest.specs.Values.{ManifestValue}
use Rattle.manifest.specs.Profiles.{profile_of}
use Rattle.cli_answers.specs.declared.answer.BadManifest.{BadManifest}
use Rattle.cli_answers.specs.Outcome.{known_bytes}
use Rattle.run_setup.specs.Setup.{setup_of}

-- the kind, the profile and the number of workers are those of the manifest under a name, with the
-- seed and the number of workers that are given
pub record IsPlanned (shelf : ShelfState) (name : List ℕ) (strict : Bool) (seed given : Option ℕ)
    (kind : JobKind) (profile : ProfileValue) (count : ℕ) : Type 0 where
  pub manifest : ManifestValue
  pub is : IsSome (shelf.holds name) → setup_of strict (known_bytes shelf name) ≡ Ok manifest
  pub same_kind : kind ≡ manifest.kind
  pub same_profile : profile ≡ profile_of manifest (unwrap_or seed 0)
  pub workers : count ≡ unwrap_or given manifest.workers

-- no run is planned: the manifest under a name is refused, or a call failed
pub record IsUnplanned (first last : ShelfState) (name : List ℕ) (strict : Bool)
    (end : Stopped BadManifest) : Type 0 where
  pub refused : IfRefused end (λ why. IsSome (first.holds name)
      → setup_of strict (known_bytes first name) ≡ Err why)
  pub cause : failure_in {A = ManifestValue} (Err end) ≡ Some Read → Rose first.faults last.faults
  pub writes_nothing : failure_in {A = ManifestValue} (Err end) ≡ Some Write → ⊥
