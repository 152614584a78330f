-- The outcomes of `demo` and `record` are those of their profiles.
use Rattle.std.proofs.Common.{◌≡◌, ℕ, Bool, List, [], ◌∷◌, refl, sym, ap, subst, ◌∙◌, arith}
use Rattle.std.specs.Prelude.{Option, Some, Result, Ok, Err, IsSome}
use Rattle.std.specs.Option.{unwrap_or}
use Rattle.det_values.specs.Values.{ProfileValue}
use Rattle.det_io.specs.Shelf.{ShelfState, Asks, AsksPrefix}
use Rattle.det_io.specs.Traffic.{failure_in, IfRefused}
use Rattle.det_io.specs.declared.failure.Failure.TheVariants.{Read, Write}
use Rattle.det_io.specs.declared.failure.Stopped.{Stopped}
use Rattle.det_io.specs.declared.failure.Stopped.TheVariants.{Refused, Failed}
use Rattle.det_io.proofs.Opening.{asks-all, asks-prefix-none, asks-then-prefix}
use Rattle.det_values.specs.declared.job_kind.JobKind.{JobKind}
use Rattle.det_values.specs.declared.job_kind.JobKind.TheVariants.{Bank}
use Rattle.manifest.specs.Values.{ManifestValue}
use Rattle.manifest.specs.Profiles.{profile_of}
use Rattle.cli_answers.specs.Answers.{without_manifest}
use Rattle.cli_answers.specs.declared.answer.BadManifest.{BadManifest}
use Rattle.cli_answers.specs.Outcome.{Outcome, Meets, KnowsBytes, known_bytes}
use Rattle.cli_answers.proofs.AnswerMeets.{unwritten}
use Rattle.run_setup.specs.Setup.{setup_of, with_manifest}
use Rattle.run_setup.proofs.Ending.{meets-end}
use Rattle.cmd_run.specs.record_command.Outcomes.{demo_profile, demo_outcome, recorded_by_kind}
use Rattle.cmd_run.specs.record_command.Outcomes.{record_names, record_outcome}

-- a manifest's profile with a seed, over a stimulus, or the refusal of the manifest
abbrev pub recorded_by : ℕ → List ℕ → Result ManifestValue BadManifest → Outcome
recorded_by seed stimulus = with_manifest (λ m. recorded_by_kind m.kind (profile_of m seed) stimulus)

-- the first of some names whose bytes are known, and the second
pub is_known-first : (shelf : ShelfState) (name : List ℕ) (names : List (List ℕ)) → KnowsBytes shelf (name ∷ names)
    → IsSome (shelf.holds name)
is_known-first shelf name names t = t 0 name (omega arith)

pub is_known-second : (shelf : ShelfState) (first name : List ℕ) (names : List (List ℕ)) → KnowsBytes shelf (first ∷ name ∷ names)
    → IsSome (shelf.holds name)
is_known-second shelf first name names t = t 1 name (omega arith)

-- the outcome of the built-in profile
pub is-demo_outcome : (p : ProfileValue) (text : List ℕ) → p ≡ demo_profile → demo_outcome text ≡ recorded_by_kind Bank p text
unfolding demo_outcome
is-demo_outcome p text is = sym (ap (λ q. recorded_by_kind Bank q text) is)

module _ (strict : Bool) (first : ShelfState) (name stimulus : List ℕ) where
  -- the names that are opened, by what the manifest is
  abbrev names : Result ManifestValue BadManifest → List (List ℕ)
  names read = record_names name stimulus read

  -- the manifest is always among them
  pub is_known-manifest : (read : Result ManifestValue BadManifest) → KnowsBytes first (names read) → IsSome (first.holds name)
  is_known-manifest (Ok m) is_known = is_known-first first name (stimulus ∷ []) is_known
  is_known-manifest (Err why) is_known = is_known-first first name [] is_known

  -- the names that were opened where only the manifest was read
  pub asked-manifest : (last : ShelfState) (read : Result ManifestValue BadManifest) → Asks first last (name ∷ [])
      → AsksPrefix first last (names read)
  asked-manifest last (Ok m) asked =
      asks-then-prefix first last last (name ∷ []) (stimulus ∷ []) asked (asks-prefix-none last last (stimulus ∷ []) refl)
  asked-manifest last (Err why) asked = asks-all first last (name ∷ []) asked

  module _ (m : ManifestValue) (is : IsSome (first.holds name) → setup_of strict (known_bytes first name) ≡ Ok m) where
    -- where the bytes of the manifest are known it is this one
    pub is-told : KnowsBytes first (names (setup_of strict (known_bytes first name))) → setup_of strict (known_bytes first name) ≡ Ok m
    is-told is_known = is (is_known-manifest (setup_of strict (known_bytes first name)) is_known)

    -- so both names are opened
    pub is_known-both : KnowsBytes first (names (setup_of strict (known_bytes first name))) → KnowsBytes first (name ∷ stimulus ∷ [])
    is_known-both is_known = subst (λ r. KnowsBytes first (names r)) (is-told is_known) is_known

    pub asked-both : (last : ShelfState) → AsksPrefix first last (name ∷ stimulus ∷ [])
        → KnowsBytes first (names (setup_of strict (known_bytes first name)))
        → AsksPrefix first last (names (setup_of strict (known_bytes first name)))
    asked-both last asked is_known = subst (λ r. AsksPrefix first last (names r)) (sym (is-told is_known)) asked

    -- the same outcome, where the bytes of the manifest and of the stimulus are known
    pub by-told : (mid : ShelfState) (seed : Option ℕ) (kind : JobKind) (p : ProfileValue) → mid.holds ≡ first.holds
        → kind ≡ m.kind → p ≡ profile_of m (unwrap_or seed 0) → KnowsBytes first (names (setup_of strict (known_bytes first name)))
        → record_outcome strict (known_bytes first name) (known_bytes first stimulus) seed
        ≡ recorded_by_kind kind p (known_bytes mid stimulus)
    by-told mid seed kind p holds same profile is_known =
        ap (recorded_by (unwrap_or seed 0) (known_bytes first stimulus)) (is-told is_known)
        ∙ ap (λ k. recorded_by_kind k (profile_of m (unwrap_or seed 0)) (known_bytes first stimulus)) (sym same)
        ∙ ap (λ q. recorded_by_kind kind q (known_bytes first stimulus)) (sym profile)
        ∙ ap (λ h. recorded_by_kind kind p (unwrap_or (h stimulus) [])) (sym holds)

    -- the bytes of the stimulus are known after the manifest was read
    pub still-told : (mid : ShelfState) → mid.holds ≡ first.holds → KnowsBytes first (names (setup_of strict (known_bytes first name)))
        → IsSome (mid.holds stimulus)
    still-told mid holds is_known = subst (λ h. IsSome (h stimulus)) (sym holds) (is_known-second first name stimulus [] (is_known-both
        is_known))

  -- where the bytes of the manifest are known it is refused so
  pub bad-told : (end : Stopped BadManifest)
      → IfRefused end (λ why. IsSome (first.holds name) → setup_of strict (known_bytes first name) ≡ Err why)
      → IfRefused end (λ why. KnowsBytes first (names (setup_of strict (known_bytes first name))) → setup_of strict (known_bytes first name)
      ≡ Err why)
  bad-told (Refused why) bad = λ is_known. bad (is_known-manifest (setup_of strict (known_bytes first name)) is_known)
  bad-told (Failed failure) bad = bad

  -- a manifest that is refused, or couldn't be read
  pub met-end : (seed : Option ℕ) (rose : Type 0) (before : List ℕ → Type 0) (m n : ℕ) (end : Stopped BadManifest)
      → IfRefused end (λ why. IsSome (first.holds name) → setup_of strict (known_bytes first name) ≡ Err why)
      → (failure_in {A = ManifestValue} (Err end) ≡ Some Read → rose) → (failure_in {A = ManifestValue} (Err end) ≡ Some Write → ⊥)
      → Meets (record_outcome strict (known_bytes first name) (known_bytes first stimulus) seed)
      (KnowsBytes first (names (setup_of strict (known_bytes first name)))) rose (unwritten before m n) (without_manifest end)
  met-end seed rose before m n end bad read write =
      meets-end (recorded_by (unwrap_or seed 0) (known_bytes first stimulus)) (λ why. refl) strict (known_bytes first name)
      (KnowsBytes first (names (setup_of strict (known_bytes first name)))) rose before m n end (bad-told end bad) read write
