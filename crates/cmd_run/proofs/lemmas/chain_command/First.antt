-- The outcome of a chain is that after the first manifest's client.
use Rattle.std.proofs.Common.{◌≡◌, ℕ, Bool, List, [], ◌∷◌, refl, sym, ap, subst, ◌∙◌}
use Rattle.std.proofs.lemmas.List.Elements.{All-tail}
use Rattle.std.specs.Prelude.{Result, Ok, Err, Some, IsSome}
use Rattle.std.specs.List.{All}
use Rattle.std.specs.Option.{unwrap_or}
use Rattle.det_values.specs.Values.{ProfileValue}
use Rattle.det_values.specs.declared.job_kind.JobKind.{JobKind}
use Rattle.det_io.specs.Shelf.{ShelfState, Asks, AsksPrefix}
use Rattle.det_io.specs.Traffic.{failure_in, IfRefused}
use Rattle.det_io.specs.declared.failure.Failure.TheVariants.{Read, Write}
use Rattle.det_io.specs.declared.failure.Stopped.{Stopped}
use Rattle.det_io.specs.declared.failure.Stopped.TheVariants.{Refused, Failed}
use Rattle.det_io.proofs.Opening.{asks-all, asks-prefix-none, asks-then-prefix}
use Rattle.manifest.specs.Values.{ManifestValue}
use Rattle.manifest.specs.Profiles.{profile_of}
use Rattle.cli_answers.specs.Answers.{without_manifest}
use Rattle.cli_answers.specs.declared.answer.BadManifest.{BadManifest}
use Rattle.cli_answers.specs.Outcome.{Meets, KnowsBytes, known_bytes}
use Rattle.cli_answers.proofs.AnswerMeets.{unwritten}
use Rattle.run_setup.specs.Setup.{setup_of}
use Rattle.run_setup.proofs.Ending.{meets-end}
use Rattle.cmd_run.specs.record_command.Outcomes.{record_names}
use Rattle.cmd_run.proofs.lemmas.record_command.ByManifest.{is_known-first}
use Rattle.cmd_run.specs.chain_command.Chain.{chain_names}
use Rattle.cmd_run.specs.chain_command.Clients.{chained_second, chained_from}

module _ (strict : Bool) (shelf : ShelfState) (first second stimulus : List ℕ) where
  -- the second manifest, where its bytes are known
  abbrev other : Result ManifestValue BadManifest
  other = setup_of strict (known_bytes shelf second)

  -- the names that are opened, by what the first manifest is
  abbrev names : Result ManifestValue BadManifest → List (List ℕ)
  names read = chain_names first second stimulus read other

  -- the names after a first manifest that is good
  abbrev rest : List (List ℕ)
  rest = record_names second stimulus other

  -- the first manifest is always among them
  is_known-manifest : (read : Result ManifestValue BadManifest) → KnowsBytes shelf (names read) → IsSome (shelf.holds first)
  is_known-manifest (Ok m) is_known = is_known-first shelf first rest is_known
  is_known-manifest (Err why) is_known = is_known-first shelf first [] is_known

  -- the names that were opened where only the first manifest was read
  pub asked-first : (last : ShelfState) (read : Result ManifestValue BadManifest) → Asks shelf last (first ∷ [])
      → AsksPrefix shelf last (names read)
  asked-first last (Ok m) asked =
      asks-then-prefix shelf last last (first ∷ []) rest asked (asks-prefix-none last last rest refl)
  asked-first last (Err why) asked = asks-all shelf last (first ∷ []) asked

  module _ (m : ManifestValue) (is : IsSome (shelf.holds first) → setup_of strict (known_bytes shelf first) ≡ Ok m) where
    -- where the bytes of the first manifest are known it is this one
    is-first : KnowsBytes shelf (names (setup_of strict (known_bytes shelf first))) → setup_of strict (known_bytes shelf first) ≡ Ok m
    is-first is_known = is (is_known-manifest (setup_of strict (known_bytes shelf first)) is_known)

    module _ (mid : ShelfState) (holds : mid.holds ≡ shelf.holds) where
      -- so the bytes of the names after it are known, also after it was read
      pub is_known-rest : KnowsBytes shelf (names (setup_of strict (known_bytes shelf first)))
          → KnowsBytes mid (record_names second stimulus (setup_of strict (known_bytes mid second)))
      is_known-rest is_known =
          subst (λ h. All (λ name. IsSome (h name)) (record_names second stimulus (setup_of strict (unwrap_or (h second) []))))
          (sym holds) (All-tail (λ name. IsSome (shelf.holds name)) first rest
          (subst (λ r. KnowsBytes shelf (names r)) (is-first is_known) is_known))

      -- the same outcome, where the bytes of the names are known
      pub by-first : (seed : ℕ) (kind : JobKind) (p : ProfileValue) → kind ≡ m.kind → p ≡ profile_of m seed
          → KnowsBytes shelf (names (setup_of strict (known_bytes shelf first)))
          → chained_from seed (known_bytes shelf stimulus) (setup_of strict (known_bytes shelf first)) other
          ≡ chained_second seed (record { kind = kind; profile = p }) (known_bytes mid stimulus) (setup_of strict (known_bytes mid second))
      by-first seed kind p same profile is_known =
          ap (λ r. chained_from seed (known_bytes shelf stimulus) r other) (is-first is_known)
          ∙ ap (λ k. chained_second seed (record { kind = k; profile = profile_of m seed }) (known_bytes shelf stimulus) other) (sym same)
          ∙ ap (λ q. chained_second seed (record { kind = kind; profile = q }) (known_bytes shelf stimulus) other) (sym profile)
          ∙ ap (λ h. chained_second seed (record { kind = kind; profile = p }) (unwrap_or (h stimulus) [])
          (setup_of strict (unwrap_or (h second) []))) (sym holds)

      -- what was asked for
      pub asked-all : (last : ShelfState) → Asks shelf mid (first ∷ [])
          → AsksPrefix mid last (record_names second stimulus (setup_of strict (known_bytes mid second)))
          → KnowsBytes shelf (names (setup_of strict (known_bytes shelf first)))
          → AsksPrefix shelf last (names (setup_of strict (known_bytes shelf first)))
      asked-all last asked more is_known =
          subst (λ r. AsksPrefix shelf last (names r)) (sym (is-first is_known)) (asks-then-prefix shelf mid last (first ∷ []) rest asked
          (subst (λ h. AsksPrefix mid last (record_names second stimulus (setup_of strict (unwrap_or (h second) [])))) holds more))

  bad-first : (end : Stopped BadManifest)
      → IfRefused end (λ why. IsSome (shelf.holds first) → setup_of strict (known_bytes shelf first) ≡ Err why)
      → IfRefused end (λ why. KnowsBytes shelf (names (setup_of strict (known_bytes shelf first)))
      → setup_of strict (known_bytes shelf first) ≡ Err why)
  bad-first (Refused why) bad = λ is_known. bad (is_known-manifest (setup_of strict (known_bytes shelf first)) is_known)
  bad-first (Failed failure) bad = bad

  -- a first manifest that is refused, or couldn't be read
  pub met-first : (seed : ℕ) (rose : Type 0) (before : List ℕ → Type 0) (m n : ℕ) (end : Stopped BadManifest)
      → IfRefused end (λ why. IsSome (shelf.holds first) → setup_of strict (known_bytes shelf first) ≡ Err why)
      → (failure_in {A = ManifestValue} (Err end) ≡ Some Read → rose) → (failure_in {A = ManifestValue} (Err end) ≡ Some Write → ⊥)
      → Meets (chained_from seed (known_bytes shelf stimulus) (setup_of strict (known_bytes shelf first)) other)
      (KnowsBytes shelf (names (setup_of strict (known_bytes shelf first)))) rose (unwritten before m n) (without_manifest end)
  met-first seed rose before m n end bad read write =
      meets-end (λ r. chained_from seed (known_bytes shelf stimulus) r other) (λ why. refl) strict (known_bytes shelf first)
      (KnowsBytes shelf (names (setup_of strict (known_bytes shelf first)))) rose before m n end (bad-first end bad) read write
