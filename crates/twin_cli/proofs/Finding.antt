-- What twins find of a manifest and of a stimulus.
use Rattle.std.proofs.Common.{◌≡◌, ◌<◌, ◌≤◌, ℕ, List, [], ◌∷◌, length, refl, sym, ap, subst, ◌∙◌, inl, inr, arith}
use Rattle.std.specs.Prelude.{◌≢◌, true, nat_lt, Some, Result, Ok, Err, IsSome}
use Rattle.std.proofs.lemmas.Bool.{lt-ltb}
use Rattle.det_values.specs.Values.{ProfileValue}
use Rattle.det_values.specs.declared.job_kind.JobKind.{JobKind}
use Rattle.det_io.specs.Count.{Rose}
use Rattle.det_io.specs.Shelf.{ShelfState, Asks, AsksPrefix}
use Rattle.det_io.specs.Traffic.{failure_in, IfRefused}
use Rattle.det_io.specs.declared.failure.Failure.{Failure}
use Rattle.det_io.specs.declared.failure.Failure.TheVariants as failures
use Rattle.det_io.specs.declared.failure.Stopped.{Stopped}
use Rattle.det_io.specs.declared.failure.Stopped.TheVariants.{Refused, Failed}
use Rattle.det_io.specs.declared.bounded_read.TooLong.{TooLong}
use Rattle.det_io.proofs.Counts.{rose-before}
use Rattle.det_io.proofs.Opening.{asks-all, asks-prefix-none, asks-then-prefix}
use Rattle.jobs.proofs.ByKinds.{by_kind-has}
use Rattle.manifest.specs.Values.{ManifestValue}
use Rattle.manifest.specs.Profiles.{profile_of}
use Rattle.copies.specs.declared.verdict.Verdict.{Verdict}
use Rattle.cli_answers.specs.declared.answer.BadManifest as refusals
use Rattle.cli_answers.specs.Found.{FindsBy}
use Rattle.cli_answers.specs.Outcome.{OutcomeIn, KnowsBytes, known_bytes}
use Rattle.cli_answers.specs.Slots.{KeepsSlots}
use Rattle.run_setup.specs.Setup.{setup_of}
use Rattle.twin_cli.specs.declared.twin_answer.TwinAnswer.{TwinAnswer}
use Rattle.twin_cli.specs.declared.twin_answer.TwinAnswer.TheVariants.{BadWords, LongStimulus, ReadFault, WriteFault}
use Rattle.twin_cli.specs.Answers.{failed, without_manifest, without_text}
use Rattle.twin_cli.specs.FoundVerdict.{Finds, Found}
use Rattle.twin_cli.specs.Outcome.{refusal, verdict_outcome, twin_outcome, twin_outcome_by_kind, twin_outcome_by_setup, twins_outcome}
use Rattle.twin_cli.specs.Outcome.{names_by}
use Rattle.twin_cli.specs.Words.{TwinsValue}

-- ---- of a text

module _ (twins : TwinsValue) (kind : JobKind) (profile : ProfileValue) (text : List ℕ) where
  -- the outcome of a kind's job
  abbrev wanted : OutcomeIn TwinAnswer
  wanted = twin_outcome_by_kind twins kind profile text

  -- a text that is too long
  too-long : 1048576 < length text → refusal LongStimulus ≡ wanted
  too-long long =
      let e : nat_lt 1048576 (length text) ≡ true = lt-ltb 1048576 (length text) long in
      by_kind-has (λ S G E L P m. twin_outcome twins m profile text) (λ o. refusal LongStimulus ≡ o) (λ S G E L P m. rw e refl) kind

abbrev failing : TwinAnswer → Result Verdict TwinAnswer
failing answer = Err answer

-- neither shelf nor sink failed, and the words were a command
pub record IsQuiet (result : Result Verdict TwinAnswer) : Type 0 where
  pub reads_nothing : result ≢ Err ReadFault
  pub writes_nothing : result ≢ Err WriteFault
  pub words : result ≢ Err BadWords

-- ---- no manifest or no text are no bad words

no-words : (failure : Failure) → failing (failed failure) ≢ Err BadWords
no-words failures.Read = λ e. cc
no-words failures.Write = λ e. cc
no-words failures.OutOfMemory = λ e. cc

no-manifest-words : (end : Stopped refusals.BadManifest) → failing (without_manifest end) ≢ Err BadWords
no-manifest-words (Refused why) = λ e. cc
no-manifest-words (Failed failure) = no-words failure

no-text-words : (end : Stopped TooLong) → failing (without_text end) ≢ Err BadWords
no-text-words (Refused long) = λ e. cc
no-text-words (Failed failure) = no-words failure

-- ---- of the names

module _ (twins : TwinsValue) (first : ShelfState) where
  -- what the manifest is
  abbrev setup : Result ManifestValue refusals.BadManifest
  setup = setup_of twins.options.strict (known_bytes first twins.manifest)

  -- the names that are opened by that
  abbrev names : Result ManifestValue refusals.BadManifest → List (List ℕ)
  names read = names_by twins.manifest twins.stimulus read

  -- the manifest is always among them
  is_known-manifest : (read : Result ManifestValue refusals.BadManifest) → KnowsBytes first (names read)
      → IsSome (first.holds twins.manifest)
  is_known-manifest (Ok m) t = t 0 twins.manifest (omega arith)
  is_known-manifest (Err why) t = t 0 twins.manifest (omega arith)

  -- what was asked for if only the manifest was read
  asked-manifest : (last : ShelfState) (read : Result ManifestValue refusals.BadManifest) → Asks first last (twins.manifest ∷ [])
      → AsksPrefix first last (names read)
  asked-manifest last (Ok m) asked =
      asks-then-prefix first last last (twins.manifest ∷ []) (twins.stimulus ∷ []) asked
      (asks-prefix-none last last (twins.stimulus ∷ []) refl)
  asked-manifest last (Err why) asked = asks-all first last (twins.manifest ∷ []) asked

  asked-first : (last : ShelfState) → Asks first last (twins.manifest ∷ []) → AsksPrefix first last (twins.manifest ∷ twins.stimulus ∷ [])
  asked-first last asked =
      asks-then-prefix first last last (twins.manifest ∷ []) (twins.stimulus ∷ []) asked
      (asks-prefix-none last last (twins.stimulus ∷ []) refl)

  -- what is found, if that is known
  abbrev Finding : ShelfState → Result Verdict TwinAnswer → Type 0
  Finding last result =
      FindsBy failed verdict_outcome (twins_outcome twins (known_bytes first)) (KnowsBytes first (names setup))
      (Rose first.faults last.faults) result

  -- a read failed or memory ran out
  finds-failure : (last : ShelfState) (failure : Failure) → (Some failure ≡ Some failures.Read → Rose first.faults last.faults)
      → (Some failure ≡ Some failures.Write → ⊥) → Finding last (Err (failed failure))
  finds-failure last failures.Read read write =
      record { finds = λ t. inl refl; read_fault = λ e. read refl; writes_nothing = λ e. cc }
  finds-failure last failures.Write read write = absurd (write refl)
  finds-failure last failures.OutOfMemory read write =
      record { finds = λ t. inr (inl refl); read_fault = λ e. absurd cc; writes_nothing = λ e. cc }

  -- a manifest that is refused, or couldn't be read
  finds-no-manifest : (last : ShelfState) (end : Stopped refusals.BadManifest)
      → IfRefused end (λ why. IsSome (first.holds twins.manifest) → setup ≡ Err why)
      → (failure_in {A = ManifestValue} (Err end) ≡ Some failures.Read → Rose first.faults last.faults)
      → (failure_in {A = ManifestValue} (Err end) ≡ Some failures.Write → ⊥) → Finding last (Err (without_manifest end))
  finds-no-manifest last (Refused why) bad read write = record {
    finds = λ t. inr (inr (sym (ap (λ r. twin_outcome_by_setup twins r (known_bytes first twins.stimulus)) (bad (is_known-manifest setup
        t)))));
    read_fault = λ e. absurd cc;
    writes_nothing = λ e. cc;
  }
  finds-no-manifest last (Failed failure) bad read write = finds-failure last failure read write

  pub found-no-manifest : (last : ShelfState) (end : Stopped refusals.BadManifest)
      → IfRefused end (λ why. IsSome (first.holds twins.manifest) → setup ≡ Err why)
      → (failure_in {A = ManifestValue} (Err end) ≡ Some failures.Read → Rose first.faults last.faults)
      → (failure_in {A = ManifestValue} (Err end) ≡ Some failures.Write → ⊥) → Asks first last (twins.manifest ∷ [])
      → KeepsSlots first last → Found twins first last (Err (without_manifest end))
  found-no-manifest last end bad read write asked earlier = record {
    found = finds-no-manifest last end bad read write;
    words = no-manifest-words end;
    asked = asked-first last asked;
    needed = λ t. asked-manifest last setup asked;
    earlier = earlier;
  }

  module _ (m : ManifestValue) (is : IsSome (first.holds twins.manifest) → setup ≡ Ok m) where
    -- if the manifest is known, it is this one
    is-told : KnowsBytes first (names setup) → setup ≡ Ok m
    is-told t = is (is_known-manifest setup t)

    -- so both names are opened
    is_known-stimulus : KnowsBytes first (names setup) → IsSome (first.holds twins.stimulus)
    is_known-stimulus t =
        let both : KnowsBytes first (names (Ok m)) = subst (λ r. KnowsBytes first (names r)) (is-told t) t in both 1 twins.stimulus (omega arith)

    asked-both : (last : ShelfState) → AsksPrefix first last (twins.manifest ∷ twins.stimulus ∷ []) → KnowsBytes first (names setup)
        → AsksPrefix first last (names setup)
    asked-both last asked t = subst (λ r. AsksPrefix first last (names r)) (sym (is-told t)) asked

    -- the outcome of a text
    abbrev over : List ℕ → OutcomeIn TwinAnswer
    over text = twin_outcome_by_kind twins m.kind (profile_of m 0) text

    by-told : KnowsBytes first (names setup) → over (known_bytes first twins.stimulus) ≡ twins_outcome twins (known_bytes first)
    by-told t = sym (ap (λ r. twin_outcome_by_setup twins r (known_bytes first twins.stimulus)) (is-told t))

    module _ (mid last : ShelfState) (holds : mid.holds ≡ first.holds) (asked : Asks first mid (twins.manifest ∷ []))
        (more : Asks mid last (twins.stimulus ∷ [])) (earlier : KeepsSlots first last) where
      asked-all : AsksPrefix first last (twins.manifest ∷ twins.stimulus ∷ [])
      asked-all = asks-then-prefix first mid last (twins.manifest ∷ []) (twins.stimulus ∷ []) asked
          (asks-all mid last (twins.stimulus ∷ []) more)

      -- the stimulus is still known after the manifest was read
      still-told : KnowsBytes first (names setup) → IsSome (mid.holds twins.stimulus)
      still-told t = subst (λ h. IsSome (h twins.stimulus)) (sym holds) (is_known-stimulus t)

      same-text : known_bytes mid twins.stimulus ≡ known_bytes first twins.stimulus
      same-text = ap (λ h. known_bytes (record first { holds = h }) twins.stimulus) holds

      long-told : (IsSome (mid.holds twins.stimulus) → 1048576 < length (known_bytes mid twins.stimulus))
          → KnowsBytes first (names setup) → refusal LongStimulus ≡ twins_outcome twins (known_bytes first)
      long-told long t =
          too-long twins m.kind (profile_of m 0) (known_bytes first twins.stimulus)
          (subst (λ (l : List ℕ). 1048576 < length l) same-text (long (still-told t)))
          ∙ by-told t

      -- a stimulus that is too long, or couldn't be read
      finds-no-text : (end : Stopped TooLong)
          → IfRefused end (λ _. IsSome (mid.holds twins.stimulus) → 1048576 < length (known_bytes mid twins.stimulus))
          → (failure_in {A = List ℕ} (Err end) ≡ Some failures.Read → Rose mid.faults last.faults)
          → (failure_in {A = List ℕ} (Err end) ≡ Some failures.Write → ⊥) → first.faults ≤ mid.faults
          → Finding last (Err (without_text end))
      finds-no-text (Refused long) bad read write counted =
          record { finds = λ t. inr (inr (long-told bad t)); read_fault = λ e. absurd cc; writes_nothing = λ e. cc }
      finds-no-text (Failed failure) bad read write counted =
          finds-failure last failure (λ e. rose-before first.faults mid.faults last.faults counted (read e)) write

      -- both names were opened
      found-both : (result : Result Verdict TwinAnswer) → Finding last result → result ≢ Err BadWords → Found twins first last result
      found-both result found words =
          record { found = found; words = words; asked = asked-all; needed = asked-both last asked-all; earlier = earlier }

      pub found-no-text : (end : Stopped TooLong)
          → IfRefused end (λ _. IsSome (mid.holds twins.stimulus) → 1048576 < length (known_bytes mid twins.stimulus))
          → (failure_in {A = List ℕ} (Err end) ≡ Some failures.Read → Rose mid.faults last.faults)
          → (failure_in {A = List ℕ} (Err end) ≡ Some failures.Write → ⊥) → first.faults ≤ mid.faults
          → Found twins first last (Err (without_text end))
      found-no-text end bad read write counted =
          found-both (Err (without_text end)) (finds-no-text end bad read write counted) (no-text-words end)

      finds-told : (text : List ℕ) (result : Result Verdict TwinAnswer)
          → (IsSome (mid.holds twins.stimulus) → text ≡ known_bytes mid twins.stimulus)
          → Finds result (over text) → KnowsBytes first (names setup) → Finds result (twins_outcome twins (known_bytes first))
      finds-told text result read (inl memory) t = inl memory
      finds-told text result read (inr same) t =
          inr (same ∙ ap over (read (still-told t)) ∙ ap over same-text ∙ by-told t)

      -- copies were run over the stimulus
      pub found-compared : (text : List ℕ) (result : Result Verdict TwinAnswer)
          → (IsSome (mid.holds twins.stimulus) → text ≡ known_bytes mid twins.stimulus) → Finds result (over text) → IsQuiet result
          → Found twins first last result
      found-compared text result read finds quiet = found-both result (record {
        finds = λ t. inr (finds-told text result read finds t);
        read_fault = λ e. absurd (quiet.reads_nothing e);
        writes_nothing = quiet.writes_nothing;
      }) quiet.words
