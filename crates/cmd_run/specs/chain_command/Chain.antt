-- What `chain` gives for two manifests and a stimulus.
use Rattle.std.specs.Prelude.{ℕ, Bool, List, [], ◌∷◌, length, Option, Result, Ok, Err}
use Rattle.std.specs.Option.{unwrap_or}
use Rattle.det_values.specs.Values.{ProfileValue}
use Rattle.det_io.specs.Shelf.{ShelfState}
use Rattle.job.specs.Meaning.{Meaning}
use Rattle.jobs.specs.Kinds.{by_kind}
use Rattle.stimulus.specs.Reading.{ending}
use Rattle.cmd_run.specs.chain.SecondClient.{second_of}
use Rattle.manifest.specs.Values.{ManifestValue}
use Rattle.manifest.specs.Profiles.{profile_of}
use Rattle.cli_answers.specs.declared.answer.BadManifest.{BadManifest}
use Rattle.cli_answers.specs.Outcome.{Outcome, known_bytes}
use Rattle.run_setup.specs.Setup.{setup_of, with_manifest}
use Rattle.cmd_run.specs.record_command.Outcomes.{answer_to, record_names}

-- the second client's record of a text, also if a bad line ends it
abbrev pub chained : {S G E L P : Type 0} → Meaning S G E L P → ProfileValue → {T H F M Q : Type 0}
    → Meaning T H F M Q → ProfileValue → List ℕ → Outcome
chained m first n second text = record {
  answer = answer_to (ending (length first.events) text);
  bytes = second_of m first n second text;
}

-- the clients of two manifests, by the kinds of their jobs
abbrev pub chained_by : ℕ → List ℕ → (first second : ManifestValue) → Outcome
chained_by seed stimulus first second = by_kind (λ S G E L P m. by_kind (λ T H F M Q n.
    chained m (profile_of first seed) n (profile_of second seed) stimulus) second.kind) first.kind

-- the names that `chain` opens: none after a manifest that is refused
abbrev pub chain_names : (first second stimulus : List ℕ)
    → (judged other : Result ManifestValue BadManifest) → List (List ℕ)
chain_names first second stimulus (Ok m) other = first ∷ record_names second stimulus other
chain_names first second stimulus (Err why) other = first ∷ []

-- the same, by what a shelf knows
abbrev pub chain_opens : ShelfState → (strict : Bool) (first second stimulus : List ℕ)
    → List (List ℕ)
chain_opens shelf strict first second stimulus = chain_names first second stimulus
    (setup_of strict (known_bytes shelf first)) (setup_of strict (known_bytes shelf second))

-- What `chain` gives for two manifests and a stimulus, with seed 0 if there is none. The first
-- manifest is checked before the second.
abbrev pub chain_outcome : (strict : Bool) (first second stimulus : List ℕ) → Option ℕ → Outcome
chain_outcome strict first second stimulus seed =
    with_manifest (λ m. with_manifest (chained_by (unwrap_or seed 0) stimulus m)
    (setup_of strict second)) (setup_of strict first)
