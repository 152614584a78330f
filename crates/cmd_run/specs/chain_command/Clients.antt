-- What `chain` gives for its two clients.
use Rattle.std.specs.Prelude.{ℕ, List, Result}
use Rattle.det_values.specs.Values.{ProfileValue}
use Rattle.det_values.specs.declared.job_kind.JobKind.{JobKind}
use Rattle.jobs.specs.Kinds.{by_kind}
use Rattle.manifest.specs.Values.{ManifestValue}
use Rattle.manifest.specs.Profiles.{profile_of}
use Rattle.cli_answers.specs.declared.answer.BadManifest.{BadManifest}
use Rattle.cli_answers.specs.Outcome.{Outcome}
use Rattle.run_setup.specs.Setup.{with_manifest}
use Rattle.cmd_run.specs.chain_command.Chain.{chained}

-- a client: the kind of its job, and its profile
pub record Client : Type 0 where
  pub kind : JobKind
  pub profile : ProfileValue

-- the client of a manifest
abbrev pub client_of : ℕ → ManifestValue → Client
client_of seed m = record { kind = m.kind; profile = profile_of m seed }

-- the second client's record of a text, by the kinds of the two jobs
abbrev pub chained_by_kinds : (first second : Client) → List ℕ → Outcome
chained_by_kinds first second text =
    by_kind (λ S G E L P m. by_kind (λ T H F M Q n.
    chained m first.profile n second.profile text) second.kind) first.kind

-- after a first client: what the second manifest gives over a stimulus, or its refusal
abbrev pub chained_second : ℕ → Client → List ℕ → Result ManifestValue BadManifest → Outcome
chained_second seed first stimulus =
    with_manifest (λ m. chained_by_kinds first (client_of seed m) stimulus)

-- the first manifest is checked before the second
abbrev pub chained_from : ℕ → List ℕ → (first second : Result ManifestValue BadManifest) → Outcome
chained_from seed stimulus first second =
    with_manifest (λ m. chained_second seed (client_of seed m) stimulus second) first
