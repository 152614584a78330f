-- What the second client of a chain is given, and what its record is read as.
use Rattle.std.specs.Prelude.{◌≡◌, ℕ, ◌^◌, ◌<◌, List, length, Bool, Option, Ok}
use Rattle.std.specs.Option.{unwrap_or}
use Rattle.det_values.specs.Values.{ProfileValue}
use Rattle.det_values.specs.declared.frames.CycleInput.{CycleInput}
use Rattle.det_values.specs.declared.frames.Frame.{Frame}
use Rattle.det_values.specs.declared.job_kind.JobKind.{JobKind}
use Rattle.jobs.specs.Kinds.{by_kind}
use Rattle.stimulus.specs.Reading.{blocks, ending}
use Rattle.recorder.specs.Record.{is_terminated, record_of}
use Rattle.cmd_run.specs.chain.OutputSamples.{derived}
use Rattle.manifest.specs.Values.{ManifestValue}
use Rattle.run_setup.specs.Setup.{setup_of}
use Rattle.cmd_run.specs.record_command.Outcomes.{recorded_by_kind}
use Rattle.cmd_run.specs.chain_command.Chain.{chain_outcome}
use Rattle.cmd_run.specs.chain_command.Clients.{Client, client_of}
use Rattle.probes.specs.Reports.{AudienceState}
use Rattle.cmd_rerun.specs.check_command.Check.{check_outcome}
use Rattle.run_laws.specs.Statements.{frames_by_kind, fault_if, IsRunRead}
use Rattle.run_laws.specs.Checks.{checked_of}

-- The record of a chain's first client is the one that `record` writes for the same profile and
-- stimulus.
abbrev pub FirstIsRecorded : Type 0
FirstIsRecorded = (kind : JobKind) (profile : ProfileValue) (stimulus : List ℕ)
    → by_kind (λ S G E L P m. record_of m profile stimulus) kind
    ≡ (recorded_by_kind kind profile stimulus).bytes

-- ---- the second client

-- the inputs of the second client, if the first one was given these
abbrev pub passed_on : (first second : Client) → List CycleInput → List CycleInput
passed_on first second inputs = by_kind (λ S G E L P m.
    derived m first.profile inputs (length second.profile.events)) first.kind

-- the frames of the second client's run, if the first one was given these inputs
abbrev pub second_frames : (first second : Client) → List CycleInput → Bool → List Frame
second_frames first second inputs ended =
    frames_by_kind second.kind second.profile (passed_on first second inputs) ended

-- Bytes are read as the second client's profile and those frames, and as nothing else. `check` says
-- of them what it says of that run.
pub record IsSecond (first second : Client) (inputs : List CycleInput) (ended : Bool)
    (bytes : List ℕ) : Type 0 where
  pub read : IsRunRead second.profile (second_frames first second inputs ended) ended bytes
  pub checked : (audience : AudienceState) → check_outcome audience bytes
      ≡ checked_of audience (second_frames first second inputs ended) (fault_if ended bytes)

-- the same over the blocks of a stimulus of the first client, ended where the stimulus is
abbrev pub IsChainRead : (first second : Client) → (stimulus bytes : List ℕ) → Type 0
IsChainRead first second stimulus bytes =
    IsSecond first second (blocks (length first.profile.events) stimulus)
    (is_terminated (ending (length first.profile.events) stimulus)) bytes

-- the same for what `chain` writes, if both manifests are accepted
abbrev pub ChainIsRead : Type 0
ChainIsRead =
    (strict : Bool) (first second stimulus : List ℕ) (seed : Option ℕ) (m n : ManifestValue)
    → unwrap_or seed 0 < 2 ^ 64 → setup_of strict first ≡ Ok m → setup_of strict second ≡ Ok n
    → IsChainRead (client_of (unwrap_or seed 0) m) (client_of (unwrap_or seed 0) n) stimulus
    (chain_outcome strict first second stimulus seed).bytes
