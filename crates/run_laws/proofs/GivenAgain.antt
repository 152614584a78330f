-- The records of `record` and of `demo` are given again by `replay`.
use Rattle.std.proofs.Common.{Result, refl, sym, subst}
use Rattle.std.specs.Option.{unwrap_or}
use Rattle.det_values.specs.Values.{ProfileValue}
use Rattle.det_values.specs.declared.job_kind.JobKind.TheVariants.{Bank}
use Rattle.manifest.specs.Values.{ManifestValue}
use Rattle.manifest.specs.Profiles.{profile_of}
use Rattle.cli_answers.specs.declared.answer.BadManifest.{BadManifest}
use Rattle.manifest.specs.Meaning.{manifest_of}
use Rattle.cmd_run.specs.record_command.Outcomes.{demo_profile, demo_outcome}
use Rattle.cmd_run.proofs.lemmas.record_command.ByManifest.{recorded_by}
use Rattle.run_laws.specs.Statements.{frames_by_kind, IsRecordRead, IsRecordReplayed, RecordIsReplayed, DemoIsReplayed}
use Rattle.run_laws.proofs.Commands.{is_taken, record_read, demo_read}
use Rattle.run_laws.proofs.Replayed.{kind_is_replayed}

pub record_is_replayed : RecordIsReplayed
record_is_replayed strict manifest stimulus seed m small set =
    let taken = is_taken (manifest_of strict manifest) m set in
    let profile : ProfileValue = profile_of m (unwrap_or seed 0) in
    let Reads : Result ManifestValue BadManifest → Type 0 =
    λ r. IsRecordRead profile (frames_by_kind m.kind profile) stimulus (recorded_by (unwrap_or seed 0) stimulus r).bytes in
    let Again : Result ManifestValue BadManifest → Type 0 =
    λ r. IsRecordReplayed profile stimulus (recorded_by (unwrap_or seed 0) stimulus r).bytes in
    let read = subst Reads set (record_read strict manifest stimulus seed m small set) in
    subst Again (sym set) (kind_is_replayed m.kind profile stimulus (record { number = refl; good = taken.good }) read)

pub demo_is_replayed : DemoIsReplayed
unfolding demo_outcome
demo_is_replayed stimulus = kind_is_replayed Bank demo_profile stimulus (record { number = refl; good = refl }) (demo_read stimulus)
