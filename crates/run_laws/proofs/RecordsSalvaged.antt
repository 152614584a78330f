-- What is salvaged of the records of `record` and of `demo`.
use Rattle.std.proofs.Common.{◌≡◌, ℕ, List, [], ◌∷◌, ◌++◌, length, map, Bool, true, false, Some, refl, sym, ap, subst, ◌∙◌}
use Rattle.std.proofs.Common.{Option, Result}
use Rattle.std.specs.List.{flat_map}
use Rattle.std.specs.Option.{unwrap_or}
use Rattle.det_values.specs.Values.{ProfileValue}
use Rattle.det_values.specs.declared.frames.CycleInput.{CycleInput}
use Rattle.det_values.specs.declared.frames.RunFrame.{RunFrame}
use Rattle.det_values.specs.declared.frames.Frame.{Frame}
use Rattle.det_values.specs.declared.frames.Frame.TheVariants.{Register, Discover, Init, Run, Terminate}
use Rattle.det_values.specs.declared.job_kind.JobKind.{JobKind}
use Rattle.det_values.specs.declared.job_kind.JobKind.TheVariants.{Bank, Cloud, Guard}
use Rattle.job.specs.Meaning.{Meaning}
use Rattle.jobs.specs.bank.Meaning as bank
use Rattle.jobs.specs.cloud.Meaning as cloud
use Rattle.jobs.specs.guard.Meaning as guard
use Rattle.cycle_engine.specs.Frames.{frames, init_of, runs}
use Rattle.record_grammar.specs.declared.item.Item.TheVariants as items
use Rattle.record_grammar.specs.Record.{fault as fault_in}
use Rattle.record_grammar.specs.Spelling.{spelled}
use Rattle.record_reader.specs.Salvaged.{kept, salvaged_from, salvaged}
use Rattle.recorder.specs.run_writer.Record.{record_with}
use Rattle.stimulus.specs.Reading.{blocks, ending}
use Rattle.recorder.specs.Record.{is_terminated, record_of}
use Rattle.manifest.specs.Values.{ManifestValue}
use Rattle.manifest.specs.Profiles.{profile_of}
use Rattle.cli_answers.specs.declared.answer.BadManifest.{BadManifest}
use Rattle.cmd_run.specs.record_command.Outcomes.{demo_profile, demo_outcome, recorded_by_kind}
use Rattle.cmd_run.proofs.lemmas.record_command.ByManifest.{recorded_by}
use Rattle.cmd_records.specs.salvage_command.Salvage.{outcome_by}
use Rattle.run_laws.specs.Statements.{frames_by_kind, IsRunRead, IsRecordRead}
use Rattle.run_laws.specs.Salvages.{IsRecordSalvaged, RecordIsSalvaged, DemoIsSalvaged}
use Rattle.run_laws.proofs.Commands.{record_read, demo_read}
use Rattle.run_laws.proofs.Salvaged.{all_kept, init_is_enough, whole_is_kept}

-- frames before the end are kept
all_before : (rs : List RunFrame) → flat_map kept (map items.Frame (map (λ run. Run run) rs ++ [])) ++ Terminate ∷ []
    ≡ map (λ run. Run run) rs ++ Terminate ∷ []
all_before [] = refl
all_before (r ∷ rs) = ap (λ (fs : List Frame). Run r ∷ fs) (all_before rs)

module _ {S G E L P : Type 0} (m : Meaning S G E L P) (profile : ProfileValue) where
  abbrev from_init : List Frame → List ℕ
  from_init behind = spelled profile (Register ∷ Discover ∷ Init (init_of m profile) ∷ behind)

  run_salvaged : (given : List CycleInput) (ended : Bool) (bytes : List ℕ)
      → IsRunRead profile (frames m profile given ended) ended bytes
      → salvaged bytes ≡ Some (spelled profile (frames m profile given true))
  run_salvaged given true bytes read =
      ap salvaged_from read.items ∙ ap (λ (fs : List Frame). Some (from_init fs)) (all_kept (runs m profile given))
  run_salvaged given false bytes read =
      ap salvaged_from read.items ∙ ap (λ (fs : List Frame). Some (from_init fs)) (all_before (runs m profile given))

  record_salvaged : (stimulus : List ℕ) → IsRecordRead profile (frames m profile) stimulus (record_of m profile stimulus)
      → IsRecordSalvaged profile (frames m profile) stimulus (record_of m profile stimulus)
  unfolding record_with
  record_salvaged stimulus read =
      let given : List CycleInput = blocks (length profile.events) stimulus in
      let end : Bool = is_terminated (ending (length profile.events) stimulus) in
      let bytes : List ℕ = record_of m profile stimulus in
      let saved = ap (λ (o : Option (List ℕ)). outcome_by o (fault_in bytes)) (run_salvaged given end bytes read) in
      record {
        ended = saved;
        same = λ e. saved ∙ ap (λ (b : Bool). outcome_by (Some (spelled profile (frames m profile given b))) (fault_in bytes)) (sym e);
      }

-- by the kind of the job
kind_is_salvaged : (kind : JobKind) (profile : ProfileValue) (stimulus : List ℕ)
    → IsRecordRead profile (frames_by_kind kind profile) stimulus (recorded_by_kind kind profile stimulus).bytes
    → IsRecordSalvaged profile (frames_by_kind kind profile) stimulus (recorded_by_kind kind profile stimulus).bytes
kind_is_salvaged Bank profile stimulus read = record_salvaged bank.meaning profile stimulus read
kind_is_salvaged Cloud profile stimulus read = record_salvaged cloud.meaning profile stimulus read
kind_is_salvaged Guard profile stimulus read = record_salvaged guard.meaning profile stimulus read

pub record_is_salvaged : RecordIsSalvaged
record_is_salvaged strict manifest stimulus seed m small set =
    let profile : ProfileValue = profile_of m (unwrap_or seed 0) in
    let Reads : Result ManifestValue BadManifest → Type 0 =
    λ r. IsRecordRead profile (frames_by_kind m.kind profile) stimulus (recorded_by (unwrap_or seed 0) stimulus r).bytes in
    let Salvaged : Result ManifestValue BadManifest → Type 0 =
    λ r. IsRecordSalvaged profile (frames_by_kind m.kind profile) stimulus (recorded_by (unwrap_or seed 0) stimulus r).bytes in
    let read = subst Reads set (record_read strict manifest stimulus seed m small set) in
    subst Salvaged (sym set) (kind_is_salvaged m.kind profile stimulus read)

pub demo_is_salvaged : DemoIsSalvaged
unfolding demo_outcome
demo_is_salvaged stimulus = kind_is_salvaged Bank demo_profile stimulus (demo_read stimulus)

-- what the law of `salvage` states, apart from its longest two clauses
pub ruleset salvages = (init_is_enough, whole_is_kept, demo_is_salvaged)
