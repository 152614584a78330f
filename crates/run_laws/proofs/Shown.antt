-- What is read of a record is what is printed of it.
use Rattle.std.proofs.Common.{◌≡◌, ℕ, Bool, List}
use Rattle.std.specs.Option.{unwrap_or}
use Rattle.det_values.specs.Values.{ProfileValue}
use Rattle.det_values.specs.declared.frames.CycleInput.{CycleInput}
use Rattle.det_values.specs.declared.frames.Frame.{Frame}
use Rattle.cmd_records.specs.declared.record_show.show_form.ShowForm.{ShowForm}
use Rattle.cmd_records.specs.record_show.Text.{text_from}
use Rattle.probes.specs.Reports.{AudienceState}
use Rattle.cli_answers.specs.Answers.{by_fault}
use Rattle.cmd_records.specs.show_command.Show.{show_outcome}
use Rattle.jobs.specs.bank.Meaning as bank
use Rattle.cycle_engine.specs.Frames.{frames}
use Rattle.manifest.specs.Profiles.{profile_of}
use Rattle.cmd_run.specs.record_command.Outcomes.{demo_profile, demo_outcome, record_outcome}
use Rattle.run_laws.specs.Statements.{IsRunRead, IsRecordRead, IsRecordShown, RecordIsShown, DemoIsShown, shown_of, fault_if}
use Rattle.run_laws.specs.Statements.{frames_by_kind}
use Rattle.run_laws.proofs.Commands.{record_read, demo_read}

run_shown : (form : ShowForm) (audience : AudienceState) (profile : ProfileValue) (run : List Frame) (ended : Bool) (bytes : List ℕ)
    → IsRunRead profile run ended bytes → show_outcome form audience bytes ≡ shown_of form audience profile run (fault_if ended bytes)
run_shown form audience profile run ended bytes h = λ i. record {
  answer = by_fault (h.fault i);
  bytes = text_from form audience (h.items i) (h.fault i);
}

record_shown : (profile : ProfileValue) (run : List CycleInput → Bool → List Frame) (stimulus bytes : List ℕ)
    → IsRecordRead profile run stimulus bytes → IsRecordShown profile run stimulus bytes
record_shown profile run stimulus bytes h = λ form audience. run_shown form audience profile _ _ bytes h

pub record_is_shown : RecordIsShown
record_is_shown strict manifest stimulus seed m small set =
    let profile : ProfileValue = profile_of m (unwrap_or seed 0) in
    record_shown profile (frames_by_kind m.kind profile) stimulus (record_outcome strict manifest stimulus seed).bytes
    (record_read strict manifest stimulus seed m small set)

pub demo_is_shown : DemoIsShown
demo_is_shown stimulus =
    record_shown demo_profile (frames bank.meaning demo_profile) stimulus (demo_outcome stimulus).bytes (demo_read stimulus)
