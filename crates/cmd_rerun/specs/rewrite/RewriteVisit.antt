-- What `replay` and `upgrade` give for the bytes of a record, and what rewriting by a crew
-- requires.
use Rattle.std.specs.Prelude.{◌≡◌, ℕ, List, Bool, true, false}
use Rattle.det_values.specs.Values.{ProfileValue}
use Rattle.det_values.specs.declared.job_kind.JobKind.{JobKind}
use Rattle.det_io.specs.Shelf.{ShelfState}
use Rattle.job.specs.Meaning.{Meaning}
use Rattle.jobs.specs.Kinds.{by_kind}
use Rattle.record_reader.specs.Frames.{IsOpen}
use Rattle.rerun.specs.declared.upgrader.original.Original.{Original}
use Rattle.rerun.specs.upgrader.UpgradeStart.{header_of}
use Rattle.rerun.specs.upgrader.UpgradedRecord.{in_format_two}
use Rattle.cli_answers.specs.Ends.{Work, reruns_records}
use Rattle.cli_answers.specs.Outcome.{Outcome, refusal}
use Rattle.run_setup.specs.recorded_run.Run.{run_of, over_run, refused}
use Rattle.cmd_rerun.specs.declared.rewrite.rewriter.Rewrite.{Rewrite}
use Rattle.cmd_rerun.specs.declared.rewrite.rewriter.Rewrite.TheVariants.{Replay, Upgrade}
use Rattle.cmd_rerun.specs.replay_command.Replay.{replayed_with}
use Rattle.cmd_rerun.specs.upgrade_command.Upgrade.{upgraded_with}

-- ---- the outcome

abbrev pub outcome_with : {S G E L P : Type 0} → Rewrite → Meaning S G E L P → ProfileValue
    → List ℕ → Outcome
outcome_with Replay m profile record_bytes = replayed_with m profile record_bytes
outcome_with Upgrade m profile record_bytes = upgraded_with m profile record_bytes

-- with the run that the header of the record names, or why it names none
abbrev pub rewrite_outcome : Rewrite → List ℕ → Outcome
rewrite_outcome rewrite record_bytes =
    over_run (λ S G E L P m profile. outcome_with rewrite m profile record_bytes)
    (λ why. refusal (refused why)) (run_of record_bytes)

-- with the job of a kind
abbrev pub rewritten : Rewrite → JobKind → ProfileValue → List ℕ → Outcome
rewritten rewrite kind profile record_bytes =
    by_kind (λ S G E L P m. outcome_with rewrite m profile record_bytes) kind

-- an upgrade compares the record with the run
abbrev pub compares : Rewrite → Bool
compares Replay = false
compares Upgrade = true

abbrev pub work_of : Rewrite → Work
work_of rewrite = record reruns_records { compares = compares rewrite }

-- ---- the visit

-- the profile of the run that is written, by that of the record that is read
abbrev pub profile_of_run : Rewrite → ProfileValue → ProfileValue
profile_of_run Replay original = original
profile_of_run Upgrade original = in_format_two original

-- the header of the record that is read, by the profile of the run
abbrev pub header_by : Rewrite → Original → ProfileValue → ProfileValue
header_by Replay original profile = profile
header_by Upgrade original profile = header_of original profile

-- the run has the profile of the record that is written; of the record that is read only the header
-- was read
pub record CanRewrite (rewrite : Rewrite) (original : Original) (profile : ProfileValue)
    (shelf : ShelfState) : Type 0 where
  pub same : profile ≡ profile_of_run rewrite profile
  pub opened : IsOpen original.frames (header_by rewrite original profile) shelf
