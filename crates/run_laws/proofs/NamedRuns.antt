-- What commands give by the run that a record's header names.
use Rattle.std.specs.Prelude.{ℕ, List, Option, Result, ok_or, option_map}
use Rattle.det_values.specs.Values.{ProfileValue}
use Rattle.det_values.specs.declared.job_kind.JobKind.{JobKind}
use Rattle.probes.specs.Reports.{AudienceState}
use Rattle.cli_answers.specs.Outcome.{Outcome, refusal}
use Rattle.run_setup.specs.declared.recorded_run.bad_run.BadRun.{BadRun}
use Rattle.run_setup.specs.declared.recorded_run.bad_run.BadRun.TheVariants.{Profile}
use Rattle.run_setup.specs.recorded_run.Run.{RunValue, over_run, refused}
use Rattle.cmd_rerun.specs.replay_command.Replay.{replayed_with}
use Rattle.cmd_rerun.specs.check_command.Check.{checked_with}
use Rattle.cmd_rerun.specs.upgrade_command.Upgrade.{upgraded_with}

-- a profile with the kind that takes it
abbrev pub run_with : Option JobKind → ProfileValue → Result RunValue BadRun
run_with kind p = ok_or (option_map (λ (k : JobKind). record { kind = k; profile = p }) kind) Profile

abbrev pub replayed_by : List ℕ → Result RunValue BadRun → Outcome
replayed_by record_bytes named =
    over_run (λ S G E L P m profile. replayed_with m profile record_bytes) (λ why. refusal (refused why)) named

abbrev pub checked_by : AudienceState → List ℕ → Result RunValue BadRun → Outcome
checked_by audience record_bytes named =
    over_run (λ S G E L P m profile. checked_with m profile audience record_bytes) (λ why. refusal (refused why)) named

abbrev pub upgraded_by : List ℕ → Result RunValue BadRun → Outcome
upgraded_by record_bytes named =
    over_run (λ S G E L P m profile. upgraded_with m profile record_bytes) (λ why. refusal (refused why)) named
