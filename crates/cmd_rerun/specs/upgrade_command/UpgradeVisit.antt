-- What `upgrade` gives with the job of a kind.
use Rattle.std.specs.Prelude.{ℕ, List}
use Rattle.det_values.specs.Values.{ProfileValue}
use Rattle.det_values.specs.declared.job_kind.JobKind.{JobKind}
use Rattle.jobs.specs.Kinds.{by_kind}
use Rattle.cli_answers.specs.Outcome.{Outcome}
use Rattle.cmd_rerun.specs.upgrade_command.Upgrade.{upgraded_with}

-- what the bytes of a record give with the job of a kind
abbrev pub upgraded_by_kind : JobKind → ProfileValue → List ℕ → Outcome
upgraded_by_kind kind profile record_bytes =
    by_kind (λ S G E L P m. upgraded_with m profile record_bytes) kind
