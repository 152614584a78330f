-- What the run of a shipped job requires.
use Rattle.std.specs.Prelude.{◌≡◌, length, None}
use Rattle.det_values.specs.Values.{ProfileValue}
use Rattle.det_values.specs.declared.job_kind.JobKind.{JobKind}
use Rattle.jobs.specs.Kinds.{bad_param}

-- the job of the kind refuses no parameter of the profile
abbrev pub IsGoodRun : JobKind → ProfileValue → Type 0
IsGoodRun kind profile = bad_param kind profile.params (length profile.events) ≡ None
