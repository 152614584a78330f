-- The run that a record's header names.
use Rattle.std.specs.Prelude.{ℕ, ◌-◌, List, length, Option, Some, None, Result, Ok, Err}
use Rattle.std.specs.Prelude.{is_none, ok_or, option_map, option_and_then, if◌then◌else◌}
use Rattle.det_values.specs.Values.{ProfileValue}
use Rattle.det_values.specs.Jobs.{kind_of_number}
use Rattle.det_values.specs.declared.job_kind.JobKind.{JobKind}
use Rattle.det_io.specs.declared.failure.Stopped.{Stopped}
use Rattle.det_io.specs.declared.failure.Stopped.TheVariants.{Refused, Failed}
use Rattle.job.specs.Meaning.{Meaning}
use Rattle.jobs.specs.Kinds.{bad_param, by_kind}
use Rattle.record_grammar.specs.declared.record_fault.RecordFault.{RecordFault}
use Rattle.record_grammar.specs.declared.record_fault.Reason.TheVariants.{Truncated}
use Rattle.record_grammar.specs.Read.{Read, Got, More, Bad}
use Rattle.record_grammar.specs.Grammar.{profile_at}
use Rattle.cli_answers.specs.declared.answer.Answer.{Answer}
use Rattle.cli_answers.specs.declared.answer.Answer.TheVariants.{BadRecord, BadProfile}
use Rattle.cli_answers.specs.Answers.{failed}
use Rattle.run_setup.specs.declared.recorded_run.bad_run.BadRun.{BadRun}
use Rattle.run_setup.specs.declared.recorded_run.bad_run.BadRun.TheVariants.{Fault, Profile}

-- a profile, and the kind of its job
pub record RunValue : Type 0 where
  pub kind : JobKind
  pub profile : ProfileValue

-- a kind, if its job refuses no parameter of a profile
abbrev pub taking : ProfileValue → JobKind → Option JobKind
taking p kind = if is_none (bad_param kind p.params (length p.events)) then Some kind else None

-- the kind with the number of a profile, if its job takes that profile
abbrev pub kind_of : ProfileValue → Option JobKind
kind_of p = option_and_then (taking p) (kind_of_number p.job)

-- by what is read of a header, in a record of this many bytes
abbrev pub run_by : ℕ → Read ProfileValue → Result RunValue BadRun
run_by len (Got (p, rest)) =
    ok_or (option_map (λ kind. record { kind = kind; profile = p }) (kind_of p)) Profile
run_by len More = Err (Fault (record { offset = len; reason = Truncated }))
run_by len (Bad reason left) = Err (Fault (record { offset = len - left; reason = reason }))

-- The run that the header of a record names: its profile, with the job that takes it. Or why there
-- is none: a fault before the header is whole, or no job that takes the profile.
abbrev pub run_of : List ℕ → Result RunValue BadRun
run_of record_bytes = run_by (length record_bytes) (profile_at record_bytes)

-- why a record without a whole header has no run
abbrev pub as_bad_run : Stopped RecordFault → Stopped BadRun
as_bad_run (Refused fault) = Refused (Fault fault)
as_bad_run (Failed failure) = Failed failure

-- why a refused run is missing, as the answer of a command
abbrev pub refused : BadRun → Answer
refused (Fault fault) = BadRecord 0 fault
refused Profile = BadProfile

-- what the run of a record gives, by its job and its profile, or by why there is none
abbrev pub over_run : {A : Type 0}
    → ((S G E L P : Type 0) → Meaning S G E L P → ProfileValue → A) → (BadRun → A)
    → Result RunValue BadRun → A
over_run given otherwise (Ok run) = by_kind (λ S G E L P m. given S G E L P m run.profile) run.kind
over_run given otherwise (Err why) = otherwise why

-- the answer of a command without a run
abbrev pub bad_run_answer : Stopped BadRun → Answer
bad_run_answer (Refused why) = refused why
bad_run_answer (Failed failure) = failed failure
