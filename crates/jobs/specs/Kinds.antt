-- The shipped jobs by their kinds.
use Rattle.std.specs.Prelude.{ℕ, ℤ, List, Option}
use Rattle.det_values.specs.declared.job_kind.JobKind.{JobKind}
use Rattle.det_values.specs.declared.job_kind.JobKind.TheVariants.{Bank, Cloud, Guard}
use Rattle.job.specs.Meaning.{Meaning}
use Rattle.jobs.specs.bank.Meaning as bank
use Rattle.jobs.specs.cloud.Meaning as cloud
use Rattle.jobs.specs.guard.Meaning as guard

-- a function of all meanings, applied to the job of a kind
abbrev pub by_kind : {A : Type 0} → ((S G E L P : Type 0) → Meaning S G E L P → A) → JobKind → A
by_kind f Bank = f _ _ _ _ _ bank.meaning
by_kind f Cloud = f _ _ _ _ _ cloud.meaning
by_kind f Guard = f _ _ _ _ _ guard.meaning

-- a fact about all meanings, applied to the job of a kind
abbrev pub of_kind : ((S G E L P : Type 0) → Meaning S G E L P → Type 0) → JobKind → Type 0
of_kind f Bank = f _ _ _ _ _ bank.meaning
of_kind f Cloud = f _ _ _ _ _ cloud.meaning
of_kind f Guard = f _ _ _ _ _ guard.meaning

-- the least parameter that the job of a kind refuses, given the number of events
abbrev pub bad_param : JobKind → List ℤ → ℕ → Option ℕ
bad_param kind params events = by_kind (λ S G E L P m. m.bad_param params events) kind
