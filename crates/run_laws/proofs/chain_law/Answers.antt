use Rattle.std.proofs.Common.{refl}
use Rattle.det_values.specs.declared.job_kind.JobKind.TheVariants.{Bank, Cloud, Guard}
use Rattle.run_laws.specs.Chains.{FirstIsRecorded}
use Rattle.run_laws.proofs.Chained.{chain_is_read}
use Rattle.run_laws.proofs.chain_law.Goals as goal

first-is-recorded : FirstIsRecorded
first-is-recorded Bank profile stimulus = refl
first-is-recorded Cloud profile stimulus = refl
first-is-recorded Guard profile stimulus = refl

pub returns-clause-first : goal.returns-clause-first
returns-clause-first c = first-is-recorded

pub returns-clause-second : goal.returns-clause-second
returns-clause-second c = chain_is_read
