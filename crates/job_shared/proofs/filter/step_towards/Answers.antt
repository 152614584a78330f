use Rattle.std.proofs.Common.{sym, subst}
use Rattle.det_values.specs.Limits.{IsSampleValue}
use Rattle.job_shared.proofs.Moves.{towards_computed, towards_in_range}
use Rattle.job_shared.proofs.filter.step_towards.Goals as goal

pub returns-clause-step : goal.returns-clause-step
returns-clause-step c = towards_computed c.args.value c.args.target c.args.shift c.requires.value c.requires.target

pub returns-clause-limits : goal.returns-clause-limits
returns-clause-limits c =
    subst IsSampleValue (sym (towards_computed c.args.value c.args.target c.args.shift c.requires.value c.requires.target))
    (towards_in_range c.args.value c.args.target c.args.shift c.requires.value c.requires.target)
