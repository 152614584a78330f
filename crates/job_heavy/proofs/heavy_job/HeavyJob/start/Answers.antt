use Rattle.job_heavy.specs.Laws.{own_all_first}
use Rattle.job_heavy.proofs.heavy_job.HeavyJob.start.Goals as goal

pub returns-clause-own : goal.returns-clause-own
returns-clause-own c = own_all_first c.args.self.now _ c.in_ok-first_elements.ensures.elements
