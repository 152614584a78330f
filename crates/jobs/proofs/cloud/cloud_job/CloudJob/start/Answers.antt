use Rattle.jobs.specs.cloud.Laws.{own_all_first}
use Rattle.jobs.proofs.cloud.cloud_job.CloudJob.start.Goals as goal

pub returns-clause-own : goal.returns-clause-own
returns-clause-own c = own_all_first c.args.self.now _ c.in_ok-first_elements.ensures.elements
