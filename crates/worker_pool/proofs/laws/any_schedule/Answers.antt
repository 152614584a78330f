use Rattle.worker_pool.proofs.Gathered.{any_run}
use Rattle.worker_pool.proofs.laws.any_schedule.Goals as goal

pub returns : goal.returns
returns g c job plan carry seed cycle pass elements events end =
    let laws = g.met.J.Job.laws in
    any_run g.J.Job.meaning job plan carry seed cycle pass (laws.assoc job) (laws.left_unit job) (laws.right_unit job) elements events end
