use Rattle.std.proofs.Common.{rules, ◌≡◌, sym, subst}
use Rattle.std.specs.Arc.{arc_value}
use Rattle.worker_pool.specs.Messages.{IsTask}
use Rattle.worker_pool.proofs.link.give.Goals as goal

pub push-requires : goal.push-requires
push-requires g c =
    let j = g.J.Job in
    let theirs : arc_value c.in-Ok.theirs ≡ arc_value c.args.task.now = search rules in record {
      same = search rules;
      task = subst (λ t. IsTask j.meaning j.Covers j.Own j.Fit t) (sym theirs) c.requires.task;
      here = search rules;
      new = search rules;
    }
