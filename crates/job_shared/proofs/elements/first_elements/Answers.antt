use Rattle.job_shared.proofs.Made.{made_more}
use Rattle.job_shared.proofs.elements.first_elements.Goals as goal

pub loop-number-preserved : goal.loop-number-preserved
loop-number-preserved g c = record {
  so_far = made_more (g.E.FirstElement.first c.args.job.now) c.loop-number.number c.loop-number.elements c.push.new.self
      c.first_element.result c.loop-number.invariant.so_far c.first_element.ensures c.in_ok-push.ensures.ok;
}
