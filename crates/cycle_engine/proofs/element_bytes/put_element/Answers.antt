use Rattle.std.proofs.Common.{◌-◌, ap, rules}
use Rattle.cycle_engine.proofs.ElementBytes.{put-is}
use Rattle.cycle_engine.proofs.element_bytes.put_element.Goals as goal

pub returns : goal.returns
returns g c =
    put-is c.args.out.now.items c.extend_from_slice.new.self.items c.put_element.new.out.items c.fill_u16.new.out.items
    (g.J.Job.meaning.shown c.args.job.now c.args.element.now) c.len-at.result _ (search (rules, c.len-at.ensures))
    c.in_ok-extend_from_slice.ensures.items c.in_ok-put_element.ensures.ok
    (ap (λ n. n - c.len-at.result - 2) (search (rules, c.len.ensures))) c.fill_u16.ensures.items
