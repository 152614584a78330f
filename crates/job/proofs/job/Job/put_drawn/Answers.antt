use Rattle.std.proofs.Common.{◌-◌, ap, arith, rules}
use Rattle.det_values.specs.Spelling.{spelled_u32}
use Rattle.job.proofs.Putting.{put_is, put_few}
use Rattle.job.proofs.job.Job.put_drawn.Goals as goal

pub returns-in_err-extend_from_slice-2-clause-full : goal.returns-in_err-extend_from_slice-2-clause-full
returns-in_err-extend_from_slice-2-clause-full g c =
    let few = put_few c.args.out.now.items c.extend_from_slice.new.self.items c.put_element.new.out.items c.fill_u16.new.out.items
    (g.Self.Job.meaning.shown c.args.self.now c.args.element.now) c.len-at.result _ (search (rules, c.len-at.ensures))
    c.in_ok-extend_from_slice.ensures.items c.in_ok-put_element.ensures.ok
    (ap (λ n. n - c.len-at.result - 2) (search (rules, c.len.ensures))) c.fill_u16.ensures.items c.in_ok-put_element.ensures.short in
    search (
      rules,
      arith,
      few,
      c.extend_from_slice.ensures.capacity,
      c.put_element.ensures.room,
      c.fill_u16.ensures.room,
      c.in_err-extend_from_slice-2.ensures.full,
    )

pub returns-clause-ok : goal.returns-clause-ok
unfolding spelled_u32
returns-clause-ok g c =
    put_is c.args.out.now.items c.extend_from_slice.new.self.items c.put_element.new.out.items c.fill_u16.new.out.items
    c.extend_from_slice-2.new.self.items (g.Self.Job.meaning.shown c.args.self.now c.args.element.now) c.len-at.result _ c.args.draws
    (search (rules, c.len-at.ensures)) c.in_ok-extend_from_slice.ensures.items c.in_ok-put_element.ensures.ok
    (ap (λ n. n - c.len-at.result - 2) (search (rules, c.len.ensures))) c.fill_u16.ensures.items
    (search (rules, c.in_ok-extend_from_slice-2.ensures.items, c.to_be_bytes.ensures))
