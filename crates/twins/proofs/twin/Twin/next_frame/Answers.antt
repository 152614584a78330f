use Rattle.std.proofs.Common.{refl, arith}
use Rattle.std.proofs.lemmas.Grind.{common_steps}
use Rattle.twins.proofs.Made.{end-frame}
use Rattle.twins.proofs.twin.Twin.next_frame.Goals as goal

pub returns : goal.returns
returns g c = record {
  frame = end-frame g.J.Job.meaning c.args.run.now.profile c.args.run.now.inputs c.args.self.now.number
      (let rows = c.rows.ensures.rows in let more = c.requires.more in let last = c.if-self-rows.false in omega (arith, rows, more, last));
  made = grind (arith, common_steps);
  keeps = refl;
}
