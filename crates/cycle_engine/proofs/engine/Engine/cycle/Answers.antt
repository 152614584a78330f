use Rattle.std.proofs.Common.{rules, ◌≡◌, ◌∙◌}
use Rattle.cycle_engine.specs.Engine.{next_frame}
use Rattle.cycle_engine.proofs.Standing.{frame_is, stands_after}
use Rattle.cycle_engine.proofs.engine.Engine.cycle.Goals as goal

pub returns-clause-frame : goal.returns-clause-frame
returns-clause-frame g c profile inputs stands =
    let outcome : c.frame_in_format.result ≡ next_frame g.J.Job.meaning c.args.self.now c.args.input = search rules in
    outcome ∙ frame_is g.J.Job.meaning profile c.args.self.now inputs c.args.input stands

pub returns-clause-stands : goal.returns-clause-stands
returns-clause-stands g c profile inputs stands =
    stands_after g.J.Job.meaning profile c.args.self.now _ inputs c.args.input stands (search rules)
