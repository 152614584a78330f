use Rattle.std.proofs.Common.{◌≡◌, List, ℕ, Some, ap, sym, ◌∙◌, arith}
use Rattle.det_values.specs.declared.frames.Frame.TheVariants.{Init}
use Rattle.twins.proofs.Made.{init-frame}
use Rattle.twins.proofs.twin.Twin.opening_frame.Goals as goal

pub returns : goal.returns
returns g c =
    let two : c.args.self.now.number ≡ 2 =
    (let a = c.if-self-eq0.false in let b = c.if-self-eq1.false in let o = c.requires.opening in omega (arith, a, b, o)) in
    record {
      frame = init-frame g.J.Job.meaning c.args.run.now.profile c.args.run.now.inputs c.args.self.now.number c.args.self.now.engine two
          c.requires.made ∙ ap (λ (x : List (List ℕ)). Some (Init x)) (sym c.in_ok-shown.ensures);
    }
