use Rattle.std.proofs.Common.{◌≡◌, subst, arith, rules}
use Rattle.twins.specs.TwinCopies.{AreCopies}
use Rattle.twins.proofs.Begun.{none-begun}
use Rattle.twins.proofs.twin_copies.TwinCopies.new.Goals as goal

pub copies-init : goal.copies-init
copies-init g c =
    none-begun g.J.Job.meaning c.args.run.now.profile c.args.run.now.inputs (g.T.Tamper.altered c.args.run.now.tamper) _
    (search rules) (search rules) (search rules)

pub returns : goal.returns
returns g c =
    let all : c.copies.copy ≡ c.args.copies = (let e = c.copies.auto.copy-end in let t = c.copies-test.false in omega (arith, e, t)) in
    subst (λ n. AreCopies g.J.Job.meaning c.args.run.now.profile c.args.run.now.inputs
    (g.T.Tamper.altered c.args.run.now.tamper) n c.copies.all)
    all c.copies.invariant
