use Rattle.twins.specs.TwinCopies.{AreCopies}
use Rattle.twins.proofs.twin_copies.TwinCopies.new.Given as goal

abbrev pub invariant-copies : goal.invariant-copies
invariant-copies g l = AreCopies g.J.Job.meaning l.run.profile l.run.inputs (g.T.Tamper.altered l.run.tamper) l.copy l.all
