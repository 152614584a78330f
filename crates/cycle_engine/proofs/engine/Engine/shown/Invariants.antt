use Rattle.std.proofs.Common.{◌≡◌, map, take, length}
use Rattle.cycle_engine.proofs.engine.Engine.shown.Given as goal

abbrev pub invariant-loop-i : goal.invariant-loop-i
invariant-loop-i g l = (length l.shown ≡ l.i) × (l.shown ≡ map (g.J.Job.meaning.shown l.self.job) (take l.i l.self.state.elements))
