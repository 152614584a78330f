use Rattle.std.proofs.Common.{◌≡◌, ◌++◌, map, take}
use Rattle.std.specs.List.{flat_map}
use Rattle.cycle_engine.specs.Elements.{with_length}
use Rattle.cycle_engine.proofs.engine.Engine.put_elements.Given as goal

abbrev pub invariant-loop-i : goal.invariant-loop-i
invariant-loop-i g l =
    l.out.items ≡ l.fn.out.items ++ flat_map with_length (map (g.J.Job.meaning.shown l.self.job) (take l.i l.self.state.elements))
