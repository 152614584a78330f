use Rattle.std.proofs.Common.{◌≡◌, ◌<◌, ◌≤◌, ℕ}
use Rattle.lane.specs.child_processes.Spawners.{Fixed, Asks}
use Rattle.lane.specs.Children.{AllRun, HasAll}
use Rattle.lane.specs.Words.{lane_value, child_words, words_from}
use Rattle.lane.proofs.started_children.start_all.Given as goal

abbrev pub invariant-loop-child : goal.invariant-loop-child
invariant-loop-child g l = record {
  count : (g.P.Spawner.sees l.spawner).children ≡ l.child;
  running : AllRun (g.P.Spawner.sees l.spawner);
  left : (k : ℕ) → k < l.child → HasAll (g.P.Spawner.sees l.spawner) (child_words (lane_value l.lane) k) k;
  asks : Asks (g.P.Spawner.sees l.fn.spawner) (g.P.Spawner.sees l.spawner) (words_from (lane_value l.lane) 0 l.child);
  fixed : Fixed (g.P.Spawner.sees l.fn.spawner) (g.P.Spawner.sees l.spawner);
  counted : (g.P.Spawner.sees l.fn.spawner).faults ≤ (g.P.Spawner.sees l.spawner).faults;
}
