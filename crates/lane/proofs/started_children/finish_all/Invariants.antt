use Rattle.std.proofs.Common.{◌≡◌, ◌<◌, ◌≤◌, ℕ, length, true, false, slice_index_or}
use Rattle.std.specs.Prelude.{None, IfSome}
use Rattle.lane.specs.child_processes.Spawners.{Fixed, StatusIs}
use Rattle.lane.proofs.started_children.finish_all.Given as goal

abbrev pub invariant-loop-child : goal.invariant-loop-child
invariant-loop-child g l = record {
  children : (g.P.Spawner.sees l.spawner).children ≡ l.count;
  asked : (g.P.Spawner.sees l.spawner).asked ≡ (g.P.Spawner.sees l.fn.spawner).asked;
  words : (g.P.Spawner.sees l.spawner).words ≡ (g.P.Spawner.sees l.fn.spawner).words;
  fixed : Fixed (g.P.Spawner.sees l.fn.spawner) (g.P.Spawner.sees l.spawner);
  long : length l.statuses ≡ 8;
  done : (j : ℕ) → j < l.child → (g.P.Spawner.sees l.spawner).finished j ≡ true;
  ahead : (j : ℕ) → l.child ≤ j → j < l.count → (g.P.Spawner.sees l.spawner).finished j ≡ false;
  left : (j : ℕ) → l.child ≤ j → (g.P.Spawner.sees l.spawner).left j ≡ (g.P.Spawner.sees l.fn.spawner).left j;
  statuses : (j : ℕ) → j < l.child → IfSome (slice_index_or l.statuses j None) (StatusIs (g.P.Spawner.sees l.fn.spawner) j);
  lost : (j : ℕ) → j < l.child → slice_index_or l.statuses j None ≡ None → (g.P.Spawner.sees l.spawner).lost j ≡ true;
  faults : (g.P.Spawner.sees l.spawner).faults ≡ (g.P.Spawner.sees l.fn.spawner).faults;
}
