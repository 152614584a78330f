use Rattle.std.proofs.Common.{◌≡◌, ◌-◌, ◌++◌, length}
use Rattle.std.specs.List.{All}
use Rattle.toml.specs.View.{view}
use Rattle.manifest.specs.Limits.{IsEvent}
use Rattle.manifest.specs.Faults.{first_fault}
use Rattle.manifest.proofs.Steps.{keys_of_events, events_from}
use Rattle.manifest.proofs.events.read_events.Given as goal

abbrev pub invariant-loop-i : goal.invariant-loop-i
invariant-loop-i l = record {
  faults : first_fault (view l.tree) (keys_of_events 0 l.count) ≡ first_fault (view l.tree) (keys_of_events l.i (l.count - l.i));
  values : events_from (view l.tree) 0 l.count ≡ l.events ++ events_from (view l.tree) l.i (l.count - l.i);
  long : length l.events ≡ l.i;
  range : All IsEvent l.events;
}
