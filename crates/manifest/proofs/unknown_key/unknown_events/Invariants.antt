use Rattle.std.proofs.Common.{◌≡◌, ◌-◌}
use Rattle.toml.specs.View.{view}
use Rattle.manifest.specs.Unknown.{unknown_events}
use Rattle.manifest.proofs.unknown_key.unknown_events.Given as goal

abbrev pub invariant-each_event : goal.invariant-each_event
invariant-each_event l = unknown_events (view l.tree) 0 l.count ≡ unknown_events (view l.tree) l.i (l.count - l.i)
