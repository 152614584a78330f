use Rattle.std.proofs.Common.{◌≡◌, map, take}
use Rattle.c_types.specs.CValues.{event_of}
use Rattle.det_manifest_c.proofs.fill.fill_events.Given as goal

abbrev pub invariant-each_event : goal.invariant-each_event
invariant-each_event l = map event_of (take l.index l.room) ≡ take l.index l.events
