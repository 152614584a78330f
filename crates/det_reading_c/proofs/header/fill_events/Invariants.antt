use Rattle.std.proofs.Common.{take, map}
use Rattle.record_grammar.specs.Grammar.{event_at}
use Rattle.c_types.specs.CValues.{event_of}
use Rattle.record_view.proofs.Many.{HasMany}
use Rattle.det_reading_c.proofs.header.fill_events.Given as goal

abbrev pub invariant-events : goal.invariant-events
invariant-events l = HasMany (event_at l.format) l.count l.index (map event_of (take l.index l.events)) l.rest l.bytes
