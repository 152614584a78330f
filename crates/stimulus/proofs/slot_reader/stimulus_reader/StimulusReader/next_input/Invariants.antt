use Rattle.std.proofs.Common.{◌≡◌, None}
use Rattle.det_io.specs.Traffic.{ShelfTraffic, shelf_run}
use Rattle.stimulus.specs.slot_reader.StandsFor.{StandsFor, slot_of, events_of}
use Rattle.stimulus.specs.slot_reader.Steps.{room}
use Rattle.stimulus.proofs.lemmas.slot_reader.Reading.{HasRead}
use Rattle.stimulus.proofs.slot_reader.stimulus_reader.StimulusReader.next_input.Given as goal

abbrev pub invariant-pieces : goal.invariant-pieces
invariant-pieces g l = record {
  read : HasRead (g.S.Slots.sees l.fn.shelf) (g.S.Slots.sees l.shelf) l.fn.self (StandsFor l.self);
  slot : slot_of l.self ≡ slot_of l.fn.self;
  events : events_of l.self ≡ events_of l.fn.self;
  traffic : ShelfTraffic (shelf_run g.S.Slots.sees g.S.Slots.stays l.fn.shelf l.shelf) None;
}

abbrev pub decreases-pieces : goal.decreases-pieces
decreases-pieces g l = room l.self
