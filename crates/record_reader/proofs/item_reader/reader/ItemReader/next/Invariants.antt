use Rattle.std.proofs.Common.{◌≡◌, ℕ, List, None}
use Rattle.record_grammar.specs.declared.item.Item.{Item}
use Rattle.det_io.specs.Traffic.{ShelfTraffic, shelf_run}
use Rattle.record_reader.specs.item_reader.StandsFor.{StandsFor, HasRead, fault_of, slot_of, room}
use Rattle.record_reader.specs.item_reader.Steps.{countable, Scanned}
use Rattle.record_reader.proofs.item_reader.reader.ItemReader.next.Given as goal

abbrev pub invariant-steps : goal.invariant-steps
invariant-steps g l = record {
  read : HasRead (g.S.Slots.sees l.fn.shelf) (g.S.Slots.sees l.shelf) l.fn.self (StandsFor l.self);
  scanned : Scanned l.self;
  last : l.self.last ≡ 0;
  going : fault_of l.self ≡ None;
  slot : slot_of l.self ≡ slot_of l.fn.self;
  room : (read : List ℕ) (given : List Item) → StandsFor l.fn.self read given → room l.self ≡ room l.fn.self;
  traffic : ShelfTraffic (shelf_run g.S.Slots.sees g.S.Slots.stays l.fn.shelf l.shelf) None;
}

abbrev pub decreases-steps : goal.decreases-steps
decreases-steps g l = countable l.self
