use Rattle.std.proofs.Common.{◌≡◌, map, take, None}
use Rattle.det_io.specs.Shelf.{Asks}
use Rattle.det_io.specs.Traffic.{ShelfTraffic, shelf_run}
use Rattle.cli_answers.specs.Slots.{KeepsSlots}
use Rattle.cmd_records.specs.open_names.OpenedSlots.{Opened}
use Rattle.cmd_records.proofs.open_names.open_slots.open_all.Given as goal

abbrev pub invariant-names : goal.invariant-names
invariant-names g l = record {
  opened : Opened (g.S.Slots.sees l.fn.shelf) (g.S.Slots.sees l.shelf) (map (λ name. name.now) (take l.name-index l.names))
      l.slots.items;
  asked : Asks (g.S.Slots.sees l.fn.shelf) (g.S.Slots.sees l.shelf) (map (λ name. name.now) (take l.name-index l.names));
  earlier : KeepsSlots (g.S.Slots.sees l.fn.shelf) (g.S.Slots.sees l.shelf);
  holds : (g.S.Slots.sees l.shelf).holds ≡ (g.S.Slots.sees l.fn.shelf).holds;
  traffic : ShelfTraffic (shelf_run g.S.Slots.sees g.S.Slots.stays l.fn.shelf l.shelf) None;
}
