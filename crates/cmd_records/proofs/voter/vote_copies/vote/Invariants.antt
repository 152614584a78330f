use Rattle.std.proofs.Common.{◌-◌, List, None}
use Rattle.det_io.specs.Sink.{Grew}
use Rattle.det_io.specs.Traffic.{ShelfTraffic, SinkTraffic, shelf_run, sink_run}
use Rattle.record_grammar.specs.declared.item.Item.{Item}
use Rattle.copies.specs.CompareCopies.{ReadsAmong}
use Rattle.cmd_records.specs.voter.Majority.{spelled_items}
use Rattle.cmd_records.specs.voter.VotersState.{Stand}
use Rattle.cmd_records.proofs.voter.vote_copies.vote.Given as goal

abbrev pub invariant-rows : goal.invariant-rows
invariant-rows g l = record {
  stand : (given : List Item) × Stand (g.S.Slots.sees l.fn.shelf) (g.S.Slots.sees l.shelf) given l.slots l.voters
      × Grew (g.K.Sink.took l.fn.sink) (g.K.Sink.took l.sink) (spelled_items given);
  reads : ReadsAmong (g.S.Slots.sees l.fn.shelf) (g.S.Slots.sees l.shelf) l.slots;
  shelf_traffic : ShelfTraffic (shelf_run g.S.Slots.sees g.S.Slots.stays l.fn.shelf l.shelf) None;
  sink_traffic : SinkTraffic (sink_run g.K.Sink.took g.K.Sink.faults l.fn.sink l.sink) None;
}

abbrev pub decreases-rows : goal.decreases-rows
decreases-rows g l = 1000006 - l.voters.rows
