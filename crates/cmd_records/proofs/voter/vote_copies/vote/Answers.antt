use Rattle.std.proofs.Common.{◌≡◌, ℕ, List, [], ◌∷◌, ◌++◌, Ok, rules, sym, subst, refl}
use Rattle.std.specs.Prelude.{Option, Result}
use Rattle.det_io.specs.declared.failure.Stopped.{Stopped}
use Rattle.det_io.specs.Shelf.{ShelfState}
use Rattle.det_io.specs.Traffic.{ShelfTraffic, SinkTraffic, shelf_run, sink_run, failure_in}
use Rattle.det_io.proofs.Growth.{grew-none, grew-then}
use Rattle.det_io.specs.Sink.{Grew}
use Rattle.record_grammar.specs.declared.item.Item.{Item}
use Rattle.record_grammar.specs.Laws.{item_spelling}
use Rattle.record_reader.proofs.lemmas.item_reader.Passing.{passed-on}
use Rattle.cmd_records.specs.declared.voter.outcome.NoMajority.{NoMajority}
use Rattle.cmd_records.specs.declared.voter.outcome.Vote.{Vote}
use Rattle.cmd_records.specs.declared.voter.voters.HeldItem.{HeldItem}
use Rattle.cmd_records.specs.declared.voter.voters.Voters.{Voters}
use Rattle.cmd_records.specs.voter.VoteResult.{HasVoted}
use Rattle.cmd_records.specs.voter.Rows.{place_behind}
use Rattle.cmd_records.specs.voter.VotersState.{RowTaken}
use Rattle.cmd_records.proofs.lemmas.voter.InTurn.{reads-same}
use Rattle.cmd_records.proofs.lemmas.voter.Spelled.{spelled-next}
use Rattle.cmd_records.proofs.lemmas.voter.Deciding.{row-stopped, no-write, write-stopped}
use Rattle.cmd_records.proofs.lemmas.voter.Loop.{stand-rows, stand-cycles, stand-given, stand-reads, stand-seven, stand-first, smaller}
use Rattle.cmd_records.proofs.lemmas.voter.Loop.{decided-few, decided}
use Rattle.cmd_records.proofs.lemmas.voter.Loop.{none-item, no-read, needed-by}
use Rattle.cmd_records.proofs.voter.vote_copies.vote.Goals as goal

-- what was taken of a row, by the case of its item
taken-as : (first last : ShelfState) (given : List Item) (slots : List ℕ) (voters : Voters) {item known : Option HeldItem} → item ≡ known
    → RowTaken (Ok item) first last given slots voters → RowTaken (Ok known) first last given slots voters
taken-as first last given slots voters is taken = subst (λ (o : Option HeldItem). RowTaken (Ok o) first last given slots voters) is taken

pub rows-init : goal.rows-init
rows-init g c = record {
  stand = ([], c.in_ok-voters.ensures (g.S.Slots.sees c.args.shelf.now), grew-none (g.K.Sink.took c.args.sink.now));
  reads = reads-same (g.S.Slots.sees c.args.shelf.now) c.args.slots.now;
  shelf_traffic = search rules;
  sink_traffic = search rules;
}

pub next_row-requires-clause-given : goal.next_row-requires-clause-given
next_row-requires-clause-given g c = stand-given c.rows.invariant.stand.1 c.requires.given c.rows.invariant.reads

pub next_row-requires-clause-rows : goal.next_row-requires-clause-rows
next_row-requires-clause-rows g c = stand-rows c.rows.invariant.stand.1

pub next_row-requires-clause-cycles : goal.next_row-requires-clause-cycles
next_row-requires-clause-cycles g c = stand-cycles c.rows.invariant.stand.1

pub next_row-requires-clause-few : goal.next_row-requires-clause-few
next_row-requires-clause-few g c = stand-seven c.rows.invariant.stand.1 c.requires.few

pub next_row-requires-clause-stand : goal.next_row-requires-clause-stand
next_row-requires-clause-stand g c = (
  g.S.Slots.sees c.args.shelf.now,
  c.rows.invariant.stand.0,
  c.args.slots.now,
  c.requires.different,
  c.rows.invariant.stand.1,
)

pub returns-in_err-item-clause-voted : goal.returns-in_err-item-clause-voted
returns-in_err-item-clause-voted g c =
    let h = c.rows.invariant.stand in
    passed-on (λ (r : Result Vote (Stopped NoMajority)). HasVoted r (g.S.Slots.sees c.args.shelf.now) (g.S.Slots.sees c.next_row.new.shelf)
    c.args.slots.now (sink_run g.K.Sink.took g.K.Sink.faults c.args.sink.now c.rows.sink))
    c.from_residual-in_err-item.result c.from_residual-in_err-item.ensures.1
    (row-stopped (g.S.Slots.sees c.args.shelf.now) (g.S.Slots.sees c.rows.shelf) (g.S.Slots.sees c.next_row.new.shelf) h.0 c.args.slots.now
    c.rows.voters c.next_row.new.self (sink_run g.K.Sink.took g.K.Sink.faults c.args.sink.now c.rows.sink) c.in_err-item.field-0.0 h.1 h.2
    (c.in_err-item.ensures.row (g.S.Slots.sees c.args.shelf.now) h.0 c.args.slots.now c.requires.different h.1))

pub returns-in_err-item-clause-needed : goal.returns-in_err-item-clause-needed
returns-in_err-item-clause-needed g c copies left =
    let h = c.rows.invariant.stand in
    needed-by (g.S.Slots.sees c.args.shelf.now) (g.S.Slots.sees c.rows.shelf) (g.S.Slots.sees c.next_row.new.shelf) h.0 c.args.slots.now
    c.rows.voters copies h.1
    (c.next_row.ensures.needed (g.S.Slots.sees c.args.shelf.now) h.0 c.args.slots.now c.requires.different h.1) left

pub returns-in_err-item-clause-reads : goal.returns-in_err-item-clause-reads
returns-in_err-item-clause-reads g c = stand-reads c.rows.invariant.stand.1 c.rows.invariant.reads c.next_row.ensures.reads

pub returns-in_err-item-clause-sink_traffic : goal.returns-in_err-item-clause-sink_traffic
returns-in_err-item-clause-sink_traffic g c =
    let h = c.rows.invariant.stand in
    passed-on (λ (r : Result Vote (Stopped NoMajority)). SinkTraffic
    (sink_run g.K.Sink.took g.K.Sink.faults c.args.sink.now c.rows.sink) (failure_in r)) c.from_residual-in_err-item.result
    c.from_residual-in_err-item.ensures.1
    (no-write (g.S.Slots.sees c.args.shelf.now) (g.S.Slots.sees c.next_row.new.shelf) h.0 c.args.slots.now c.next_row.new.self
    (sink_run g.K.Sink.took g.K.Sink.faults c.args.sink.now c.rows.sink) c.in_err-item.field-0.0
    (c.in_err-item.ensures.row (g.S.Slots.sees c.args.shelf.now) h.0 c.args.slots.now c.requires.different h.1)
    c.rows.invariant.sink_traffic)

pub outcome-requires-clause-few : goal.outcome-requires-clause-few
outcome-requires-clause-few g c =
    let h = c.rows.invariant.stand in
    let d = taken-as (g.S.Slots.sees c.args.shelf.now) (g.S.Slots.sees c.next_row.new.shelf) h.0 c.args.slots.now c.next_row.new.self
    (none-item c.in_ok-item.field-0 c.in_default.not-Some)
    (c.in_ok-item.ensures.row (g.S.Slots.sees c.args.shelf.now) h.0 c.args.slots.now c.requires.different h.1) in
    decided-few d c.requires.few

pub returns-in_default-clause-voted : goal.returns-in_default-clause-voted
returns-in_default-clause-voted g c =
    let h = c.rows.invariant.stand in
    let d = taken-as (g.S.Slots.sees c.args.shelf.now) (g.S.Slots.sees c.next_row.new.shelf) h.0 c.args.slots.now c.next_row.new.self
    (none-item c.in_ok-item.field-0 c.in_default.not-Some)
    (c.in_ok-item.ensures.row (g.S.Slots.sees c.args.shelf.now) h.0 c.args.slots.now c.requires.different h.1) in
    decided (g.S.Slots.sees c.args.shelf.now) (g.S.Slots.sees c.rows.shelf) (g.S.Slots.sees c.next_row.new.shelf) h.0 c.args.slots.now
    c.rows.voters c.next_row.new.self (sink_run g.K.Sink.took g.K.Sink.faults c.args.sink.now c.rows.sink) c.outcome.result h.1 d
    c.outcome.ensures h.2

pub returns-in_default-clause-needed : goal.returns-in_default-clause-needed
returns-in_default-clause-needed g c copies left =
    let h = c.rows.invariant.stand in
    needed-by (g.S.Slots.sees c.args.shelf.now) (g.S.Slots.sees c.rows.shelf) (g.S.Slots.sees c.next_row.new.shelf) h.0 c.args.slots.now
    c.rows.voters copies h.1
    (c.next_row.ensures.needed (g.S.Slots.sees c.args.shelf.now) h.0 c.args.slots.now c.requires.different h.1) left

pub returns-in_default-clause-reads : goal.returns-in_default-clause-reads
returns-in_default-clause-reads g c = stand-reads c.rows.invariant.stand.1 c.rows.invariant.reads c.next_row.ensures.reads

pub write-requires : goal.write-requires
write-requires g c =
    let h = c.rows.invariant.stand in
    let t = taken-as (g.S.Slots.sees c.args.shelf.now) (g.S.Slots.sees c.next_row.new.shelf) h.0 c.args.slots.now c.next_row.new.self
    c.in-Some.is (c.in_ok-item.ensures.row (g.S.Slots.sees c.args.shelf.now) h.0 c.args.slots.now c.requires.different h.1) in
    (place_behind h.0, t.0, t.2)

pub rows-smaller : goal.rows-smaller
rows-smaller g c =
    let h = c.rows.invariant.stand in
    let t = taken-as (g.S.Slots.sees c.args.shelf.now) (g.S.Slots.sees c.next_row.new.shelf) h.0 c.args.slots.now c.next_row.new.self
    c.in-Some.is (c.in_ok-item.ensures.row (g.S.Slots.sees c.args.shelf.now) h.0 c.args.slots.now c.requires.different h.1) in
    smaller h.0 t.0 h.1 t.1

pub rows-preserved : goal.rows-preserved
rows-preserved g c =
    let h = c.rows.invariant.stand in
    let t = taken-as (g.S.Slots.sees c.args.shelf.now) (g.S.Slots.sees c.next_row.new.shelf) h.0 c.args.slots.now c.next_row.new.self
    c.in-Some.is (c.in_ok-item.ensures.row (g.S.Slots.sees c.args.shelf.now) h.0 c.args.slots.now c.requires.different h.1) in
    let w = c.in_ok-write.ensures.writes (place_behind h.0) t.0 t.2 in
    record {
      stand = (
        h.0 ++ t.0 ∷ [],
        t.1,
        subst (λ bytes. Grew (g.K.Sink.took c.args.sink.now) (g.K.Sink.took c.write.new.sink) bytes)
            (sym (spelled-next h.0 t.0 (stand-first h.1) w.1)) (grew-then h.2 w.0),
      );
      reads = stand-reads h.1 c.rows.invariant.reads c.next_row.ensures.reads;
      shelf_traffic = search rules;
      sink_traffic = search rules;
    }

pub returns-in_err-write-clause-voted : goal.returns-in_err-write-clause-voted
returns-in_err-write-clause-voted g c =
    let h = c.rows.invariant.stand in
    let t = taken-as (g.S.Slots.sees c.args.shelf.now) (g.S.Slots.sees c.next_row.new.shelf) h.0 c.args.slots.now c.next_row.new.self
    c.in-Some.is (c.in_ok-item.ensures.row (g.S.Slots.sees c.args.shelf.now) h.0 c.args.slots.now c.requires.different h.1) in
    let w = c.in_err-write.ensures.writes (place_behind h.0) t.0 t.2 in
    passed-on (λ (r : Result Vote (Stopped NoMajority)). HasVoted r (g.S.Slots.sees c.args.shelf.now) (g.S.Slots.sees c.next_row.new.shelf)
    c.args.slots.now (sink_run g.K.Sink.took g.K.Sink.faults c.args.sink.now c.write.new.sink))
    c.from_residual-in_err-write.result c.from_residual-in_err-write.ensures.1
    (write-stopped (g.S.Slots.sees c.args.shelf.now) (g.S.Slots.sees c.next_row.new.shelf) h.0 t.0 c.args.slots.now
    c.next_row.new.self (item_spelling (place_behind h.0) t.0)
    (sink_run g.K.Sink.took g.K.Sink.faults c.rows.sink c.write.new.sink)
    (sink_run g.K.Sink.took g.K.Sink.faults c.args.sink.now c.write.new.sink) c.in_err-write.field-0.0 t.1 h.2 refl
    (spelled-next h.0 t.0 (stand-first h.1) w.1) w.0)

pub returns-in_err-write-clause-needed : goal.returns-in_err-write-clause-needed
returns-in_err-write-clause-needed g c copies left =
    let h = c.rows.invariant.stand in
    needed-by (g.S.Slots.sees c.args.shelf.now) (g.S.Slots.sees c.rows.shelf) (g.S.Slots.sees c.next_row.new.shelf) h.0 c.args.slots.now
    c.rows.voters copies h.1
    (c.next_row.ensures.needed (g.S.Slots.sees c.args.shelf.now) h.0 c.args.slots.now c.requires.different h.1) left

pub returns-in_err-write-clause-reads : goal.returns-in_err-write-clause-reads
returns-in_err-write-clause-reads g c = stand-reads c.rows.invariant.stand.1 c.rows.invariant.reads c.next_row.ensures.reads

pub returns-in_err-write-clause-shelf_traffic : goal.returns-in_err-write-clause-shelf_traffic
returns-in_err-write-clause-shelf_traffic g c =
    let h = c.rows.invariant.stand in
    let t = taken-as (g.S.Slots.sees c.args.shelf.now) (g.S.Slots.sees c.next_row.new.shelf) h.0 c.args.slots.now c.next_row.new.self
    c.in-Some.is (c.in_ok-item.ensures.row (g.S.Slots.sees c.args.shelf.now) h.0 c.args.slots.now c.requires.different h.1) in
    let w = c.in_err-write.ensures.writes (place_behind h.0) t.0 t.2 in
    passed-on (λ (r : Result Vote (Stopped NoMajority)). ShelfTraffic
    (shelf_run g.S.Slots.sees g.S.Slots.stays c.args.shelf.now c.next_row.new.shelf) (failure_in r)) c.from_residual-in_err-write.result
    c.from_residual-in_err-write.ensures.1
    (no-read (item_spelling (place_behind h.0) t.0) (sink_run g.K.Sink.took g.K.Sink.faults c.rows.sink c.write.new.sink)
    (shelf_run g.S.Slots.sees g.S.Slots.stays c.args.shelf.now c.next_row.new.shelf) c.in_err-write.field-0.0 w.0 (search rules))
