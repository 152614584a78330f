use Rattle.std.proofs.Common.{refl, Option, Result, Ok, Err, subst, rules}
use Rattle.det_io.specs.declared.failure.Stopped.{Stopped}
use Rattle.det_io.specs.Traffic.{SinkTraffic, ShelfTraffic, shelf_run, sink_run, failure_in}
use Rattle.record_grammar.specs.declared.record_fault.RecordFault.{RecordFault}
use Rattle.record_view.specs.declared.view.ItemView.{ItemView}
use Rattle.record_reader.specs.item_reader.StandsFor.{GaveView, RoomFell, slot_of, room}
use Rattle.record_reader.specs.SalvageState.{salvaging}
use Rattle.record_reader.specs.ItemTaker.{ItemsRead}
use Rattle.record_reader.proofs.lemmas.item_reader.Passing.{passed-on}
use Rattle.record_reader.proofs.ItemTaker.{lifts-same, no-read}
use Rattle.record_reader.proofs.Views.{answered, answered-as, next-given, running-next, all-taken, reader-stopped, taker-stopped}
use Rattle.record_reader.proofs.Views.{shelf-then, same-failure, no-write, none-left}
use Rattle.record_reader.proofs.salvage_items.salvage_items.Goals as goal

pub returns-in_err-view-clause-items : goal.returns-in_err-view-clause-items
returns-in_err-view-clause-items g c =
    let h = c.items.invariant.running in
    passed-on (λ (r : Result (Unit {0}) (Stopped RecordFault)). ItemsRead r (salvaging c.items.salvage)
    (shelf_run g.S.Slots.sees g.S.Slots.stays c.args.shelf.now c.next.new.shelf) (slot_of c.args.reader.now)
    (sink_run g.K.Sink.took g.K.Sink.faults c.args.sink.now c.items.sink))
    c.from_residual.result c.from_residual.ensures.1
    (reader-stopped h c.next.new.self c.in_err-view.field-0.0 c.in_err-view.field-0.0
    (lifts-same (salvaging c.items.salvage) (λ f. refl) c.in_err-view.field-0.0)
    (answered h c.next.new.self (Err c.in_err-view.field-0.0) c.in_err-view.ensures.item))

pub returns-in_err-view-clause-shelf_traffic : goal.returns-in_err-view-clause-shelf_traffic
returns-in_err-view-clause-shelf_traffic g c =
    let run = shelf_run g.S.Slots.sees g.S.Slots.stays c.args.shelf.now c.next.new.shelf in
    passed-on (λ (r : Result (Unit {0}) (Stopped RecordFault)). ShelfTraffic run (failure_in r)) c.from_residual.result
    c.from_residual.ensures.1
    (subst (ShelfTraffic run) (same-failure (Option ItemView) (Unit {0}) c.in_err-view.field-0.0)
    (shelf-then (g.met.S.Slots.stays_on _ _ _) c.items.invariant.shelf_traffic c.in_err-view.ensures.traffic))

pub returns-in_err-view-clause-sink_traffic : goal.returns-in_err-view-clause-sink_traffic
returns-in_err-view-clause-sink_traffic g c =
    let h = c.items.invariant.running in
    passed-on (λ (r : Result (Unit {0}) (Stopped RecordFault)). SinkTraffic
    (sink_run g.K.Sink.took g.K.Sink.faults c.args.sink.now c.items.sink) (failure_in r)) c.from_residual.result
    c.from_residual.ensures.1
    (no-write h c.next.new.self c.in_err-view.field-0.0
    (answered h c.next.new.self (Err c.in_err-view.field-0.0) c.in_err-view.ensures.item) c.items.invariant.sink_traffic)

pub returns-in_default-clause-items : goal.returns-in_default-clause-items
returns-in_default-clause-items g c =
    let h = c.items.invariant.running in
    all-taken h c.next.new.self
    (answered-as h c.next.new.self (none-left c.in_ok-view.field-0 c.in_default.not-Some) c.in_ok-view.ensures.item)

pub returns-in_default-clause-shelf_traffic : goal.returns-in_default-clause-shelf_traffic
returns-in_default-clause-shelf_traffic g c =
    shelf-then (g.met.S.Slots.stays_on _ _ _) c.items.invariant.shelf_traffic c.in_ok-view.ensures.traffic

pub bytes-requires : goal.bytes-requires
bytes-requires g c = subst (λ (o : Option ItemView). GaveView (Ok o) c.next.new.self) c.in-Some.is c.in_ok-view.ensures.held

pub take-requires : goal.take-requires
take-requires g c =
    let h = c.items.invariant.running in
    let answer = answered-as h c.next.new.self c.in-Some.is c.in_ok-view.ensures.item in (
      h.given,
      answer.2.item,
      h.stands,
      next-given h c.next.new.self c.in-Some.view answer c.bytes.result.now c.bytes.ensures,
    )

pub items-smaller : goal.items-smaller
items-smaller g c =
    let h = c.items.invariant.running in
    subst (λ (o : Option ItemView). RoomFell (Ok o) (room c.items.reader) (room c.next.new.self)) c.in-Some.is
    (c.in_ok-view.ensures.room h.read h.given h.gave)

pub items-preserved : goal.items-preserved
items-preserved g c =
    let h = c.items.invariant.running in
    let answer = answered-as h c.next.new.self c.in-Some.is c.in_ok-view.ensures.item in
    record {
      running = running-next h c.next.new.self c.in-Some.view (salvaging c.take.new.self) refl answer c.in_ok-view.ensures.slot
          (c.in_ok-take.ensures.takes h.given answer.2.item h.stands
          (next-given h c.next.new.self c.in-Some.view answer c.bytes.result.now c.bytes.ensures));
      shelf_traffic = shelf-then (g.met.S.Slots.stays_on _ _ _) c.items.invariant.shelf_traffic c.in_ok-view.ensures.traffic;
      sink_traffic = search rules;
    }

pub returns-in_err-take-clause-items : goal.returns-in_err-take-clause-items
returns-in_err-take-clause-items g c =
    let h = c.items.invariant.running in
    let answer = answered-as h c.next.new.self c.in-Some.is c.in_ok-view.ensures.item in
    passed-on (λ (r : Result (Unit {0}) (Stopped RecordFault)). ItemsRead r (salvaging c.take.new.self)
    (shelf_run g.S.Slots.sees g.S.Slots.stays c.args.shelf.now c.next.new.shelf) (slot_of c.args.reader.now)
    (sink_run g.K.Sink.took g.K.Sink.faults c.args.sink.now c.take.new.sink))
    c.from_residual-in_err-take.result c.from_residual-in_err-take.ensures.1
    (taker-stopped c.next.new.self c.in-Some.view c.in_err-take.field-0.0 (salvaging c.take.new.self) refl h answer
    (c.in_err-take.ensures.takes h.given answer.2.item h.stands
    (next-given h c.next.new.self c.in-Some.view answer c.bytes.result.now c.bytes.ensures)))

pub returns-in_err-take-clause-shelf_traffic : goal.returns-in_err-take-clause-shelf_traffic
returns-in_err-take-clause-shelf_traffic g c =
    let h = c.items.invariant.running in
    let answer = answered-as h c.next.new.self c.in-Some.is c.in_ok-view.ensures.item in
    passed-on (λ (r : Result (Unit {0}) (Stopped RecordFault)). ShelfTraffic
    (shelf_run g.S.Slots.sees g.S.Slots.stays c.args.shelf.now c.next.new.shelf) (failure_in r))
    c.from_residual-in_err-take.result c.from_residual-in_err-take.ensures.1
    (no-read c.in_err-take.field-0.0 (c.in_err-take.ensures.takes h.given answer.2.item h.stands
    (next-given h c.next.new.self c.in-Some.view answer c.bytes.result.now c.bytes.ensures))
    (shelf-then (g.met.S.Slots.stays_on _ _ _) c.items.invariant.shelf_traffic c.in_ok-view.ensures.traffic))
