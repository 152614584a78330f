use Rattle.std.proofs.Common.{◌≡◌, ◌∙◌, ℕ, refl, List, [], Option, Some, None, Result, Ok, Err, subst, rules}
use Rattle.det_io.specs.declared.failure.Stopped.{Stopped}
use Rattle.det_io.specs.Shelf.{ShelfState}
use Rattle.det_io.specs.Traffic.{SinkRun, SinkTraffic, ShelfTraffic, shelf_run, sink_run, failure_in}
use Rattle.probes.specs.Reports.{AudienceState}
use Rattle.probes.specs.Shows.{seen}
use Rattle.record_grammar.specs.declared.item.Item.{Item}
use Rattle.record_grammar.specs.declared.record_fault.RecordFault.{RecordFault}
use Rattle.record_view.specs.declared.view.ItemView.{ItemView}
use Rattle.record_view.specs.Shows.{IsSpelling}
use Rattle.record_reader.specs.declared.item_reader.reader.ItemReader.{ItemReader}
use Rattle.record_reader.specs.item_reader.StandsFor.{GaveView, Holds, RoomFell, slot_of, room}
use Rattle.record_reader.specs.ItemTaker.{IsNext, Takes, ItemsRead}
use Rattle.record_reader.proofs.lemmas.item_reader.Passing.{passed-on}
use Rattle.record_reader.proofs.ItemTaker.{lifts-same, no-read}
use Rattle.record_reader.proofs.Views.{Running, Answered, answered, answered-as, running-new, next-first, next-given, running-next, all-taken, reader-stopped}
use Rattle.record_reader.proofs.Views.{taker-stopped, no-write, none-left}
use Rattle.cmd_records.specs.declared.record_show.show_form.ShowForm.{ShowForm}
use Rattle.cmd_records.specs.declared.record_show.printer.Printer.{Printer}
use Rattle.cmd_records.specs.record_show.PrintedItems.{AreShown, Kept, showing}
use Rattle.cmd_records.proofs.lemmas.record_show.Parts.{none-yet}
use Rattle.cmd_records.proofs.lemmas.record_show.Taken.{kept-same, kept-then, shown-room}
use Rattle.cmd_records.proofs.record_show.show_items.show_items.Goals as goal

-- what the printer took of it
takes-next : {form : ShowForm} {first now last : AudienceState} {old new : Printer} {start mid state : ShelfState} {slot : ℕ}
    {reader : ItemReader} {before after : List ℕ → Type 0} {bytes : List ℕ} {result : Result (Unit {0}) (Stopped RecordFault)}
    {out : SinkRun} (h : Running (showing form first now old) start mid slot reader before after) (next : ItemReader) (view : ItemView)
    (answer : Answered h state next (Ok (Some view))) → old.form ≡ form
    → ((item : Item) → Holds next view item → IsSpelling view item bytes)
    → ((first : AudienceState) (given : List Item) (item : Item) → AreShown old.form first now old given → IsNext given item view bytes
    → Takes result (showing old.form first last new) given item [] out)
    → Takes result (showing form first last new) h.given answer.2.item [] out
takes-next {first = first} {now = now} {last = last} {old = old} {new = new} {bytes = bytes} {result = result} {out = out} h next view
    answer
    is spelled takes =
    subst (λ (f : ShowForm). AreShown f first now old h.given → IsNext h.given answer.2.item view bytes
    → Takes result (showing f first last new) h.given answer.2.item [] out) is (takes first h.given answer.2.item) h.stands
    (next-given h next view answer bytes spelled)

pub items-init : goal.items-init
items-init g c =
    let now = seen (λ b. (goal.Probe-dyn g (b.vtable, b.value)).life b.value) c.args.audience.now in
    record {
      running = running-new (showing c.args.printer.now.form now now c.args.printer.now) (g.S.Slots.sees c.args.shelf.now) c.args.reader.now
          (g.K.Sink.took c.args.sink.now) c.requires.new (c.requires.fresh now)
          (none-yet c.args.printer.now.form);
      form = refl;
      kept = kept-same c.args.printer.now.form.part now;
      shelf_traffic = search rules;
      sink_traffic = search rules;
    }

pub returns-in_err-view-clause-items : goal.returns-in_err-view-clause-items
returns-in_err-view-clause-items g c =
    let h = c.items.invariant.running in
    let first = seen (λ b. (goal.Probe-dyn g (b.vtable, b.value)).life b.value) c.args.audience.now in
    let now = seen (λ b. (goal.Probe-dyn g (b.vtable, b.value)).life b.value) c.items.audience in
    passed-on (λ (r : Result (Unit {0}) (Stopped RecordFault)). ItemsRead r (showing c.args.printer.now.form first now c.items.printer)
    (shelf_run g.S.Slots.sees g.S.Slots.stays c.args.shelf.now c.next.new.shelf) (slot_of c.args.reader.now)
    (sink_run g.K.Sink.took g.K.Sink.faults c.args.sink.now c.items.sink))
    c.from_residual.result c.from_residual.ensures.1
    (reader-stopped h c.next.new.self c.in_err-view.field-0.0 c.in_err-view.field-0.0
    (lifts-same (showing c.args.printer.now.form first now c.items.printer) (λ f. refl) c.in_err-view.field-0.0)
    (answered h c.next.new.self (Err c.in_err-view.field-0.0) c.in_err-view.ensures.item))

pub returns-in_err-view-clause-sink_traffic : goal.returns-in_err-view-clause-sink_traffic
returns-in_err-view-clause-sink_traffic g c =
    let h = c.items.invariant.running in
    passed-on (λ (r : Result (Unit {0}) (Stopped RecordFault)). SinkTraffic
    (sink_run g.K.Sink.took g.K.Sink.faults c.args.sink.now c.items.sink) (failure_in r)) c.from_residual.result
    c.from_residual.ensures.1
    (no-write h c.next.new.self c.in_err-view.field-0.0
    (answered h c.next.new.self (Err c.in_err-view.field-0.0) c.in_err-view.ensures.item) c.items.invariant.sink_traffic)

pub returns-in_default-clause-items : goal.returns-in_default-clause-items
returns-in_default-clause-items g c =
    let h = c.items.invariant.running in
    all-taken h c.next.new.self
    (answered-as h c.next.new.self (none-left c.in_ok-view.field-0 c.in_default.not-Some) c.in_ok-view.ensures.item)

pub bytes-requires : goal.bytes-requires
bytes-requires g c = subst (λ (o : Option ItemView). GaveView (Ok o) c.next.new.self) c.in-Some.is c.in_ok-view.ensures.held

pub take-requires-clause-few : goal.take-requires-clause-few
take-requires-clause-few g c =
    let h = c.items.invariant.running in
    let answer = answered-as h c.next.new.self c.in-Some.is c.in_ok-view.ensures.item in
    shown-room c.items.printer _ _ h.given answer.2.item h.stands (next-first h c.next.new.self c.in-Some.view answer)

pub take-requires-clause-spelled : goal.take-requires-clause-spelled
take-requires-clause-spelled g c =
    let h = c.items.invariant.running in
    let answer = answered-as h c.next.new.self c.in-Some.is c.in_ok-view.ensures.item in
    (answer.2.item, c.bytes.ensures answer.2.item answer.2.holds)

pub items-smaller : goal.items-smaller
items-smaller g c =
    let h = c.items.invariant.running in
    subst (λ (o : Option ItemView). RoomFell (Ok o) (room c.items.reader) (room c.next.new.self)) c.in-Some.is
    (c.in_ok-view.ensures.room h.read h.given h.gave)

pub items-preserved : goal.items-preserved
items-preserved g c =
    let h = c.items.invariant.running in
    let first = seen (λ b. (goal.Probe-dyn g (b.vtable, b.value)).life b.value) c.args.audience.now in
    let now = seen (λ b. (goal.Probe-dyn g (b.vtable, b.value)).life b.value) c.items.audience in
    let last = seen (λ b. (goal.Probe-dyn g (b.vtable, b.value)).life b.value) c.take.new.audience in
    let answer = answered-as h c.next.new.self c.in-Some.is c.in_ok-view.ensures.item in
    let takes = takes-next h c.next.new.self c.in-Some.view answer c.items.invariant.form c.bytes.ensures c.in_ok-take.ensures.takes in
    record {
      running = running-next h c.next.new.self c.in-Some.view (showing c.args.printer.now.form first last c.take.new.self) refl answer
          c.in_ok-view.ensures.slot
          takes;
      form = c.in_ok-take.ensures.form ∙ c.items.invariant.form;
      kept = kept-then c.args.printer.now.form.part first now last c.items.invariant.kept
          (subst (λ (f : ShowForm). Kept f.part now last) c.items.invariant.form c.in_ok-take.ensures.kept);
      shelf_traffic = search rules;
      sink_traffic = search rules;
    }

pub returns-in_err-take-clause-items : goal.returns-in_err-take-clause-items
returns-in_err-take-clause-items g c =
    let h = c.items.invariant.running in
    let first = seen (λ b. (goal.Probe-dyn g (b.vtable, b.value)).life b.value) c.args.audience.now in
    let last = seen (λ b. (goal.Probe-dyn g (b.vtable, b.value)).life b.value) c.take.new.audience in
    let answer = answered-as h c.next.new.self c.in-Some.is c.in_ok-view.ensures.item in
    let takes = takes-next h c.next.new.self c.in-Some.view answer c.items.invariant.form c.bytes.ensures c.in_err-take.ensures.takes in
    passed-on (λ (r : Result (Unit {0}) (Stopped RecordFault)). ItemsRead r (showing c.args.printer.now.form first last c.take.new.self)
    (shelf_run g.S.Slots.sees g.S.Slots.stays c.args.shelf.now c.next.new.shelf)
    (slot_of c.args.reader.now) (sink_run g.K.Sink.took g.K.Sink.faults c.args.sink.now c.take.new.sink))
    c.from_residual-in_err-take.result c.from_residual-in_err-take.ensures.1
    (taker-stopped c.next.new.self c.in-Some.view c.in_err-take.field-0.0 (showing c.args.printer.now.form first last c.take.new.self)
    refl h answer takes)

pub returns-in_err-take-clause-kept : goal.returns-in_err-take-clause-kept
returns-in_err-take-clause-kept g c =
    let first = seen (λ b. (goal.Probe-dyn g (b.vtable, b.value)).life b.value) c.args.audience.now in
    let now = seen (λ b. (goal.Probe-dyn g (b.vtable, b.value)).life b.value) c.items.audience in
    let last = seen (λ b. (goal.Probe-dyn g (b.vtable, b.value)).life b.value) c.take.new.audience in
    kept-then c.args.printer.now.form.part first now last c.items.invariant.kept
    (subst (λ (f : ShowForm). Kept f.part now last) c.items.invariant.form c.in_err-take.ensures.kept)

pub returns-in_err-take-clause-shelf_traffic : goal.returns-in_err-take-clause-shelf_traffic
returns-in_err-take-clause-shelf_traffic g c =
    let h = c.items.invariant.running in
    let answer = answered-as h c.next.new.self c.in-Some.is c.in_ok-view.ensures.item in
    let takes = takes-next h c.next.new.self c.in-Some.view answer c.items.invariant.form c.bytes.ensures c.in_err-take.ensures.takes in
    let traffic : ShelfTraffic (shelf_run g.S.Slots.sees g.S.Slots.stays c.args.shelf.now c.next.new.shelf) None = search rules in
    passed-on (λ (r : Result (Unit {0}) (Stopped RecordFault)). ShelfTraffic
    (shelf_run g.S.Slots.sees g.S.Slots.stays c.args.shelf.now c.next.new.shelf) (failure_in r))
    c.from_residual-in_err-take.result c.from_residual-in_err-take.ensures.1
    (no-read c.in_err-take.field-0.0 takes traffic)
