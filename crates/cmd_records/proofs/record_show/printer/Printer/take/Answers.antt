use Rattle.std.proofs.Common.{[], Result, ◌∙◌, subst}
use Rattle.det_io.specs.declared.failure.Stopped.{Stopped}
use Rattle.det_io.specs.Traffic.{sink_run}
use Rattle.det_io.proofs.Growth.{grew-none}
use Rattle.probes.specs.Shows.{seen}
use Rattle.record_grammar.specs.declared.record_fault.RecordFault.{RecordFault}
use Rattle.record_reader.specs.ItemTaker.{Takes}
use Rattle.record_reader.proofs.Items.{next_is}
use Rattle.record_reader.proofs.lemmas.item_reader.Passing.{passed-on}
use Rattle.cmd_records.specs.declared.record_show.show_form.ShowForm.{ShowForm}
use Rattle.record_reader.specs.InItems.{run_in}
use Rattle.cmd_records.specs.record_show.PrintedItems.{showing, Watched}
use Rattle.cmd_records.proofs.lemmas.record_show.Taken.{IsSame, noted-by, same-but-lines, same-but-presenter, same-then, taken, unnoted}
use Rattle.cmd_records.proofs.lemmas.record_show.Taken.{unwritten, unshown}
use Rattle.cmd_records.proofs.record_show.printer.Printer.take.Goals as goal

pub returns-in_err-note_layout-clause-takes : goal.returns-in_err-note_layout-clause-takes
returns-in_err-note_layout-clause-takes g c first given item shown next =
    let now = seen (λ b. (goal.Probe-dyn g (b.vtable, b.value)).life b.value) c.args.audience.now in
    let out = sink_run g.K.Sink.took g.K.Sink.faults c.args.sink.now c.args.sink.now in
    passed-on (λ (r : Result (Unit {0}) (Stopped RecordFault)). Takes r (showing c.args.self.now.form first now c.note_layout.new.self) given
    item [] out) c.from_residual.result c.from_residual.ensures.1
    (unnoted c.args.self.now.form first now given item c.args.self.now c.note_layout.new.self out shown (next_is given item next.first)
    (grew-none _))

pub returns-in_err-print_item-clause-takes : goal.returns-in_err-print_item-clause-takes
returns-in_err-print_item-clause-takes g c first given item shown next =
    let now = seen (λ b. (goal.Probe-dyn g (b.vtable, b.value)).life b.value) c.args.audience.now in
    let noted = noted-by c.count.ensures (c.in_ok-note_layout.ensures.layout item next.spelling) c.note_layout.ensures.same in
    passed-on (λ (r : Result (Unit {0}) (Stopped RecordFault)). Takes r (showing c.args.self.now.form first now c.print_item.new.self) given
    item [] (sink_run g.K.Sink.took g.K.Sink.faults c.args.sink.now c.print_item.new.sink))
    c.from_residual-in_err-print_item.result c.from_residual-in_err-print_item.ensures.1
    (unwritten c.args.self.now.form first now given item c.args.view c.args.bytes.now c.args.self.now c.note_layout.new.self
    c.print_item.new.self shown next noted (same-but-lines c.print_item.ensures.same) c.in_err-print_item.field-0.0 _
    (c.in_err-print_item.ensures.wrote item next.spelling) c.in_err-print_item.ensures.fails)

pub returns-in_err-present_item-clause-takes : goal.returns-in_err-present_item-clause-takes
returns-in_err-present_item-clause-takes g c first given item shown next =
    let now = seen (λ b. (goal.Probe-dyn g (b.vtable, b.value)).life b.value) c.args.audience.now in
    let last = seen (λ b. (goal.Probe-dyn g (b.vtable, b.value)).life b.value) c.present_item.new.audience in
    let noted = noted-by c.count.ensures (c.in_ok-note_layout.ensures.layout item next.spelling) c.note_layout.ensures.same in
    let same = same-then (same-but-lines c.print_item.ensures.same) (same-but-presenter c.present_item.ensures.same) in
    passed-on (λ (r : Result (Unit {0}) (Stopped RecordFault)). Takes r (showing c.args.self.now.form first last c.present_item.new.self)
    given
    item [] (sink_run g.K.Sink.took g.K.Sink.faults c.args.sink.now c.print_item.new.sink))
    c.from_residual-in_err-present_item.result c.from_residual-in_err-present_item.ensures.1
    (unshown c.args.self.now.form first now given item c.args.view c.args.bytes.now c.args.self.now c.note_layout.new.self
    c.present_item.new.self shown next noted same tt last _ (c.in_ok-print_item.ensures.wrote item next.spelling))

pub returns-clause-takes : goal.returns-clause-takes
returns-clause-takes g c first given item shown next =
    let now = seen (λ b. (goal.Probe-dyn g (b.vtable, b.value)).life b.value) c.args.audience.now in
    let last = seen (λ b. (goal.Probe-dyn g (b.vtable, b.value)).life b.value) c.present_item.new.audience in
    let noted = noted-by c.count.ensures (c.in_ok-note_layout.ensures.layout item next.spelling) c.note_layout.ensures.same in
    let printed : IsSame c.note_layout.new.self c.print_item.new.self = same-but-lines c.print_item.ensures.same in
    let same = same-then printed (same-but-presenter c.present_item.ensures.same) in
    taken c.args.self.now.form first now given item c.args.view c.args.bytes.now c.args.self.now c.note_layout.new.self
    c.present_item.new.self shown next noted same tt tt last _ (c.in_ok-print_item.ensures.wrote item next.spelling)
    (subst (λ (f : ShowForm). Watched f.part now last (run_in item)) (printed.form ∙ noted.form)
    (c.in_ok-present_item.ensures.shown item next.spelling))
