use Rattle.std.proofs.Common.{ℕ, List, [], Result, Ok, Err, subst}
use Rattle.det_io.specs.declared.failure.Stopped.{Stopped}
use Rattle.det_io.specs.Traffic.{shelf_run, sink_run}
use Rattle.probes.specs.Shows.{seen}
use Rattle.record_grammar.specs.declared.record_fault.RecordFault.{RecordFault}
use Rattle.record_reader.specs.item_reader.StandsFor.{slot_of}
use Rattle.record_reader.specs.ItemTaker.{Wrote}
use Rattle.record_reader.proofs.lemmas.item_reader.Passing.{passed-on}
use Rattle.cmd_records.specs.declared.record_show.show_form.ShowForm.{ShowForm}
use Rattle.cmd_records.specs.declared.record_show.shown.Shown.{Shown}
use Rattle.cmd_records.specs.record_show.PrintedItems.{Kept}
use Rattle.cmd_records.specs.record_show.ShowEnds.{Ended}
use Rattle.cmd_records.specs.record_show.Text.{reports_text}
use Rattle.cmd_records.proofs.lemmas.record_show.Answering.{of-form, ended-stopped, ended-finished, finish-one, ended-unreported, ended-cut}
use Rattle.cmd_records.proofs.lemmas.record_show.Answering.{ended-reported}
use Rattle.cmd_records.proofs.record_show.show_items.show_run.Goals as goal

pub returns-in_err-show_items-clause-run : goal.returns-in_err-show_items-clause-run
returns-in_err-show_items-clause-run g c =
    let first = seen (λ b. (goal.Probe-dyn g (b.vtable, b.value)).life b.value) c.args.audience.now in
    let now = seen (λ b. (goal.Probe-dyn g (b.vtable, b.value)).life b.value) c.show_items.new.audience in
    let shelf = shelf_run g.S.Slots.sees g.S.Slots.stays c.args.shelf.now c.show_items.new.shelf in
    let h = of-form c.new-printer.ensures.form c.in_err-show_items.ensures.items in
    let kept = subst (λ (f : ShowForm). Kept f.part first now) c.new-printer.ensures.form c.in_err-show_items.ensures.kept in (
      h.read,
      passed-on (λ (r : Result Shown (Stopped RecordFault)). Ended r c.args.form first now h.read shelf (slot_of c.args.reader.now)
          (sink_run g.K.Sink.took g.K.Sink.faults c.args.sink.now c.show_items.new.sink))
          c.from_residual.result c.from_residual.ensures.1
          (ended-stopped c.args.form first now c.show_items.new.printer c.in_err-show_items.field-0.0 kept h),
    )

pub returns-in-Cycle-clause-run : goal.returns-in-Cycle-clause-run
returns-in-Cycle-clause-run g c =
    let first = seen (λ b. (goal.Probe-dyn g (b.vtable, b.value)).life b.value) c.args.audience.now in
    let now = seen (λ b. (goal.Probe-dyn g (b.vtable, b.value)).life b.value) c.show_items.new.audience in
    let out = sink_run g.K.Sink.took g.K.Sink.faults c.args.sink.now c.show_items.new.sink in
    let h = of-form c.new-printer.ensures.form c.in_ok-show_items.ensures.items in
    let kept = subst (λ (f : ShowForm). Kept f.part first now) c.new-printer.ensures.form c.in_ok-show_items.ensures.kept in
    let shown : Shown = record { cycles = c.show_items.new.printer.cycles } in (
      h.read,
      ended-finished c.args.form first now now c.show_items.new.printer out.after out.faults_after c.in_ok-show_items.field-0
          (Ok shown) kept h (finish-one c.args.form c.in-Cycle.field-0 shown now out c.in-Cycle.is),
    )

pub returns-in_err-finish-clause-run : goal.returns-in_err-finish-clause-run
returns-in_err-finish-clause-run g c =
    let first = seen (λ b. (goal.Probe-dyn g (b.vtable, b.value)).life b.value) c.args.audience.now in
    let now = seen (λ b. (goal.Probe-dyn g (b.vtable, b.value)).life b.value) c.finish.new.self in
    let shelf = shelf_run g.S.Slots.sees g.S.Slots.stays c.args.shelf.now c.show_items.new.shelf in
    let h = of-form c.new-printer.ensures.form c.in_ok-show_items.ensures.items in (
      h.read,
      passed-on (λ (r : Result Shown (Stopped RecordFault)). Ended r c.args.form first now h.read shelf (slot_of c.args.reader.now)
          (sink_run g.K.Sink.took g.K.Sink.faults c.args.sink.now c.show_items.new.sink))
          c.from_residual-in_err-finish.result c.from_residual-in_err-finish.ensures.1 (ended-unreported c.in_default.not-Cycle h now),
    )

pub returns-in_err-write_reports-clause-run : goal.returns-in_err-write_reports-clause-run
returns-in_err-write_reports-clause-run g c =
    let first = seen (λ b. (goal.Probe-dyn g (b.vtable, b.value)).life b.value) c.args.audience.now in
    let now = seen (λ b. (goal.Probe-dyn g (b.vtable, b.value)).life b.value) c.finish.new.self in
    let out = sink_run g.K.Sink.took g.K.Sink.faults c.show_items.new.sink c.write_reports.new.sink in
    let shelf = shelf_run g.S.Slots.sees g.S.Slots.stays c.args.shelf.now c.show_items.new.shelf in
    let stop = c.in_err-write_reports.field-0.0 in
    let h = of-form c.new-printer.ensures.form c.in_ok-show_items.ensures.items in (
      h.read,
      passed-on (λ (r : Result Shown (Stopped RecordFault)). Ended r c.args.form first now h.read shelf (slot_of c.args.reader.now)
          (sink_run g.K.Sink.took g.K.Sink.faults c.args.sink.now c.write_reports.new.sink))
          c.from_residual-in_err-write_reports.result c.from_residual-in_err-write_reports.ensures.1
          (ended-cut c.in_default.not-Cycle h now out.after out.faults_after c.in_ok-finish.ensures.left c.in_ok-finish.ensures.none stop
          (subst (λ (reports : List ℕ). Wrote (Err stop) [] (reports_text c.args.form.notation reports) out) c.reports.ensures
          c.in_err-write_reports.ensures.wrote) c.in_err-write_reports.ensures.fails),
    )

pub returns-clause-run : goal.returns-clause-run
returns-clause-run g c =
    let now = seen (λ b. (goal.Probe-dyn g (b.vtable, b.value)).life b.value) c.finish.new.self in
    let out = sink_run g.K.Sink.took g.K.Sink.faults c.show_items.new.sink c.write_reports.new.sink in
    let h = of-form c.new-printer.ensures.form c.in_ok-show_items.ensures.items in (
      h.read,
      ended-reported c.in_default.not-Cycle h now out.after out.faults_after c.in_ok-finish.ensures.left c.in_ok-finish.ensures.none tt
          (subst (λ (reports : List ℕ). Wrote {E = RecordFault} (Ok tt) [] (reports_text c.args.form.notation reports) out)
          c.reports.ensures c.in_ok-write_reports.ensures.wrote),
    )
