use Rattle.std.proofs.Common.{[], None, Result, Err, sym, ◌∙◌, rules}
use Rattle.det_io.specs.declared.failure.Failure.TheVariants.{OutOfMemory}
use Rattle.det_io.specs.declared.failure.Stopped.{Stopped}
use Rattle.det_io.specs.declared.failure.Stopped.TheVariants.{Failed}
use Rattle.det_io.specs.Traffic.{SinkTraffic, shelf_run, sink_run, failure_in}
use Rattle.det_io.proofs.Growth.{grew-none}
use Rattle.det_io.proofs.Prefixes.{prefix-none}
use Rattle.probes.specs.Shows.{seen}
use Rattle.record_grammar.specs.declared.record_fault.RecordFault.{RecordFault}
use Rattle.record_reader.specs.item_reader.StandsFor.{slot_of}
use Rattle.record_reader.proofs.lemmas.item_reader.Passing.{passed-on}
use Rattle.cmd_records.specs.salvage_command.ReportEnds.{Ended}
use Rattle.cmd_records.proofs.lemmas.record_show.Answering.{of-form}
use Rattle.cmd_records.proofs.lemmas.salvage_command.Ending.{ended-stopped, ended-printed, reports-printed, no-read-failed, no-write}
use Rattle.cmd_records.proofs.salvage_command.report_salvage.report_salvage.Goals as goal

pub returns-in_err-settle_fault-clause-run : goal.returns-in_err-settle_fault-clause-run
returns-in_err-settle_fault-clause-run g c =
    let s = c.show_items-read in
    let first = seen (λ b. (goal.Probe-dyn g (b.vtable, b.value)).life b.value) c.args.audience.now in
    let now = seen (λ b. (goal.Probe-dyn g (b.vtable, b.value)).life b.value) s.new.audience in
    let shelf = shelf_run g.S.Slots.sees g.S.Slots.stays c.args.shelf.now s.new.shelf in
    let out = sink_run g.K.Sink.took g.K.Sink.faults c.args.sink.now c.args.sink.now in
    let h = of-form c.new-printer.ensures.form s.ensures.items in (
      h.read,
      passed-on (λ (r : Result (Unit {0}) (Stopped RecordFault)). Ended r first now h.read shelf (slot_of c.args.reader.now) out)
          c.from_residual.result c.from_residual.ensures.1
          (ended-stopped s.result c.in_err-settle_fault.field-0.0 (g.K.Sink.took c.args.sink.now)
          (g.K.Sink.faults c.args.sink.now) (g.K.Sink.faults c.args.sink.now)
          (sym c.settle_fault.ensures ∙ c.in_err-settle_fault.was) h),
    )

pub returns-in_err-settle_fault-clause-sink_traffic : goal.returns-in_err-settle_fault-clause-sink_traffic
returns-in_err-settle_fault-clause-sink_traffic g c =
    let s = c.show_items-read in
    let out = sink_run g.K.Sink.took g.K.Sink.faults c.args.sink.now c.args.sink.now in
    let traffic : SinkTraffic out None = search rules in
    passed-on (λ (r : Result (Unit {0}) (Stopped RecordFault)). SinkTraffic out (failure_in r)) c.from_residual.result
    c.from_residual.ensures.1
    (no-write s.result c.in_err-settle_fault.field-0.0 (sym c.settle_fault.ensures ∙ c.in_err-settle_fault.was)
    (of-form c.new-printer.ensures.form s.ensures.items)
    traffic)

pub returns-in_err-finish-clause-run : goal.returns-in_err-finish-clause-run
returns-in_err-finish-clause-run g c =
    let s = c.show_items-read in
    let first = seen (λ b. (goal.Probe-dyn g (b.vtable, b.value)).life b.value) c.args.audience.now in
    let now = seen (λ b. (goal.Probe-dyn g (b.vtable, b.value)).life b.value) c.finish.new.self in
    let out = sink_run g.K.Sink.took g.K.Sink.faults c.args.sink.now c.args.sink.now in
    let shelf = shelf_run g.S.Slots.sees g.S.Slots.stays c.args.shelf.now s.new.shelf in
    let h = of-form c.new-printer.ensures.form s.ensures.items in (
      h.read,
      passed-on (λ (r : Result (Unit {0}) (Stopped RecordFault)). Ended r first now h.read shelf (slot_of c.args.reader.now) out)
          c.from_residual-in_err-finish.result c.from_residual-in_err-finish.ensures.1
          (ended-printed s.result (Err (Failed OutOfMemory)) now out
          (sym c.settle_fault.ensures ∙ c.in_ok-settle_fault.was) h
          ([], prefix-none _, grew-none out.before)),
    )

pub returns-clause-run : goal.returns-clause-run
returns-clause-run g c =
    let s = c.show_items-read in
    let mid = seen (λ b. (goal.Probe-dyn g (b.vtable, b.value)).life b.value) s.new.audience in
    let now = seen (λ b. (goal.Probe-dyn g (b.vtable, b.value)).life b.value) c.finish.new.self in
    let out = sink_run g.K.Sink.took g.K.Sink.faults c.args.sink.now c.print_reports.new.sink in
    let h = of-form c.new-printer.ensures.form s.ensures.items in
    let p = c.print_reports in (
      h.read,
      ended-printed s.result p.result now out (sym c.settle_fault.ensures ∙ c.in_ok-settle_fault.was) h
          (reports-printed p.result s.new.printer.cycles mid now out c.reports.result.now (c.reports.ensures ∙ c.in_ok-finish.ensures.left)
          c.in_ok-finish.ensures.left c.in_ok-finish.ensures.none p.ensures.wrote p.ensures.fails),
    )

pub returns-clause-shelf_traffic : goal.returns-clause-shelf_traffic
returns-clause-shelf_traffic g c =
    let traffic = c.show_items-read.ensures.shelf_traffic in record {
      cause = λ e. absurd (no-read-failed c.print_reports.result c.print_reports.ensures.fails e);
      counted = traffic.counted;
      stays = traffic.stays;
    }
