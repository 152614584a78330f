use Rattle.std.proofs.Common.{[], Result}
use Rattle.det_io.specs.declared.failure.Stopped.{Stopped}
use Rattle.det_io.specs.Traffic.{sink_run}
use Rattle.det_io.proofs.Growth.{grew-none}
use Rattle.det_io.proofs.Prefixes.{prefix-none}
use Rattle.record_grammar.specs.declared.record_fault.RecordFault.{RecordFault}
use Rattle.record_grammar.specs.Places.{format_of}
use Rattle.record_reader.specs.ItemTaker.{Wrote}
use Rattle.record_reader.proofs.lemmas.item_reader.Passing.{passed-on}
use Rattle.cmd_records.specs.record_show.PrintedItems.{printed_of}
use Rattle.cmd_records.proofs.record_show.printer.Printer.print_item.Goals as goal

pub returns-in_err-put-clause-wrote : goal.returns-in_err-put-clause-wrote
returns-in_err-put-clause-wrote g c item h =
    passed-on (λ (r : Result (Unit {0}) (Stopped RecordFault)). Wrote r []
    (printed_of c.args.self.now.form (format_of c.args.view.place) c.args.self.now.layout c.args.self.now.cycles item)
    (sink_run g.K.Sink.took g.K.Sink.faults c.args.sink.now c.args.sink.now)) c.from_residual.result c.from_residual.ensures.1
    ([], prefix-none _, grew-none _)
