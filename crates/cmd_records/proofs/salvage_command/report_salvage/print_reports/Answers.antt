use Rattle.std.proofs.Common.{[], ◌++◌, Result}
use Rattle.std.specs.Prelude.{codes}
use Rattle.det_io.specs.declared.failure.Stopped.{Stopped}
use Rattle.det_io.specs.Traffic.{sink_run}
use Rattle.det_io.proofs.Growth.{grew-none}
use Rattle.det_io.proofs.Prefixes.{prefix-none}
use Rattle.record_grammar.specs.declared.record_fault.RecordFault.{RecordFault}
use Rattle.record_text.specs.Words.{number_line}
use Rattle.record_reader.specs.ItemTaker.{Wrote}
use Rattle.record_reader.proofs.lemmas.item_reader.Passing.{passed-on}
use Rattle.cmd_records.proofs.salvage_command.report_salvage.print_reports.Goals as goal

pub returns-in_err-lines-clause-wrote : goal.returns-in_err-lines-clause-wrote
returns-in_err-lines-clause-wrote g c =
    passed-on (λ (r : Result (Unit {0}) (Stopped RecordFault)). Wrote r [] (number_line (codes "salvaged") c.args.cycles
    ++ c.args.reports.now) (sink_run g.K.Sink.took g.K.Sink.faults c.args.sink.now c.args.sink.now)) c.from_residual.result
    c.from_residual.ensures.1 ([], prefix-none _, grew-none _)
