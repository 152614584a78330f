use Rattle.std.proofs.Common.{Result, ap, subst}
use Rattle.det_io.specs.declared.failure.Stopped.{Stopped}
use Rattle.det_io.specs.Traffic.{sink_run}
use Rattle.det_io.proofs.Opening.{asks-all, asks-then-kept}
use Rattle.record_grammar.specs.declared.record_fault.RecordFault.{RecordFault}
use Rattle.record_reader.specs.declared.salvage.Salvaged.{Salvaged}
use Rattle.record_reader.specs.Salvaged.{saved_of, written_items}
use Rattle.record_reader.specs.Salvages.{SavesRead}
use Rattle.record_reader.proofs.Items.{no-items}
use Rattle.cli_answers.proofs.AnswerMeets.{meets-unopened}
use Rattle.cmd_records.specs.salvage_command.Salvage.{salvage_outcome}
use Rattle.cmd_records.proofs.lemmas.command_ends.OneRecord.{unopened, meets-record, broken-off, keeps-earlier}
use Rattle.cmd_records.proofs.lemmas.salvage_command.SalvageMeets.{salvage-gives}
use Rattle.cmd_records.proofs.salvage_command.salvage_record.salvage.Goals as goal

pub returns-in-Err-clause-meets : goal.returns-in-Err-clause-meets
returns-in-Err-clause-meets g c =
    rw c.from.ensures (meets-unopened _ _ _ _ _ _ _ c.in-Err.ensures.traffic.cause c.in-Err.ensures.no_write)

pub returns-clause-meets : goal.returns-clause-meets
returns-clause-meets g c =
    let s = c.salvage_record-saved in
    let out = sink_run g.K.Sink.took g.K.Sink.faults c.args.out.now s.new.sink in
    meets-record c.in-Ok.ensures.opens c.new-reader.ensures.slot s.result c.record_answer.result salvage_outcome out
    c.record_answer.ensures.is (salvage-gives s.result out s.ensures.run.1.answers) c.in-Ok.ensures.traffic.counted
    s.ensures.shelf_traffic s.ensures.sink_traffic

pub returns-clause-asked : goal.returns-clause-asked
returns-clause-asked g c = asks-all _ _ _ (asks-then-kept c.in-Ok.ensures.asks c.salvage_record-saved.ensures.run.1.answers.reads.asked)

pub returns-in-Err-clause-broken : goal.returns-in-Err-clause-broken
returns-in-Err-clause-broken g c e t =
    unopened saved_of (g.K.Sink.took c.args.out.now) (ap written_items no-items) c.in-Err.ensures.slots

pub returns-clause-broken : goal.returns-clause-broken
returns-clause-broken g c =
    let s = c.salvage_record-saved in
    let out = sink_run g.K.Sink.took g.K.Sink.faults c.args.out.now s.new.sink in
    broken-off c.in-Ok.ensures.opens c.new-reader.ensures.slot s.result saved_of out c.record_answer.ensures.is
    s.ensures.run.1.answers.reads
    (λ e. subst (λ (r : Result Salvaged (Stopped RecordFault)). SavesRead r s.ensures.run.0 out) e s.ensures.run.1.saves)

pub returns-clause-earlier : goal.returns-clause-earlier
returns-clause-earlier g c =
    keeps-earlier c.in-Ok.ensures.opens c.new-reader.ensures.slot c.salvage_record-saved.ensures.run.1.answers.reads
