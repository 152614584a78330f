use Rattle.det_io.specs.Traffic.{sink_run}
use Rattle.det_io.proofs.Opening.{asks-all, asks-then-kept}
use Rattle.det_io.proofs.Growth.{grew-none}
use Rattle.probes.specs.Shows.{seen}
use Rattle.cli_answers.proofs.AnswerMeets.{meets-unopened}
use Rattle.cmd_records.specs.command_ends.Results.{UnlessNoMemory}
use Rattle.cmd_records.specs.salvage_command.ReportEnds.{SawFirst}
use Rattle.cmd_records.specs.salvage_command.Salvage.{salvage_reports_outcome}
use Rattle.cmd_records.proofs.lemmas.command_ends.OneRecord.{at-done, at-fault, unless-no-memory, of-name, meets-record, keeps-earlier}
use Rattle.cmd_records.proofs.lemmas.salvage_command.SalvageMeets.{saw-unread}
use Rattle.cmd_records.proofs.salvage_command.salvage_record.salvage_reports.Goals as goal

pub returns-in-Err-clause-meets : goal.returns-in-Err-clause-meets
returns-in-Err-clause-meets g c =
    rw c.from.ensures (meets-unopened _ _ _ _ _ _ _ c.in-Err.ensures.traffic.cause c.in-Err.ensures.no_write)

pub returns-in-Err-clause-saw : goal.returns-in-Err-clause-saw
returns-in-Err-clause-saw g c ne t = saw-unread _ _

pub returns-clause-meets : goal.returns-clause-meets
returns-clause-meets g c =
    let s = c.report_salvage-reported in
    let old = seen (λ b. (goal.Probe-dyn g (b.vtable, b.value)).life b.value) c.args.audience.now in
    let out = sink_run g.K.Sink.took g.K.Sink.faults c.args.out.now s.new.sink in
    meets-record c.in-Ok.ensures.opens c.new-reader.ensures.slot s.result c.record_answer.result (salvage_reports_outcome old) out
    c.record_answer.ensures.is s.ensures.run.1.gives c.in-Ok.ensures.traffic.counted s.ensures.shelf_traffic s.ensures.sink_traffic

pub returns-clause-saw : goal.returns-clause-saw
returns-clause-saw g c ne is_known =
    let s = c.report_salvage-reported in
    let old = seen (λ b. (goal.Probe-dyn g (b.vtable, b.value)).life b.value) c.args.audience.now in
    let now = seen (λ b. (goal.Probe-dyn g (b.vtable, b.value)).life b.value) s.new.audience in
    unless-no-memory s.result c.record_answer.result c.record_answer.ensures.is
    (of-name c.in-Ok.ensures.opens c.new-reader.ensures.slot (λ bytes. UnlessNoMemory s.result (SawFirst old now bytes))
    s.ensures.run.1.sees is_known) ne

pub returns-clause-asked : goal.returns-clause-asked
returns-clause-asked g c = asks-all _ _ _ (asks-then-kept c.in-Ok.ensures.asks c.report_salvage-reported.ensures.run.1.gives.reads.asked)

pub returns-clause-gone : goal.returns-clause-gone
returns-clause-gone g c =
    at-done c.report_salvage-reported.result c.record_answer.result c.record_answer.ensures.is c.report_salvage-reported.ensures.run.1.gone

pub returns-in-Err-clause-broken : goal.returns-in-Err-clause-broken
returns-in-Err-clause-broken g c e = grew-none (g.K.Sink.took c.args.out.now)

pub returns-clause-broken : goal.returns-clause-broken
returns-clause-broken g c =
    at-fault c.report_salvage-reported.result c.record_answer.result c.record_answer.ensures.is
    c.report_salvage-reported.ensures.run.1.broken

pub returns-clause-earlier : goal.returns-clause-earlier
returns-clause-earlier g c =
    keeps-earlier c.in-Ok.ensures.opens c.new-reader.ensures.slot c.report_salvage-reported.ensures.run.1.gives.reads
