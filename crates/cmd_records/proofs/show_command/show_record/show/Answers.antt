use Rattle.std.proofs.Common.{Result, ap, subst, ◌∙◌}
use Rattle.det_io.specs.declared.failure.Stopped.{Stopped}
use Rattle.det_io.specs.Traffic.{sink_run}
use Rattle.det_io.proofs.Opening.{asks-all, asks-then-kept}
use Rattle.det_io.proofs.Growth.{grew-none}
use Rattle.probes.specs.Shows.{seen}
use Rattle.record_grammar.specs.declared.record_fault.RecordFault.{RecordFault}
use Rattle.record_grammar.specs.Record.{items as items_in}
use Rattle.record_reader.proofs.Items.{no-items}
use Rattle.cli_answers.proofs.AnswerMeets.{meets-unopened}
use Rattle.cmd_records.specs.declared.record_show.shown.Shown.{Shown}
use Rattle.cmd_records.specs.command_ends.Results.{UnlessNoMemory}
use Rattle.cmd_records.specs.record_show.ShowEnds.{SawFirst, WroteRead}
use Rattle.cmd_records.specs.record_show.Text.{lines_of}
use Rattle.cmd_records.specs.show_command.Show.{show_outcome}
use Rattle.cmd_records.proofs.lemmas.command_ends.OneRecord.{at-done, unless-no-memory, unopened, of-name, meets-record, broken-off}
use Rattle.cmd_records.proofs.lemmas.command_ends.OneRecord.{keeps-earlier}
use Rattle.cmd_records.proofs.lemmas.record_show.Answering.{saw-unread, kept-unread, no-lines}
use Rattle.cmd_records.proofs.lemmas.show_command.ShowMeets.{show-gives}
use Rattle.cmd_records.proofs.show_command.show_record.show.Goals as goal

pub returns-in-Err-clause-meets : goal.returns-in-Err-clause-meets
returns-in-Err-clause-meets g c =
    rw c.from.ensures (meets-unopened _ _ _ _ _ _ _ c.in-Err.ensures.traffic.cause c.in-Err.ensures.no_write)

pub returns-in-Err-clause-broken : goal.returns-in-Err-clause-broken
returns-in-Err-clause-broken g c e t =
    unopened (λ read. lines_of c.args.form (items_in read)) (g.K.Sink.took c.args.out.now)
    (ap (lines_of c.args.form) no-items ∙ no-lines c.args.form) c.in-Err.ensures.slots

pub returns-in-Err-clause-saw : goal.returns-in-Err-clause-saw
returns-in-Err-clause-saw g c ne t =
    let out = sink_run g.K.Sink.took g.K.Sink.faults c.args.out.now c.args.out.now in
    saw-unread c.args.form _ _ out (grew-none _)

pub returns-in-Err-clause-kept : goal.returns-in-Err-clause-kept
returns-in-Err-clause-kept g c = kept-unread c.args.form.part _

pub returns-clause-meets : goal.returns-clause-meets
returns-clause-meets g c =
    let s = c.show_run-shown in
    let old = seen (λ b. (goal.Probe-dyn g (b.vtable, b.value)).life b.value) c.args.audience.now in
    let out = sink_run g.K.Sink.took g.K.Sink.faults c.args.out.now s.new.sink in
    meets-record c.in-Ok.ensures.opens c.new-reader.ensures.slot s.result c.record_answer.result (show_outcome c.args.form old) out
    c.record_answer.ensures.is (show-gives c.args.form old out s.result s.ensures.run.1.answers) c.in-Ok.ensures.traffic.counted
    s.ensures.shelf_traffic s.ensures.sink_traffic

pub returns-clause-broken : goal.returns-clause-broken
returns-clause-broken g c =
    let s = c.show_run-shown in
    let run = s.ensures.run in
    let out = sink_run g.K.Sink.took g.K.Sink.faults c.args.out.now s.new.sink in
    broken-off c.in-Ok.ensures.opens c.new-reader.ensures.slot s.result (λ read. lines_of c.args.form (items_in read)) out
    c.record_answer.ensures.is run.1.answers.reads
    (λ e. subst (λ (r : Result Shown (Stopped RecordFault)). WroteRead r c.args.form run.0 out) e run.1.wrote)

pub returns-clause-saw : goal.returns-clause-saw
returns-clause-saw g c ne is_known =
    let s = c.show_run-shown in
    let old = seen (λ b. (goal.Probe-dyn g (b.vtable, b.value)).life b.value) c.args.audience.now in
    let now = seen (λ b. (goal.Probe-dyn g (b.vtable, b.value)).life b.value) s.new.audience in
    let out = sink_run g.K.Sink.took g.K.Sink.faults c.args.out.now s.new.sink in
    unless-no-memory s.result c.record_answer.result c.record_answer.ensures.is
    (of-name c.in-Ok.ensures.opens c.new-reader.ensures.slot
    (λ bytes. UnlessNoMemory s.result (SawFirst c.args.form old now bytes out)) s.ensures.run.1.sees is_known) ne

pub returns-clause-gone : goal.returns-clause-gone
returns-clause-gone g c =
    at-done c.show_run-shown.result c.record_answer.result c.record_answer.ensures.is c.show_run-shown.ensures.run.1.gone

pub returns-clause-kept : goal.returns-clause-kept
returns-clause-kept g c = c.show_run-shown.ensures.run.1.kept

pub returns-clause-asked : goal.returns-clause-asked
returns-clause-asked g c = asks-all _ _ _ (asks-then-kept c.in-Ok.ensures.asks c.show_run-shown.ensures.run.1.answers.reads.asked)

pub returns-clause-earlier : goal.returns-clause-earlier
returns-clause-earlier g c =
    keeps-earlier c.in-Ok.ensures.opens c.new-reader.ensures.slot c.show_run-shown.ensures.run.1.answers.reads
