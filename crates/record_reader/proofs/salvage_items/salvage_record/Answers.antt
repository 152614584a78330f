use Rattle.std.proofs.Common.{sym, ◌∙◌, Result, rules}
use Rattle.det_io.specs.declared.failure.Stopped.{Stopped}
use Rattle.det_io.specs.Traffic.{shelf_run, sink_run}
use Rattle.record_grammar.specs.declared.record_fault.RecordFault.{RecordFault}
use Rattle.record_reader.specs.declared.salvage.Salvaged.{Salvaged}
use Rattle.record_reader.specs.item_reader.StandsFor.{slot_of}
use Rattle.record_reader.specs.Salvages.{Ended}
use Rattle.record_reader.proofs.Ending.{ended-finished, ended-stopped, told-ok, told-nothing, told-part}
use Rattle.record_reader.proofs.lemmas.item_reader.Passing.{passed-on}
use Rattle.record_reader.proofs.salvage_items.salvage_record.Given as given
use Rattle.record_reader.proofs.salvage_items.salvage_record.Goals as goal

stopped : (g : given.Over) (c : goal.After-drop-salvage g)
    → Ended c.from_residual.result c.salvage_items-read.ensures.items.read
    (shelf_run g.S.Slots.sees g.S.Slots.stays c.args.shelf.now c.salvage_items-read.new.shelf) (slot_of c.args.reader.now)
    (sink_run g.K.Sink.took g.K.Sink.faults c.args.sink.now c.salvage_items-read.new.sink)
stopped g c =
    let h = c.salvage_items-read.ensures.items in
    let out = sink_run g.K.Sink.took g.K.Sink.faults c.args.sink.now c.salvage_items-read.new.sink in
    passed-on (λ (r : Result Salvaged (Stopped RecordFault)). Ended r h.read
    (shelf_run g.S.Slots.sees g.S.Slots.stays c.args.shelf.now c.salvage_items-read.new.shelf) (slot_of c.args.reader.now) out)
    c.from_residual.result c.from_residual.ensures.1
    (ended-stopped c.salvage_items-read.result c.in_err-settle_fault.field-0.0 out c.salvage_items-read.new.salvage h
    (sym c.settle_fault.ensures ∙ c.in_err-settle_fault.was))

pub returns-in_err-settle_fault-clause-part : goal.returns-in_err-settle_fault-clause-part
returns-in_err-settle_fault-clause-part g c = told-part (stopped g c)

pub returns-in_err-settle_fault-clause-run : goal.returns-in_err-settle_fault-clause-run
returns-in_err-settle_fault-clause-run g c = (_, stopped g c)

pub returns-in_err-settle_fault-clause-nothing : goal.returns-in_err-settle_fault-clause-nothing
returns-in_err-settle_fault-clause-nothing g c = told-nothing (stopped g c)

pub returns : goal.returns
returns g c =
    let ended = ended-finished c.salvage_items-read.result c.finish.result (g.K.Sink.took c.finish.new.sink)
    (g.K.Sink.faults c.finish.new.sink) c.salvage_items-read.new.salvage c.salvage_items-read.ensures.items
    (sym c.settle_fault.ensures ∙ c.in_ok-settle_fault.was) c.finish.ensures.finish in
    record {
      ok = told-ok ended;
      nothing = told-nothing ended;
      part = told-part ended;
      run = (_, ended);
      shelf_traffic = search rules;
      sink_traffic = search rules;
    }
