use Rattle.std.proofs.Common.{◌++◌, Result, subst}
use Rattle.det_io.specs.declared.failure.Stopped.{Stopped}
use Rattle.det_io.specs.Sink.{Grew, GrewShort}
use Rattle.det_io.specs.Traffic.{sink_run}
use Rattle.det_io.proofs.Growth.{short-wider, grew-then-short}
use Rattle.det_io.proofs.Prefixes.{prefix-append}
use Rattle.record_grammar.specs.declared.record_fault.RecordFault.{RecordFault}
use Rattle.record_reader.specs.SalvageState.{Puts}
use Rattle.record_reader.proofs.lemmas.item_reader.Passing.{passed-on}
use Rattle.record_reader.proofs.salvage.Salvage.put.Goals as goal

pub returns-in_err-write_all-clause-puts : goal.returns-in_err-write_all-clause-puts
returns-in_err-write_all-clause-puts g c =
    let out = sink_run g.K.Sink.took g.K.Sink.faults c.args.sink.now c.write_all.new.sink in
    let all = c.args.self.now.out.items ++ c.args.bytes.now in
    passed-on (λ (r : Result (Unit {0}) (Stopped RecordFault)). Puts r c.args.self.now.has_begun all c.args.self.now.out.items out)
    c.from_residual-in_err-write_all.result c.from_residual-in_err-write_all.ensures.1 (
      c.if-not-self.false,
      short-wider out.before out.after c.args.self.now.out.items all
          (subst (GrewShort out.before out.after) c.deref.ensures.value c.in_err-write_all.ensures.short)
          (prefix-append c.args.self.now.out.items c.args.bytes.now),
    )

pub returns-in_err-write_all-2-clause-puts : goal.returns-in_err-write_all-2-clause-puts
returns-in_err-write_all-2-clause-puts g c =
    let out = sink_run g.K.Sink.took g.K.Sink.faults c.args.sink.now c.write_all-2.new.sink in
    let all = c.args.self.now.out.items ++ c.args.bytes.now in
    passed-on (λ (r : Result (Unit {0}) (Stopped RecordFault)). Puts r c.args.self.now.has_begun all c.clear.new.self.items out)
    c.from_residual-in_err-write_all-2.result c.from_residual-in_err-write_all-2.ensures.1 (
      c.if-not-self.false,
      grew-then-short out.before (g.K.Sink.took c.write_all.new.sink) out.after c.args.self.now.out.items c.args.bytes.now
          (subst (Grew out.before (g.K.Sink.took c.write_all.new.sink)) c.deref.ensures.value c.in_ok-write_all.ensures.all)
          c.in_err-write_all-2.ensures.short,
    )
