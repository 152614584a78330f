use Rattle.std.proofs.Common.{◌≡◌, [], ◌++◌, Result, subst, sym, arith}
use Rattle.det_io.specs.Shelf.{IsAtEnd}
use Rattle.det_io.specs.declared.failure.Stopped.{Stopped}
use Rattle.record_grammar.specs.declared.record_fault.RecordFault.{RecordFault}
use Rattle.record_reader.specs.declared.item_reader.reader.ItemReader.{ItemReader}
use Rattle.record_reader.specs.declared.item_reader.reader.Progress.{Progress}
use Rattle.record_reader.specs.item_reader.StandsFor.{StandsFor, slot_of}
use Rattle.record_reader.specs.item_reader.Steps.{StepIs}
use Rattle.record_reader.proofs.lemmas.item_reader.Reading.{reads_stand, reads_scan}
use Rattle.record_reader.proofs.lemmas.item_reader.Passing.{passed-on}
use Rattle.record_reader.proofs.lemmas.item_reader.Stepping.{failed, gave_still, ended, gave, no_bytes}
use Rattle.record_reader.proofs.item_reader.reader.ItemReader.read_on.Goals as goal

pub returns-in_err-n-clause-step : goal.returns-in_err-n-clause-step
returns-in_err-n-clause-step g c =
    let at_end = IsAtEnd (g.S.Slots.sees c.read_piece.new.shelf) (slot_of c.args.self.now) in
    let t = c.in_err-n.ensures.took in (
      t.more,
      t.reads,
      λ read given h. passed-on (λ (r : Result Progress (Stopped RecordFault)). StepIs r c.read_piece.new.self at_end
          (read ++ t.more) given)
          c.from_residual.result c.from_residual.ensures.1
          (failed c.in_err-n.field-0.0 c.args.self.now c.read_piece.new.self at_end read given t c.requires.last c.in_err-n.ensures.on h),
      t.are,
    )

pub returns-then-n-gt0-clause-step : goal.returns-then-n-gt0-clause-step
returns-then-n-gt0-clause-step g c =
    let t = c.in_ok-n.ensures.took in (
      t.more,
      t.reads,
      λ read given h. reads_stand c.args.self.now c.read_piece.new.self read t.more given c.requires.last c.in_ok-n.ensures.on t.is
          h.stands,
      t.are,
    )

pub returns-in-Ok-clause-step : goal.returns-in-Ok-clause-step
returns-in-Ok-clause-step g c =
    let old = c.args.self.now in
    let mid = c.read_piece.new.self in
    let t = c.in_ok-n.ensures.took in
    let e : t.more ≡ [] = no_bytes c.in_ok-n.n t.more t.told.0 (omega arith) in (
      t.more,
      t.reads,
      λ read given h. let k = gave_still old mid read t.more given c.requires.last c.in_ok-n.ensures.on t.is e h in (
        subst (λ (r : ItemReader). StandsFor r (read ++ t.more) given) (sym c.in-Ok.ensures.0) k.stands,
        t.told.1 e,
        (gave mid (read ++ t.more) given k).0,
        c.in-Ok.ensures.1 (read ++ t.more) given k,
      ),
      t.are,
    )

pub returns-in-Err-clause-step : goal.returns-in-Err-clause-step
returns-in-Err-clause-step g c =
    let old = c.args.self.now in
    let mid = c.read_piece.new.self in
    let at_end = IsAtEnd (g.S.Slots.sees c.read_piece.new.shelf) (slot_of old) in
    let t = c.in_ok-n.ensures.took in
    let e : t.more ≡ [] = no_bytes c.in_ok-n.n t.more t.told.0 (omega arith) in (
      t.more,
      t.reads,
      λ read given h. let k = gave_still old mid read t.more given c.requires.last c.in_ok-n.ensures.on t.is e h in (
        ended c.in-Err.fault mid at_end (read ++ t.more) given (t.told.1 e) k (c.in-Err.ensures.3 (read ++ t.more) given k),
        c.in-Err.ensures.0,
      ),
      t.are,
    )

pub returns-then-n-gt0-clause-scanned : goal.returns-then-n-gt0-clause-scanned
returns-then-n-gt0-clause-scanned g c scan =
    let t = c.in_ok-n.ensures.took in
    reads_scan c.args.self.now c.read_piece.new.self t.more c.requires.last c.in_ok-n.ensures.on t.is scan
