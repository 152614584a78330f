use Rattle.std.proofs.Common.{◌<◌, ℕ, ◌++◌, Option, Some, None, Result, Ok, Err, subst, ◌∙◌, rules}
use Rattle.det_io.specs.declared.failure.Stopped.{Stopped}
use Rattle.det_io.specs.Shelf.{IsAtEnd}
use Rattle.det_io.specs.Traffic.{ShelfTraffic, shelf_run, failure_in}
use Rattle.record_grammar.specs.declared.record_fault.RecordFault.{RecordFault}
use Rattle.record_view.specs.declared.view.ItemView.{ItemView}
use Rattle.record_reader.specs.declared.item_reader.reader.Progress.{Progress}
use Rattle.record_reader.specs.item_reader.StandsFor.{StandsFor, HasRead, ItemIs, RoomFell, GaveView, slot_of, room}
use Rattle.record_reader.specs.item_reader.Steps.{StepIs, Shrinks, GoesOn, ScannedBy}
use Rattle.record_reader.proofs.lemmas.item_reader.Passing.{passed-on}
use Rattle.record_reader.proofs.lemmas.item_reader.Stepping.{read_then}
use Rattle.record_reader.proofs.item_reader.reader.ItemReader.next.Goals as goal

pub returns-in_err-step-clause-item : goal.returns-in_err-step-clause-item
returns-in_err-step-clause-item g c =
    let h = c.steps.invariant in
    passed-on (λ (r : Result (Option ItemView) (Stopped RecordFault)). HasRead (g.S.Slots.sees c.args.shelf.now)
    (g.S.Slots.sees c.step.new.shelf) c.args.self.now
    (ItemIs r c.step.new.self (IsAtEnd (g.S.Slots.sees c.step.new.shelf) (slot_of c.args.self.now)))) c.from_residual.result
    c.from_residual.ensures.1
    (read_then c.args.self.now c.steps.self (λ slot. ItemIs (Err c.in_err-step.field-0.0) c.step.new.self
    (IsAtEnd (g.S.Slots.sees c.step.new.shelf) slot)) h.slot h.read c.in_err-step.ensures.step)

pub returns-in_err-step-clause-room : goal.returns-in_err-step-clause-room
returns-in_err-step-clause-room g c read given stands =
    let h = c.steps.invariant in
    passed-on (λ (r : Result (Option ItemView) (Stopped RecordFault)). RoomFell r (room c.args.self.now) (room c.step.new.self))
    c.from_residual.result c.from_residual.ensures.1
    (c.in_err-step.ensures.shrinks (read ++ h.read.0) given (h.read.2 read given stands).1 ∙ h.room read given stands)

pub returns-in-Item-clause-item : goal.returns-in-Item-clause-item
returns-in-Item-clause-item g c =
    let h = c.steps.invariant in
    read_then c.args.self.now c.steps.self (λ slot. ItemIs (Ok (Some c.in-Item.view)) c.step.new.self
    (IsAtEnd (g.S.Slots.sees c.step.new.shelf) slot)) h.slot h.read
    (rw c.in-Item.is at c.in_ok-step.ensures.step)

pub returns-in-Item-clause-room : goal.returns-in-Item-clause-room
returns-in-Item-clause-room g c read given stands =
    let h = c.steps.invariant in
    let less : room c.step.new.self < room c.steps.self =
    subst (λ (p : Progress). Shrinks (Ok p) (room c.steps.self) (room c.step.new.self)) c.in-Item.is
    (c.in_ok-step.ensures.shrinks (read ++ h.read.0) given (h.read.2 read given stands).1) in
    subst (λ (n : ℕ). room c.step.new.self < n) (h.room read given stands) less

pub returns-in-End-clause-item : goal.returns-in-End-clause-item
returns-in-End-clause-item g c =
    let h = c.steps.invariant in
    read_then c.args.self.now c.steps.self (λ slot. ItemIs (Ok None) c.step.new.self (IsAtEnd (g.S.Slots.sees c.step.new.shelf) slot))
    h.slot h.read
    (rw c.in-End.is at c.in_ok-step.ensures.step)

pub returns-in-End-clause-room : goal.returns-in-End-clause-room
returns-in-End-clause-room g c read given stands =
    let h = c.steps.invariant in
    subst (λ (p : Progress). Shrinks (Ok p) (room c.steps.self) (room c.step.new.self)) c.in-End.is
    (c.in_ok-step.ensures.shrinks (read ++ h.read.0) given (h.read.2 read given stands).1) ∙ h.room read given stands

pub steps-preserved : goal.steps-preserved
steps-preserved g c =
    let h = c.steps.invariant in
    let s = c.in_ok-step.ensures in
    let on = subst (λ (p : Progress). GoesOn (Ok p) c.steps.self c.step.new.self) c.in-Piece.is s.going in
    let step : HasRead (g.S.Slots.sees c.steps.shelf) (g.S.Slots.sees c.step.new.shelf) c.steps.self (StandsFor c.step.new.self) =
    subst (λ (p : Progress). HasRead (g.S.Slots.sees c.steps.shelf) (g.S.Slots.sees c.step.new.shelf) c.steps.self
    (StepIs (Ok p) c.step.new.self (IsAtEnd (g.S.Slots.sees c.step.new.shelf) (slot_of c.steps.self)))) c.in-Piece.is s.step in
    record {
      read = read_then c.args.self.now c.steps.self (λ slot. StandsFor c.step.new.self) h.slot h.read step;
      scanned = subst (λ (p : Progress). ScannedBy (Ok p) c.step.new.self) c.in-Piece.is (s.scanned h.scanned);
      last = on.0;
      going = on.1;
      slot = s.slot ∙ h.slot;
      room = λ read given stands. subst (λ (p : Progress). Shrinks (Ok p) (room c.steps.self) (room c.step.new.self)) c.in-Piece.is
          (s.shrinks (read ++ h.read.0) given (h.read.2 read given stands).1) ∙ h.room read given stands;
      traffic = search rules;
    }

pub returns-in_err-step-clause-traffic : goal.returns-in_err-step-clause-traffic
returns-in_err-step-clause-traffic g c =
    let h = c.steps.invariant.traffic in
    let s = c.in_err-step.ensures.traffic in
    passed-on (λ (r : Result (Option ItemView) (Stopped RecordFault)). ShelfTraffic (shelf_run g.S.Slots.sees g.S.Slots.stays
    c.args.shelf.now c.step.new.shelf) (failure_in r)) c.from_residual.result c.from_residual.ensures.1
    (record { cause = search rules; counted = search rules; stays = search rules })

pub returns-in-Item-clause-traffic : goal.returns-in-Item-clause-traffic
returns-in-Item-clause-traffic g c =
    let h = c.steps.invariant.traffic in
    let s = c.in_ok-step.ensures.traffic in
    search rules

pub returns-in-End-clause-traffic : goal.returns-in-End-clause-traffic
returns-in-End-clause-traffic g c =
    let h = c.steps.invariant.traffic in
    let s = c.in_ok-step.ensures.traffic in
    search rules

pub returns-in_err-step-clause-held : goal.returns-in_err-step-clause-held
returns-in_err-step-clause-held g c =
    passed-on (λ (r : Result (Option ItemView) (Stopped RecordFault)). GaveView r c.step.new.self) c.from_residual.result
    c.from_residual.ensures.1 tt

pub returns-in-Item-clause-held : goal.returns-in-Item-clause-held
returns-in-Item-clause-held g c =
    subst (λ (p : Progress). ScannedBy (Ok p) c.step.new.self) c.in-Item.is (c.in_ok-step.ensures.scanned c.steps.invariant.scanned)
