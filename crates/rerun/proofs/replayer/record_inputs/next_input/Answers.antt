use Rattle.std.proofs.Common.{inl, ℕ, List, [], Bool, Option, Some, None, Result, Ok, refl, sym, subst, ◌∙◌, ◌∷◌, ◌++◌, append-nil, arith}
use Rattle.det_values.specs.declared.frames.CycleInput.{CycleInput as Input}
use Rattle.det_io.specs.declared.failure.Stopped.{Stopped}
use Rattle.det_io.specs.Shelf.{IsAtEnd}
use Rattle.det_io.proofs.SlotReads.{reads-none}
use Rattle.record_grammar.specs.declared.record_fault.RecordFault.{RecordFault}
use Rattle.record_grammar.specs.declared.item.Item.TheVariants as items
use Rattle.record_view.specs.declared.view.FrameView.{FrameView}
use Rattle.record_codec.specs.Filled.{InputFilled}
use Rattle.record_reader.proofs.lemmas.item_reader.Passing.{passed-on}
use Rattle.record_reader.specs.Frames.{RoomFell, slot_of, room}
use Rattle.rerun.specs.replayer.NextInput.{HasGiven, ReadsOn, InputIs}
use Rattle.rerun.proofs.lemmas.replayer.Giving.{given-frame, then-skipped, then-input, then-no-memory, then-all, then-stopped}
use Rattle.rerun.proofs.Reading.{none-of}
use Rattle.rerun.proofs.replayer.record_inputs.next_input.Goals as goal

pub frames-init : goal.frames-init
frames-init g c = record {
  on = (
    [],
    reads-none (g.S.Slots.sees c.args.shelf.now) (slot_of c.args.frames.now),
    λ profile read given h. (
      inl refl,
      subst (λ (xs : List ℕ). HasGiven profile c.args.frames.now xs given) (sym (append-nil read)) h,
    ),
  );
  slot = refl;
  traffic = record { cause = λ e. cc; counted = omega arith; stays = g.met.S.Slots.stays_same _ };
}

pub next-requires-clause-headed : goal.next-requires-clause-headed
next-requires-clause-headed g c =
    let b = c.requires.begun in
    let on = c.frames.invariant.on in
    let gave : HasGiven b.0 c.frames.frames (b.1 ++ on.0) b.2 = (on.2 b.0 b.1 b.2 b.3).1 in
    (b.0, b.1 ++ on.0, gave.behind, gave.stands)

pub returns-in_err-view-clause-input : goal.returns-in_err-view-clause-input
returns-in_err-view-clause-input g c =
    passed-on (λ (r : Result (Option Input) (Stopped RecordFault)). ReadsOn (g.S.Slots.sees c.args.shelf.now)
    (g.S.Slots.sees c.next.new.shelf) c.args.frames.now
    (λ profile. InputIs r profile c.next.new.self (IsAtEnd (g.S.Slots.sees c.next.new.shelf) (slot_of c.args.frames.now))))
    c.from_residual.result c.from_residual.ensures.1
    (then-stopped c.next.new.self c.frames.invariant.slot c.frames.invariant.on c.in_err-view.field-0.0 c.in_err-view.ensures.frame)

pub returns-in_default-clause-input : goal.returns-in_default-clause-input
returns-in_default-clause-input g c =
    then-all c.next.new.self c.frames.invariant.slot c.frames.invariant.on
    (given-frame c.in_ok-view.field-0 None c.next.new.self (none-of c.in_ok-view.field-0 c.in_default.not-Some)
    c.in_ok-view.ensures.frame)

pub returns-in_err-fill_input-clause-input : goal.returns-in_err-fill_input-clause-input
returns-in_err-fill_input-clause-input g c =
    passed-on (λ (r : Result (Option Input) (Stopped RecordFault)). ReadsOn (g.S.Slots.sees c.args.shelf.now)
    (g.S.Slots.sees c.next.new.shelf) c.args.frames.now
    (λ profile. InputIs r profile c.next.new.self (IsAtEnd (g.S.Slots.sees c.next.new.shelf) (slot_of c.args.frames.now))))
    c.from_residual-in_err-fill_input.result c.from_residual-in_err-fill_input.ensures.1
    (then-no-memory c.next.new.self c.frames.invariant.slot c.frames.invariant.on c.in-Some.view
    (given-frame c.in_ok-view.field-0 (Some c.in-Some.view) c.next.new.self c.in-Some.is c.in_ok-view.ensures.frame))

pub returns-then-branch-clause-input : goal.returns-then-branch-clause-input
returns-then-branch-clause-input g c =
    let input = c.fill_input.new.input in
    then-input c.next.new.self c.frames.invariant.slot c.frames.invariant.on c.in-Some.view input
    (λ frame holds. subst (λ (is_run : Bool). InputFilled (Ok is_run) frame input) c.if-branch.true
    (c.in_ok-fill_input.ensures frame (c.bytes.ensures frame holds)))
    (given-frame c.in_ok-view.field-0 (Some c.in-Some.view) c.next.new.self c.in-Some.is c.in_ok-view.ensures.frame)

pub frames-smaller : goal.frames-smaller
frames-smaller g c =
    let on = c.frames.invariant.on in
    let b = c.requires.begun in
    let gave : HasGiven b.0 c.frames.frames (b.1 ++ on.0) b.2 = (on.2 b.0 b.1 b.2 b.3).1 in
    subst (λ (o : Option FrameView). RoomFell (Ok o) (room c.frames.frames) (room c.next.new.self)) c.in-Some.is
    (c.in_ok-view.ensures.room (b.1 ++ on.0) (items.Header b.0 ∷ gave.behind) gave.stands)

pub frames-preserved : goal.frames-preserved
frames-preserved g c =
    let input = c.fill_input.new.input in
    record {
      on = then-skipped c.next.new.self c.frames.invariant.slot c.frames.invariant.on c.in-Some.view input
          (λ frame holds. subst (λ (is_run : Bool). InputFilled (Ok is_run) frame input) c.if-branch.false
          (c.in_ok-fill_input.ensures frame (c.bytes.ensures frame holds)))
          (given-frame c.in_ok-view.field-0 (Some c.in-Some.view) c.next.new.self c.in-Some.is c.in_ok-view.ensures.frame);
      slot = c.in_ok-view.ensures.slot ∙ c.frames.invariant.slot;
      traffic = record {
        cause = λ e. cc;
        counted = omega (arith, c.frames.invariant.traffic.counted, c.in_ok-view.ensures.traffic.counted);
        stays = g.met.S.Slots.stays_on _ _ _ c.frames.invariant.traffic.stays c.in_ok-view.ensures.traffic.stays;
      };
    }
