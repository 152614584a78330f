use Rattle.std.proofs.Common.{◌≡◌, [], ◌∷◌, ◌++◌, Option, Some, None, Ok, Err, refl, sym, ap, subst, ◌∙◌, arith, length}
use Rattle.det_values.specs.Values.{ProfileValue}
use Rattle.record_view.specs.declared.view.FrameView.{FrameView}
use Rattle.record_reader.proofs.Views.{shelf-then}
use Rattle.record_reader.specs.Frames.{RoomFell, room}
use Rattle.std.proofs.lemmas.Result.{err_from_is_err_and}
use Rattle.copies.specs.FirstDifference.{frame_difference}
use Rattle.rerun.specs.checker.RerunFrames.{IsPlaced, rerun_frame}
use Rattle.rerun.proofs.lemmas.checker.Departing.{inputs_of}
use Rattle.rerun.proofs.Reading.{none-of}
use Rattle.rerun.proofs.lemmas.checker.Running.{items_with, comparing-new, next-read, next-frame, next-none, held-frame, placed, front-few}
use Rattle.rerun.proofs.lemmas.checker.Running.{inputs-few, can-come, comparing-next}
use Rattle.rerun.proofs.lemmas.checker.Ending.{reading-stopped, all-agree, one-differs, unchecked}
use Rattle.rerun.proofs.checker.check.check_run.Goals as goal

pub reading-init : goal.reading-init
reading-init g c =
    let opened = c.requires.new in
    record {
      comparing = (
        [],
        [],
        comparing-new g.J.Job.meaning c.args.recording.now.profile (g.S.Slots.sees c.args.shelf.now) _ c.args.frames.now
            c.args.recording.now c.new-checker.result (record { engine = opened.engine; going = opened.going })
            c.new-checker.ensures.compared c.new-checker.ensures.cycles,
      );
      profile = refl;
      slot = refl;
      traffic = record { cause = λ e. cc; counted = omega arith; stays = g.met.S.Slots.stays_same _ };
    }

pub returns-in_err-view-clause-checked : goal.returns-in_err-view-clause-checked
returns-in_err-view-clause-checked g c read stands =
    let comparing = c.reading.invariant.comparing.2 in
    let why = c.in_err-view.field-0.0 in
    let n = next-read comparing.so_far c.next.new.self (Err why) (Err why) refl c.in_err-view.ensures.frame c.reading.invariant.slot in
    let p = err_from_is_err_and c.from_residual.result c.from_residual.ensures.1 in
    rw (p.1, p.2) (reading-stopped _ _ _ _ _ comparing c.next.new.self read stands why n)

pub returns-in_default-clause-checked : goal.returns-in_default-clause-checked
returns-in_default-clause-checked g c read stands =
    let comparing = c.reading.invariant.comparing.2 in
    let n = next-none comparing.so_far c.next.new.self c.in_ok-view.field-0 c.in_default.not-Some c.in_ok-view.ensures.frame
    c.reading.invariant.slot in
    all-agree _ _ _ _ _ comparing c.next.new.self read stands n

pub bytes-bytes-requires : goal.bytes-bytes-requires
bytes-bytes-requires g c = held-frame c.next.new.self c.in_ok-view.field-0 c.in-Some.view c.in-Some.is c.in_ok-view.ensures.held

pub take-requires-clause-comes : goal.take-requires-clause-comes
take-requires-clause-comes g c =
    let so_far = c.reading.invariant.comparing.2.so_far in
    let n = next-frame so_far c.next.new.self c.in_ok-view.field-0 c.in-Some.view c.in-Some.is c.in_ok-view.ensures.held
    c.in_ok-view.ensures.frame c.reading.invariant.slot in
    let gave = c.requires.opened.gave in
    let its = ap (λ (p : ProfileValue). length p.events) c.reading.invariant.profile in
    (n.0, c.bytes-bytes.ensures n.0 n.1, can-come n.2 gave.0 gave.1 c.reading.recording so_far.behind its)

pub take-requires-clause-placed : goal.take-requires-clause-placed
take-requires-clause-placed g c =
    let gave = c.requires.opened.gave in
    subst (λ (p : ProfileValue). IsPlaced c.in-Some.view.place p) (sym c.reading.invariant.profile)
    (placed c.reading.invariant.comparing.2.so_far c.next.new.self c.in_ok-view.field-0 c.in-Some.view c.in-Some.is
    c.in_ok-view.ensures.frame gave.0 gave.1)

pub take-requires-clause-few : goal.take-requires-clause-few
take-requires-clause-few g c =
    let gave = c.requires.opened.gave in
    let few = front-few c.reading.invariant.comparing.2.so_far gave.0 gave.1 in
    let compared = c.reading.invariant.comparing.2.compared in
    omega (arith, few, compared)

pub take-requires-clause-few_cycles : goal.take-requires-clause-few_cycles
take-requires-clause-few_cycles g c =
    let gave = c.requires.opened.gave in
    let few = inputs-few c.reading.invariant.comparing.2.so_far gave.0 gave.1 in
    let cycles = c.reading.invariant.comparing.2.cycles in
    omega (arith, few, cycles)

pub returns-in_err-at-clause-checked : goal.returns-in_err-at-clause-checked
returns-in_err-at-clause-checked g c read stands =
    let comparing = c.reading.invariant.comparing.2 in
    let n = next-frame comparing.so_far c.next.new.self c.in_ok-view.field-0 c.in-Some.view c.in-Some.is c.in_ok-view.ensures.held
    c.in_ok-view.ensures.frame c.reading.invariant.slot in
    let p = err_from_is_err_and c.from_residual-in_err-at.result c.from_residual-in_err-at.ensures.1 in
    rw (p.1, p.2) (unchecked _ _ _ _ _ comparing c.next.new.self read stands n.0 n.2)

pub returns-in-Some-2-clause-checked : goal.returns-in-Some-2-clause-checked
returns-in-Some-2-clause-checked g c read stands =
    let inv = c.reading.invariant in
    let comparing = inv.comparing.2 in
    let n = next-frame comparing.so_far c.next.new.self c.in_ok-view.field-0 c.in-Some.view c.in-Some.is c.in_ok-view.ensures.held
    c.in_ok-view.ensures.frame inv.slot in
    let spells = c.bytes-bytes.ensures n.0 n.1 in
    let given = inputs_of inv.comparing.1 in
    let differs = subst (λ (p : ProfileValue). frame_difference c.reading.checker.compared n.0
    (rerun_frame g.J.Job.meaning p given n.0) ≡ Some c.in-Some-2.at) inv.profile
    (sym (c.in_ok-at.ensures.apart given n.0 comparing.so_far.behind spells) ∙ c.in-Some-2.is) in
    one-differs _ _ _ _ _ comparing c.next.new.self read stands n.0 c.in-Some-2.at n.2 differs (c.in_ok-at.ensures.shown n.0 spells)

pub returns-in-Some-2-clause-traffic : goal.returns-in-Some-2-clause-traffic
returns-in-Some-2-clause-traffic g c =
    shelf-then (g.met.S.Slots.stays_on _ _ _) c.reading.invariant.traffic c.in_ok-view.ensures.traffic

pub reading-smaller : goal.reading-smaller
reading-smaller g c =
    let gave = c.requires.opened.gave in
    let comparing = c.reading.invariant.comparing in
    subst (λ (o : Option FrameView). RoomFell (Ok o) (room c.reading.frames) (room c.next.new.self)) c.in-Some.is
    (c.in_ok-view.ensures.room (gave.0 ++ comparing.0) (items_with c.args.recording.now.profile comparing.1)
    (comparing.2.so_far.gave gave.0 gave.1))

pub reading-preserved : goal.reading-preserved
reading-preserved g c =
    let inv = c.reading.invariant in
    let comparing = inv.comparing.2 in
    let n = next-frame comparing.so_far c.next.new.self c.in_ok-view.field-0 c.in-Some.view c.in-Some.is c.in_ok-view.ensures.held
    c.in_ok-view.ensures.frame inv.slot in
    let ok = c.in_ok-at.ensures in
    let spells = c.bytes-bytes.ensures n.0 n.1 in
    let given = inputs_of inv.comparing.1 in
    let same = subst (λ (p : ProfileValue). frame_difference c.reading.checker.compared n.0
    (rerun_frame g.J.Job.meaning p given n.0) ≡ None) inv.profile
    (sym (ok.apart given n.0 comparing.so_far.behind spells) ∙ none-of c.in_ok-at.field-0 c.in_default-2.not-Some) in
    let next = comparing-next n.2 comparing (ok.behind given n.0 comparing.so_far.behind spells) same
    (ok.shown n.0 spells) ok.compared (ok.cycles n.0 spells) in
    record {
      comparing = (n.2.all, inv.comparing.1 ++ n.0 ∷ [], next);
      profile = ok.profile ∙ inv.profile;
      slot = c.in_ok-view.ensures.slot ∙ inv.slot;
      traffic = shelf-then (g.met.S.Slots.stays_on _ _ _) inv.traffic c.in_ok-view.ensures.traffic;
    }
