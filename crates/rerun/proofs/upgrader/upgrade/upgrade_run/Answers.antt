use Rattle.std.proofs.Common.{◌≡◌, ◌≤◌, [], ◌∷◌, ◌++◌, length, refl, sym, ap, subst, ◌∙◌, arith}
use Rattle.std.specs.Prelude.{Option, Some, None, Ok, Err}
use Rattle.std.proofs.lemmas.Result.{err_from_is_err_and}
use Rattle.det_values.specs.Values.{ProfileValue}
use Rattle.det_values.specs.declared.frames.Frame.TheVariants.{Terminate}
use Rattle.det_io.specs.Sink.{Grew}
use Rattle.det_io.specs.Traffic.{ShelfTraffic, shelf_run, sink_run}
use Rattle.record_view.specs.declared.view.FrameView.{FrameView}
use Rattle.record_grammar.specs.Spelling.{spelled, spelled_frame}
use Rattle.record_reader.proofs.Views.{shelf-then, same-failure}
use Rattle.record_reader.specs.Frames.{RoomFell, room}
use Rattle.recorder.specs.run_writer.Recording.{Cuts}
use Rattle.rerun.specs.checker.RerunFrames.{IsPlaced, IsEngineAfter}
use Rattle.copies.specs.declared.check_verdict.CheckVerdict.{CheckVerdict}
use Rattle.rerun.specs.upgrader.UpgradeStart.{in_format_of, header_of}
use Rattle.rerun.specs.upgrader.Frames.{GoesOn}
use Rattle.rerun.proofs.lemmas.checker.Departing.{inputs_of}
use Rattle.rerun.proofs.Reading.{none-of}
use Rattle.rerun.proofs.lemmas.checker.Running.{held-frame, next-read, next-frame, next-none, placed, front-few, can-come, compared-none}
use Rattle.rerun.proofs.lemmas.replayer.Running.{no-read as no-read-cut}
use Rattle.rerun.proofs.lemmas.upgrader.Order.{fewer_inputs}
use Rattle.rerun.proofs.lemmas.upgrader.Going.{two-is, written-behind, takes-as, running-next, no-write, no-read, compared-next, cycles-next}
use Rattle.rerun.proofs.lemmas.upgrader.Ending.{as-told, header-failed, departs, take-failed, close-failed, closed, reading-stopped}
use Rattle.rerun.proofs.upgrader.upgrade.upgrade_run.Goals as goal

pub returns-in_err-write_upgraded_header-clause-upgraded : goal.returns-in_err-write_upgraded_header-clause-upgraded
returns-in_err-write_upgraded_header-clause-upgraded g c read stands =
    let p = err_from_is_err_and c.from_residual.result c.from_residual.ensures.1 in
    let failure = c.in_err-write_upgraded_header.field-0.0 in
    let cut = subst (λ (q : ProfileValue). Cuts failure (g.K.Sink.took c.args.sink.now) (g.K.Sink.took c.write_upgraded_header.new.sink)
    (spelled q [])) (two-is c.args.original.now c.args.recording.now.profile c.requires.two) c.in_err-write_upgraded_header.ensures.cut in
    rw (p.1, p.2) (as-told _ _ []
    (header-failed _ _ read _ _ _ _ failure cut))

pub reading-init : goal.reading-init
reading-init g c =
    let m = g.J.Job.meaning in
    let profile = header_of c.args.original.now c.args.recording.now.profile in
    let two = two-is c.args.original.now c.args.recording.now.profile c.requires.two in
    let ok = c.in_ok-write_upgraded_header.ensures in
    let unstarted : IsEngineAfter m c.args.recording.now [] = record { engine = c.requires.new.engine; going = c.requires.new.going } in
    let grew = subst (λ (q : ProfileValue). Grew (g.K.Sink.took c.args.sink.now) (g.K.Sink.took c.write_upgraded_header.new.sink)
    (spelled q [])) two ok.took in
    record {
      running = (
        [],
        [],
        record {
          compared = compared-none m profile _ _ _
              (written-behind m c.args.recording.now c.write_upgraded_header.new.recording [] unstarted ok.engine ok.profile);
          grew = grew;
        },
        refl,
        refl,
      );
      profile = ok.profile ∙ two;
      format = refl;
      slot = refl;
      shelf_traffic = record { cause = λ e. cc; counted = omega arith; stays = g.met.S.Slots.stays_same _ };
      sink_traffic = record { cause = λ e. cc; counted = ok.traffic.counted };
    }

pub returns-in_err-view-clause-upgraded : goal.returns-in_err-view-clause-upgraded
returns-in_err-view-clause-upgraded g c read stands =
    let p = err_from_is_err_and c.from_residual-in_err-view.result c.from_residual-in_err-view.ensures.1 in
    let running = c.reading.invariant.running in
    let why = c.in_err-view.field-0.0 in
    let n = next-read running.2.compared c.next.new.self (Err why) (Err why) refl c.in_err-view.ensures.frame c.reading.invariant.slot in
    rw (p.1, p.2) (as-told _ _ n.all
    (reading-stopped _ _ _ _ _ running.2 c.next.new.self read stands why refl n))

pub returns-in_err-view-clause-sink_traffic : goal.returns-in_err-view-clause-sink_traffic
returns-in_err-view-clause-sink_traffic g c =
    let p = err_from_is_err_and c.from_residual-in_err-view.result c.from_residual-in_err-view.ensures.1 in
    let m = g.J.Job.meaning in
    let profile = header_of c.args.original.now c.args.recording.now.profile in
    let running = c.reading.invariant.running in
    let why = c.in_err-view.field-0.0 in
    let gave = c.requires.opened.gave in
    let n = next-read running.2.compared c.next.new.self (Err why) (Err why) refl c.in_err-view.ensures.frame c.reading.invariant.slot in
    let sink = sink_run g.K.Sink.took g.K.Sink.faults c.args.sink.now c.reading.sink in
    rw (p.1, p.2) (no-write m profile why gave.0 gave.1 n sink c.reading.invariant.sink_traffic)

pub returns-in_err-close-clause-upgraded : goal.returns-in_err-close-clause-upgraded
returns-in_err-close-clause-upgraded g c read stands =
    let p = err_from_is_err_and c.from_residual-in_err-close.result c.from_residual-in_err-close.ensures.1 in
    let running = c.reading.invariant.running in
    let n = next-none running.2.compared c.next.new.self c.in_ok-view.field-0 c.in_default.not-Some c.in_ok-view.ensures.frame
    c.reading.invariant.slot in
    let failure = c.in_err-close.field-0.0 in
    let cut = subst (λ (q : ProfileValue). Cuts failure (g.K.Sink.took c.reading.sink) (g.K.Sink.took c.close.new.sink)
    (spelled_frame q.format Terminate)) c.reading.invariant.profile c.in_err-close.ensures.cut in
    rw (p.1, p.2) (as-told _ _ n.all
    (close-failed _ _ _ _ _ running.2 c.next.new.self read stands n failure cut))

pub returns-in_default-clause-upgraded : goal.returns-in_default-clause-upgraded
returns-in_default-clause-upgraded g c read stands =
    let running = c.reading.invariant.running in
    let n = next-none running.2.compared c.next.new.self c.in_ok-view.field-0 c.in_default.not-Some c.in_ok-view.ensures.frame
    c.reading.invariant.slot in
    let grew = subst (λ (q : ProfileValue). Grew (g.K.Sink.took c.reading.sink) (g.K.Sink.took c.close.new.sink)
    (spelled_frame q.format Terminate)) c.reading.invariant.profile c.in_ok-close.ensures.took in
    as-told _ _ n.all
    (closed _ _ _ _ _ running.2 c.next.new.self read stands n
    c.reading.upgrade.cycles running.4 grew)

pub bytes-bytes-requires : goal.bytes-bytes-requires
bytes-bytes-requires g c = held-frame c.next.new.self c.in_ok-view.field-0 c.in-Some.view c.in-Some.is c.in_ok-view.ensures.held

pub take-requires-clause-behind : goal.take-requires-clause-behind
take-requires-clause-behind g c =
    let running = c.reading.invariant.running in (inputs_of running.1, running.2.compared.behind)

pub take-requires-clause-comes : goal.take-requires-clause-comes
take-requires-clause-comes g c =
    let compared = c.reading.invariant.running.2.compared in
    let n = next-frame compared c.next.new.self c.in_ok-view.field-0 c.in-Some.view c.in-Some.is c.in_ok-view.ensures.held
    c.in_ok-view.ensures.frame c.reading.invariant.slot in
    let gave = c.requires.opened.gave in
    let its = ap (λ (p : ProfileValue). length p.events) c.reading.invariant.profile in
    (n.0, c.bytes-bytes.ensures n.0 n.1, can-come n.2 gave.0 gave.1 c.reading.recording compared.behind its)

pub take-requires-clause-placed : goal.take-requires-clause-placed
take-requires-clause-placed g c =
    let profile = header_of c.args.original.now c.args.recording.now.profile in
    let gave = c.requires.opened.gave in
    let at = placed c.reading.invariant.running.2.compared c.next.new.self c.in_ok-view.field-0 c.in-Some.view c.in-Some.is
    c.in_ok-view.ensures.frame gave.0 gave.1 in
    let same : in_format_of c.reading.upgrade.format c.reading.recording.profile ≡ profile =
    (λ i. in_format_of (c.reading.invariant.format i) (c.reading.invariant.profile i)) in
    subst (IsPlaced c.in-Some.view.place) (sym same) at

pub take-requires-clause-few : goal.take-requires-clause-few
take-requires-clause-few g c =
    let running = c.reading.invariant.running in
    let gave = c.requires.opened.gave in
    let few = front-few running.2.compared gave.0 gave.1 in
    let same : c.reading.upgrade.compared ≡ length running.1 = running.3 in
    omega arith

pub take-requires-clause-cycles : goal.take-requires-clause-cycles
take-requires-clause-cycles g c =
    let running = c.reading.invariant.running in
    let same : c.reading.upgrade.compared ≡ length running.1 = running.3 in
    let cycles : c.reading.upgrade.cycles ≡ length (inputs_of running.1) = running.4 in
    let fewer : length (inputs_of running.1) ≤ length running.1 = fewer_inputs running.1 in
    omega arith

pub returns-in_err-at-clause-upgraded : goal.returns-in_err-at-clause-upgraded
returns-in_err-at-clause-upgraded g c read stands =
    let p = err_from_is_err_and c.from_residual-in_err-at.result c.from_residual-in_err-at.ensures.1 in
    let m = g.J.Job.meaning in
    let profile = header_of c.args.original.now c.args.recording.now.profile in
    let running = c.reading.invariant.running in
    let n = next-frame running.2.compared c.next.new.self c.in_ok-view.field-0 c.in-Some.view c.in-Some.is c.in_ok-view.ensures.held
    c.in_ok-view.ensures.frame c.reading.invariant.slot in
    let step = sink_run g.K.Sink.took g.K.Sink.faults c.reading.sink c.take.new.sink in
    let failure = c.in_err-at.field-0.0 in
    let goes_on = GoesOn m (inputs_of running.1) n.0 c.take.new.recording c.reading.upgrade c.take.new.self in
    let takes = takes-as m profile (Err failure) (Err failure) c.reading.upgrade.compared c.reading.upgrade.format
    c.reading.recording.profile running.1
    n.0 goes_on step refl running.3 c.reading.invariant.format c.reading.invariant.profile
    (c.in_err-at.ensures.takes (inputs_of running.1) n.0 running.2.compared.behind
    (c.bytes-bytes.ensures n.0 n.1)) in
    rw (p.1, p.2) (as-told _ _ n.2.all
    (take-failed _ _ _ _ _ running.2 c.next.new.self read stands n.0 n.2
    failure goes_on step refl refl takes))

pub returns-in_err-at-clause-shelf_traffic : goal.returns-in_err-at-clause-shelf_traffic
returns-in_err-at-clause-shelf_traffic g c =
    let p = err_from_is_err_and c.from_residual-in_err-at.result c.from_residual-in_err-at.ensures.1 in
    let running = c.reading.invariant.running in
    let held = held-frame c.next.new.self c.in_ok-view.field-0 c.in-Some.view c.in-Some.is c.in_ok-view.ensures.held in
    let shelf = shelf_run g.S.Slots.sees g.S.Slots.stays c.args.shelf.now c.next.new.shelf in
    let step = sink_run g.K.Sink.took g.K.Sink.faults c.reading.sink c.take.new.sink in
    rw (p.1, p.2) (no-read c.in_err-at.field-0.0 _ _ _ shelf step
    (c.in_err-at.ensures.takes (inputs_of running.1) held.0 running.2.compared.behind
    (c.bytes-bytes.ensures held.0 held.1))
    (shelf-then (g.met.S.Slots.stays_on _ _ _) c.reading.invariant.shelf_traffic c.in_ok-view.ensures.traffic))

pub returns-in-Some-2-clause-upgraded : goal.returns-in-Some-2-clause-upgraded
returns-in-Some-2-clause-upgraded g c read stands =
    let m = g.J.Job.meaning in
    let profile = header_of c.args.original.now c.args.recording.now.profile in
    let running = c.reading.invariant.running in
    let n = next-frame running.2.compared c.next.new.self c.in_ok-view.field-0 c.in-Some.view c.in-Some.is c.in_ok-view.ensures.held
    c.in_ok-view.ensures.frame c.reading.invariant.slot in
    let step = sink_run g.K.Sink.took g.K.Sink.faults c.reading.sink c.take.new.sink in
    let goes_on = GoesOn m (inputs_of running.1) n.0 c.take.new.recording c.reading.upgrade c.take.new.self in
    let at = c.in-Some-2.at in
    let takes = takes-as m profile (Ok c.in_ok-at.field-0) (Ok (Some at)) c.reading.upgrade.compared c.reading.upgrade.format
    c.reading.recording.profile running.1
    n.0 goes_on step (ap Ok c.in-Some-2.is) running.3 c.reading.invariant.format
    c.reading.invariant.profile (c.in_ok-at.ensures.takes (inputs_of running.1) n.0 running.2.compared.behind
    (c.bytes-bytes.ensures n.0 n.1)) in
    as-told _ _ n.2.all
    (departs _ _ _ _ _ running.2 c.next.new.self read stands n.0 n.2
    at takes.0 takes.1)

pub reading-smaller : goal.reading-smaller
reading-smaller g c =
    let gave = c.requires.opened.gave in
    subst (λ (o : Option FrameView). RoomFell (Ok o) (room c.reading.original.frames) (room c.next.new.self)) c.in-Some.is
    (c.in_ok-view.ensures.room _ _ (c.reading.invariant.running.2.compared.gave gave.0 gave.1))

pub reading-preserved : goal.reading-preserved
reading-preserved g c =
    let m = g.J.Job.meaning in
    let profile = header_of c.args.original.now c.args.recording.now.profile in
    let running = c.reading.invariant.running in
    let n = next-frame running.2.compared c.next.new.self c.in_ok-view.field-0 c.in-Some.view c.in-Some.is c.in_ok-view.ensures.held
    c.in_ok-view.ensures.frame c.reading.invariant.slot in
    let step = sink_run g.K.Sink.took g.K.Sink.faults c.reading.sink c.take.new.sink in
    let frame = n.0 in
    let goes_on = GoesOn m (inputs_of running.1) frame c.take.new.recording c.reading.upgrade c.take.new.self in
    let takes = takes-as m profile (Ok c.in_ok-at.field-0) (Ok None) c.reading.upgrade.compared c.reading.upgrade.format
    c.reading.recording.profile running.1
    frame goes_on step (ap Ok (none-of c.in_ok-at.field-0 c.in_default-2.not-Some)) running.3 c.reading.invariant.format
    c.reading.invariant.profile (c.in_ok-at.ensures.takes (inputs_of running.1) n.0 running.2.compared.behind
    (c.bytes-bytes.ensures n.0 n.1)) in
    let counted = takes.2.counted in
    record {
      running = (
        n.2.all,
        running.1 ++ frame ∷ [],
        running-next m profile running.2 c.next.new.self frame n.2 c.take.new.recording
            (g.K.Sink.took c.take.new.sink) takes.0 takes.1 takes.2.behind,
        counted.compared ∙ compared-next running.1 frame running.3,
        counted.cycles ∙ cycles-next running.1 frame running.4,
      );
      profile = c.in_ok-at.ensures.profile ∙ c.reading.invariant.profile;
      format = c.in_ok-at.ensures.format ∙ c.reading.invariant.format;
      slot = c.in_ok-view.ensures.slot ∙ c.reading.invariant.slot;
      shelf_traffic = shelf-then (g.met.S.Slots.stays_on _ _ _) c.reading.invariant.shelf_traffic c.in_ok-view.ensures.traffic;
      sink_traffic = record {
        cause = λ e. cc;
        counted = omega (arith, c.reading.invariant.sink_traffic.counted, c.in_ok-at.ensures.traffic.counted);
      };
    }

pub returns-in_err-view-clause-shelf_traffic : goal.returns-in_err-view-clause-shelf_traffic
returns-in_err-view-clause-shelf_traffic g c =
    let p = err_from_is_err_and c.from_residual-in_err-view.result c.from_residual-in_err-view.ensures.1 in
    let shelf = shelf_run g.S.Slots.sees g.S.Slots.stays c.args.shelf.now c.next.new.shelf in
    rw (p.1, p.2) (subst (ShelfTraffic shelf) (same-failure (Option FrameView) CheckVerdict c.in_err-view.field-0.0)
    (shelf-then (g.met.S.Slots.stays_on _ _ _) c.reading.invariant.shelf_traffic c.in_err-view.ensures.traffic))

pub returns-in_err-close-clause-shelf_traffic : goal.returns-in_err-close-clause-shelf_traffic
returns-in_err-close-clause-shelf_traffic g c =
    let p = err_from_is_err_and c.from_residual-in_err-close.result c.from_residual-in_err-close.ensures.1 in
    let shelf = shelf_run g.S.Slots.sees g.S.Slots.stays c.args.shelf.now c.next.new.shelf in
    rw (p.1, p.2) (no-read-cut c.in_err-close.field-0.0 _ _ _ shelf c.in_err-close.ensures.cut
    (shelf-then (g.met.S.Slots.stays_on _ _ _) c.reading.invariant.shelf_traffic c.in_ok-view.ensures.traffic))

pub returns-in_default-clause-shelf_traffic : goal.returns-in_default-clause-shelf_traffic
returns-in_default-clause-shelf_traffic g c =
    shelf-then (g.met.S.Slots.stays_on _ _ _) c.reading.invariant.shelf_traffic c.in_ok-view.ensures.traffic

pub returns-in-Some-2-clause-shelf_traffic : goal.returns-in-Some-2-clause-shelf_traffic
returns-in-Some-2-clause-shelf_traffic g c =
    shelf-then (g.met.S.Slots.stays_on _ _ _) c.reading.invariant.shelf_traffic c.in_ok-view.ensures.traffic
