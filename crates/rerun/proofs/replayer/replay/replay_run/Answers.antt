use Rattle.std.proofs.Common.{◌≡◌, ◌<◌, ◌+◌, ℕ, [], ◌∷◌, ◌++◌, refl, sym, ap, subst, ◌∙◌, arith, length}
use Rattle.std.specs.Prelude.{true, Option, Result, Ok, Err}
use Rattle.std.specs.List.{All}
use Rattle.std.proofs.lemmas.Result.{err_from_is_err_and}
use Rattle.det_values.specs.Values.{ProfileValue, SampleValue}
use Rattle.det_values.specs.declared.frames.CycleInput.{CycleInput}
use Rattle.det_values.specs.declared.frames.Frame.TheVariants.{Run, Terminate}
use Rattle.det_io.specs.Sink.{Grew}
use Rattle.det_io.specs.Traffic.{ShelfTraffic, shelf_run, sink_run}
use Rattle.det_io.specs.declared.failure.Stopped.{Stopped}
use Rattle.cycle_engine.specs.Frames.{runs}
use Rattle.record_grammar.specs.declared.record_fault.RecordFault.{RecordFault}
use Rattle.record_grammar.specs.Spelling.{spelled_frame}
use Rattle.record_reader.proofs.Views.{shelf-then, same-failure}
use Rattle.recorder.specs.declared.run_writer.counts.Counts.{Counts}
use Rattle.recorder.specs.run_writer.Record.{Counted, record_with}
use Rattle.recorder.specs.run_writer.Recording.{Cuts, Ran}
use Rattle.rerun.proofs.Reading.{none-of}
use Rattle.rerun.proofs.lemmas.replayer.Running.{next_run, running-opened, next-read, running-next, few-cycles, no-write, no-read}
use Rattle.rerun.proofs.lemmas.replayer.Ending.{open-failed, reading-stopped, cycle-failed, close-failed, closed}
use Rattle.rerun.proofs.lemmas.replayer.KnownRecord.{replayed}
use Rattle.rerun.proofs.replayer.replay.replay_run.Goals as goal

stop-is : (why : Stopped RecordFault) → ◌≡◌ {A = Result (Option CycleInput) (Stopped RecordFault)} (Err why) (Err why)
stop-is why = refl

pub returns-in_err-open-clause-replayed : goal.returns-in_err-open-clause-replayed
returns-in_err-open-clause-replayed g c read stands =
    let p = err_from_is_err_and c.from_residual.result c.from_residual.ensures.1 in
    rw (p.1, p.2) (replayed _ _ []
    (open-failed _ _ read _ _ _ _ c.in_err-open.field-0.0 c.in_err-open.ensures.cut))

pub cycles-init : goal.cycles-init
cycles-init g c = record {
  running = (
    [],
    [],
    running-opened g.J.Job.meaning c.args.recording.now.profile _ _ _ _ _ c.in_ok-open.ensures.opened.0 c.in_ok-open.ensures.opened.1,
  );
  profile = c.in_ok-open.ensures.profile;
  slot = refl;
  shelf_traffic = record { cause = λ e. cc; counted = omega arith; stays = g.met.S.Slots.stays_same _ };
  sink_traffic = record { cause = λ e. cc; counted = c.in_ok-open.ensures.traffic.counted };
}

pub next_input-requires-clause-begun : goal.next_input-requires-clause-begun
next_input-requires-clause-begun g c =
    let running = c.cycles.invariant.running in
    let gave = c.requires.opened.gave in
    (c.args.recording.now.profile, gave.0 ++ running.0, running.1, running.2.gave gave.0 gave.1)

pub returns-in_err-input-clause-replayed : goal.returns-in_err-input-clause-replayed
returns-in_err-input-clause-replayed g c read stands =
    let p = err_from_is_err_and c.from_residual-in_err-input.result c.from_residual-in_err-input.ensures.1 in
    let running = c.cycles.invariant.running in
    let why = c.in_err-input.field-0.0 in
    let n = next-read running.2 c.next_input.new.frames (stop-is why) c.in_err-input.ensures.input c.cycles.invariant.slot in
    rw (p.1, p.2) (replayed _ _ n.all
    (reading-stopped _ _ _ _ _ c.next_input.new.frames read stands why running.2 n))

pub returns-in_err-input-clause-sink_traffic : goal.returns-in_err-input-clause-sink_traffic
returns-in_err-input-clause-sink_traffic g c =
    let p = err_from_is_err_and c.from_residual-in_err-input.result c.from_residual-in_err-input.ensures.1 in
    let why = c.in_err-input.field-0.0 in
    let gave = c.requires.opened.gave in
    let n = next-read c.cycles.invariant.running.2 c.next_input.new.frames (stop-is why) c.in_err-input.ensures.input
    c.cycles.invariant.slot in
    let sink = sink_run g.K.Sink.took g.K.Sink.faults c.args.sink.now c.cycles.sink in
    rw (p.1, p.2) (no-write why gave.0 gave.1 n sink c.cycles.invariant.sink_traffic)

pub cycle-requires-clause-few : goal.cycle-requires-clause-few
cycle-requires-clause-few g c =
    let running = c.cycles.invariant.running in
    let n = next-read running.2 c.next_input.new.frames (ap Ok c.in-Some.is) c.in_ok-input.ensures.input c.cycles.invariant.slot in
    let gave = c.requires.opened.gave in
    few-cycles c.in-Some.input running.2.stands (n.is gave.0 gave.1).1.few

pub cycle-requires-clause-known : goal.cycle-requires-clause-known
cycle-requires-clause-known g c =
    let running = c.cycles.invariant.running in
    let n = next-read running.2 c.next_input.new.frames (ap Ok c.in-Some.is) c.in_ok-input.ensures.input c.cycles.invariant.slot in
    let gave = c.requires.opened.gave in
    subst (λ (k : ℕ). All (λ (s : SampleValue). s.event < k) c.in-Some.input.samples)
    (ap (λ (p : ProfileValue). length p.events) (sym c.cycles.invariant.profile)) (n.is gave.0 gave.1).1.known

pub returns-in_err-run-clause-replayed : goal.returns-in_err-run-clause-replayed
returns-in_err-run-clause-replayed g c read stands =
    let p = err_from_is_err_and c.from_residual-in_err-run.result c.from_residual-in_err-run.ensures.1 in
    let m = g.J.Job.meaning in
    let running = c.cycles.invariant.running in
    let n = next-read running.2 c.next_input.new.frames (ap Ok c.in-Some.is) c.in_ok-input.ensures.input c.cycles.invariant.slot in
    let failure = c.in_err-run.field-0.0 in
    let cut = subst (λ (p : ProfileValue). Cuts failure (g.K.Sink.took c.cycles.sink) (g.K.Sink.took c.cycle.new.sink)
    (spelled_frame p.format (Run (next_run m p running.1 c.in-Some.input)))) c.cycles.invariant.profile
    (c.in_err-run.ensures.cut running.1 running.2.stands) in
    rw (p.1, p.2) (replayed _ _ n.all
    (cycle-failed _ _ _ _ _ running.2 c.next_input.new.frames read stands c.in-Some.input failure n
    cut))

pub returns-in_err-run-clause-shelf_traffic : goal.returns-in_err-run-clause-shelf_traffic
returns-in_err-run-clause-shelf_traffic g c =
    let p = err_from_is_err_and c.from_residual-in_err-run.result c.from_residual-in_err-run.ensures.1 in
    let running = c.cycles.invariant.running in
    let shelf = shelf_run g.S.Slots.sees g.S.Slots.stays c.args.shelf.now c.next_input.new.shelf in
    rw (p.1, p.2) (no-read c.in_err-run.field-0.0 _ _ _ shelf (c.in_err-run.ensures.cut running.1 running.2.stands)
    (shelf-then (g.met.S.Slots.stays_on _ _ _) c.cycles.invariant.shelf_traffic c.in_ok-input.ensures.traffic))

pub cycles-smaller : goal.cycles-smaller
cycles-smaller g c =
    let running = c.cycles.invariant.running in
    let n = next-read running.2 c.next_input.new.frames (ap Ok c.in-Some.is) c.in_ok-input.ensures.input c.cycles.invariant.slot in
    let gave = c.requires.opened.gave in
    let few : c.cycles.recording.engine.cycles < 1000000 = few-cycles c.in-Some.input running.2.stands
    (n.is gave.0 gave.1).1.few in
    let one : c.take_back-spare.new.self.engine.cycles ≡ c.cycles.recording.engine.cycles + 1 =
    ap (λ r. r.engine.cycles) c.take_back-spare.ensures ∙ c.in_ok-run.ensures.cycles in
    omega arith

pub cycles-preserved : goal.cycles-preserved
cycles-preserved g c =
    let m = g.J.Job.meaning in
    let profile = c.args.recording.now.profile in
    let running = c.cycles.invariant.running in
    let n = next-read running.2 c.next_input.new.frames (ap Ok c.in-Some.is) c.in_ok-input.ensures.input c.cycles.invariant.slot in
    let ran = subst (λ (p : ProfileValue). Ran m p running.1 c.in-Some.input c.cycle.new.self c.in_ok-run.run'
    (g.K.Sink.took c.cycles.sink) (g.K.Sink.took c.cycle.new.sink))
    c.cycles.invariant.profile (c.in_ok-run.ensures.ran running.1 running.2.stands) in
    rw c.take_back-spare.ensures (record {
      running = (
        n.all,
        running.1 ++ c.in-Some.input ∷ [],
        running-next running.2 c.next_input.new.frames c.cycle.new.self c.in-Some.input c.in_ok-run.run' n ran,
      );
      profile = c.in_ok-run.ensures.profile ∙ c.cycles.invariant.profile;
      slot = c.in_ok-input.ensures.slot ∙ c.cycles.invariant.slot;
      shelf_traffic = shelf-then (g.met.S.Slots.stays_on _ _ _) c.cycles.invariant.shelf_traffic c.in_ok-input.ensures.traffic;
      sink_traffic = record {
        cause = λ e. cc;
        counted = omega (arith, c.cycles.invariant.sink_traffic.counted, c.in_ok-run.ensures.traffic.counted);
      };
    })

pub returns-in_err-counts-clause-replayed : goal.returns-in_err-counts-clause-replayed
returns-in_err-counts-clause-replayed g c read stands =
    let p = err_from_is_err_and c.from_residual-in_err-counts.result c.from_residual-in_err-counts.ensures.1 in
    let running = c.cycles.invariant.running in
    let none = ap Ok (none-of c.in_ok-input.field-0 c.in_default.not-Some) in
    let n = next-read running.2 c.next_input.new.frames none c.in_ok-input.ensures.input c.cycles.invariant.slot in
    let failure = c.in_err-counts.field-0.0 in
    let cut = subst (λ (p : ProfileValue). Cuts failure (g.K.Sink.took c.cycles.sink) (g.K.Sink.took c.close.new.sink)
    (spelled_frame p.format Terminate)) c.cycles.invariant.profile c.in_err-counts.ensures.cut in
    rw (p.1, p.2) (replayed _ _ n.all
    (close-failed _ _ _ _ _ running.2 c.next_input.new.frames read stands failure n cut))

pub returns-clause-replayed : goal.returns-clause-replayed
returns-clause-replayed g c read stands =
    let m = g.J.Job.meaning in
    let running = c.cycles.invariant.running in
    let none = ap Ok (none-of c.in_ok-input.field-0 c.in_default.not-Some) in
    let n = next-read running.2 c.next_input.new.frames none c.in_ok-input.ensures.input c.cycles.invariant.slot in
    let counts = c.in_ok-counts.counts in
    let counted = subst (λ (p : ProfileValue). Counted counts (runs m p running.1) (record_with m p running.1 true))
    c.cycles.invariant.profile (c.in_ok-counts.ensures.closed running.1 running.2.stands) in
    let grew = subst (λ (p : ProfileValue). Grew (g.K.Sink.took c.cycles.sink) (g.K.Sink.took c.close.new.sink)
    (spelled_frame p.format Terminate)) c.cycles.invariant.profile c.in_ok-counts.ensures.took in
    replayed _ _ n.all
    (closed _ _ _ _ _ running.2 c.next_input.new.frames read stands counts n counted grew)

pub returns-in_err-input-clause-shelf_traffic : goal.returns-in_err-input-clause-shelf_traffic
returns-in_err-input-clause-shelf_traffic g c =
    let p = err_from_is_err_and c.from_residual-in_err-input.result c.from_residual-in_err-input.ensures.1 in
    let shelf = shelf_run g.S.Slots.sees g.S.Slots.stays c.args.shelf.now c.next_input.new.shelf in
    rw (p.1, p.2) (subst (ShelfTraffic shelf) (same-failure (Option CycleInput) Counts c.in_err-input.field-0.0)
    (shelf-then (g.met.S.Slots.stays_on _ _ _) c.cycles.invariant.shelf_traffic c.in_err-input.ensures.traffic))

pub returns-in_err-counts-clause-shelf_traffic : goal.returns-in_err-counts-clause-shelf_traffic
returns-in_err-counts-clause-shelf_traffic g c =
    let p = err_from_is_err_and c.from_residual-in_err-counts.result c.from_residual-in_err-counts.ensures.1 in
    let shelf = shelf_run g.S.Slots.sees g.S.Slots.stays c.args.shelf.now c.next_input.new.shelf in
    rw (p.1, p.2) (no-read c.in_err-counts.field-0.0 _ _ _ shelf c.in_err-counts.ensures.cut
    (shelf-then (g.met.S.Slots.stays_on _ _ _) c.cycles.invariant.shelf_traffic c.in_ok-input.ensures.traffic))

pub returns-clause-shelf_traffic : goal.returns-clause-shelf_traffic
returns-clause-shelf_traffic g c =
    shelf-then (g.met.S.Slots.stays_on _ _ _) c.cycles.invariant.shelf_traffic c.in_ok-input.ensures.traffic
