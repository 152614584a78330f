use Rattle.std.proofs.Common.{◌≡◌, ◌<◌, ◌+◌, [], ◌∷◌, ◌++◌, refl, ap, ◌∙◌, arith}
use Rattle.std.proofs.lemmas.Result.{err_from_is_err_and}
use Rattle.det_io.specs.Traffic.{shelf_run, sink_run}
use Rattle.stimulus.proofs.lemmas.slot_reader.Reading.{none-of}
use Rattle.recorder.proofs.Running.{next-given, none-given, few-cycles, next-known, running-opened, running-next, no-write, no-read, read-on}
use Rattle.recorder.proofs.Ending.{open-failed, reading-stopped, cycle-failed, show-failed, close-failed, closed}
use Rattle.recorder.proofs.KnownText.{recorded}
use Rattle.recorder.proofs.stimulus_run.record_run.Goals as goal

pub returns-in_err-open-clause-recorded : goal.returns-in_err-open-clause-recorded
returns-in_err-open-clause-recorded g c =
    let p = err_from_is_err_and c.from_residual.result c.from_residual.ensures.1 in
    let m = g.J.Job.meaning in
    let profile = c.args.recording.now.profile in
    let shelf = shelf_run g.S.Slots.sees g.S.Slots.stays c.args.shelf.now c.args.shelf.now in
    let sink = sink_run g.K.Sink.took g.K.Sink.faults c.args.sink.now c.open.new.sink in
    rw (p.1, p.2) (recorded m profile _ shelf sink _ _ _
    (open-failed m profile _ shelf.first shelf.stays sink _ c.in_err-open.field-0.0 c.in_err-open.ensures.cut))

pub cycles-init : goal.cycles-init
cycles-init g c = record {
  running = (
    [],
    [],
    running-opened g.J.Job.meaning c.args.recording.now.profile _ _ _ _ _ _ _ c.requires.reader refl c.requires.events
        c.in_ok-open.ensures.opened.0 c.in_ok-open.ensures.profile c.in_ok-open.ensures.opened.1,
  );
  shelf_traffic = record { cause = λ e. cc; counted = omega arith; stays = g.met.S.Slots.stays_same _ };
  sink_traffic = record { cause = λ e. cc; counted = c.in_ok-open.ensures.traffic.counted };
}

pub returns-in_err-input-clause-recorded : goal.returns-in_err-input-clause-recorded
returns-in_err-input-clause-recorded g c =
    let p = err_from_is_err_and c.from_residual-in_err-input.result c.from_residual-in_err-input.ensures.1 in
    rw (p.1, p.2) (reading-stopped _ _ _ _ _ _ c.cycles.invariant.running.2 c.next_input.new.self c.in_err-input.field-0.0
    c.in_err-input.ensures.input c.in_err-input.ensures.events)

pub returns-in_err-input-clause-sink_traffic : goal.returns-in_err-input-clause-sink_traffic
returns-in_err-input-clause-sink_traffic g c =
    let p = err_from_is_err_and c.from_residual-in_err-input.result c.from_residual-in_err-input.ensures.1 in
    let h = c.in_err-input.ensures.input.2 _ _ c.cycles.invariant.running.2.fed in
    rw (p.1, p.2) (no-write c.in_err-input.field-0.0 c.next_input.new.self _ _ _ _ h.1 c.cycles.invariant.sink_traffic)

pub cycle-requires-clause-few : goal.cycle-requires-clause-few
cycle-requires-clause-few g c =
    let next = next-given c.next_input.new.self c.in_ok-input.field-0 c.in-Some.input c.cycles.invariant.running.2
    c.in_ok-input.ensures.input c.in-Some.is c.in_ok-input.ensures.slot c.in_ok-input.ensures.events in
    few-cycles c.cycles.invariant.running.2 next

pub cycle-requires-clause-known : goal.cycle-requires-clause-known
cycle-requires-clause-known g c =
    let next = next-given c.next_input.new.self c.in_ok-input.field-0 c.in-Some.input c.cycles.invariant.running.2
    c.in_ok-input.ensures.input c.in-Some.is c.in_ok-input.ensures.slot c.in_ok-input.ensures.events in
    next-known c.cycles.invariant.running.2 next

pub returns-in_err-run-clause-recorded : goal.returns-in_err-run-clause-recorded
returns-in_err-run-clause-recorded g c =
    let p = err_from_is_err_and c.from_residual-in_err-run.result c.from_residual-in_err-run.ensures.1 in
    let next = next-given c.next_input.new.self c.in_ok-input.field-0 c.in-Some.input c.cycles.invariant.running.2
    c.in_ok-input.ensures.input c.in-Some.is c.in_ok-input.ensures.slot c.in_ok-input.ensures.events in
    rw (p.1, p.2) (cycle-failed _ _ _ _ _ _ c.cycles.invariant.running.2 c.in_err-run.field-0.0 next c.in_err-run.ensures.cut)

pub returns-in_err-run-clause-shelf_traffic : goal.returns-in_err-run-clause-shelf_traffic
returns-in_err-run-clause-shelf_traffic g c =
    let p = err_from_is_err_and c.from_residual-in_err-run.result c.from_residual-in_err-run.ensures.1 in
    let running = c.cycles.invariant.running in
    let none = no-read c.in_err-run.field-0.0 _ _ _ (c.in_err-run.ensures.cut running.1 running.2.stands) in
    rw (p.1, p.2) (read-on _ none c.cycles.invariant.shelf_traffic.counted c.in_ok-input.ensures.traffic.counted
    (g.met.S.Slots.stays_on _ _ _ c.cycles.invariant.shelf_traffic.stays c.in_ok-input.ensures.traffic.stays))

pub returns-in_err-show-clause-recorded : goal.returns-in_err-show-clause-recorded
returns-in_err-show-clause-recorded g c =
    let p = err_from_is_err_and c.from_residual-in_err-show.result c.from_residual-in_err-show.ensures.1 in
    let next = next-given c.next_input.new.self c.in_ok-input.field-0 c.in-Some.input c.cycles.invariant.running.2
    c.in_ok-input.ensures.input c.in-Some.is c.in_ok-input.ensures.slot c.in_ok-input.ensures.events in
    rw (p.1, p.2) (show-failed _ _ _ _ _ _ c.cycles.invariant.running.2 next c.in_ok-run.ensures.ran c.in_err-show.ensures.partly)

pub returns-in_err-show-clause-shelf_traffic : goal.returns-in_err-show-clause-shelf_traffic
returns-in_err-show-clause-shelf_traffic g c =
    let p = err_from_is_err_and c.from_residual-in_err-show.result c.from_residual-in_err-show.ensures.1 in
    rw (p.1, p.2) (read-on _ (λ e. cc) c.cycles.invariant.shelf_traffic.counted c.in_ok-input.ensures.traffic.counted
    (g.met.S.Slots.stays_on _ _ _ c.cycles.invariant.shelf_traffic.stays c.in_ok-input.ensures.traffic.stays))

pub cycles-smaller : goal.cycles-smaller
cycles-smaller g c =
    let next = next-given c.next_input.new.self c.in_ok-input.field-0 c.in-Some.input c.cycles.invariant.running.2
    c.in_ok-input.ensures.input c.in-Some.is c.in_ok-input.ensures.slot c.in_ok-input.ensures.events in
    let few : c.cycles.recording.engine.cycles < 1000000 = few-cycles c.cycles.invariant.running.2 next in
    let one : c.take_back-input.new.self.engine.cycles ≡ c.cycles.recording.engine.cycles + 1 =
    ap (λ r. r.engine.cycles) c.take_back-input.ensures ∙ c.in_ok-run.ensures.cycles in
    omega arith

pub cycles-preserved : goal.cycles-preserved
cycles-preserved g c =
    let next = next-given c.next_input.new.self c.in_ok-input.field-0 c.in-Some.input c.cycles.invariant.running.2
    c.in_ok-input.ensures.input c.in-Some.is c.in_ok-input.ensures.slot c.in_ok-input.ensures.events in
    let on = running-next c.cycles.invariant.running.2 next c.in_ok-run.ensures.ran c.in_ok-run.ensures.profile c.in_ok-show.ensures.shown in
    rw (c.take_back-input.ensures, c.take_back.ensures) (record {
      running = (next.all, c.cycles.invariant.running.1 ++ c.in-Some.input ∷ [], on);
      shelf_traffic = read-on _ (λ e. cc) c.cycles.invariant.shelf_traffic.counted c.in_ok-input.ensures.traffic.counted
          (g.met.S.Slots.stays_on _ _ _ c.cycles.invariant.shelf_traffic.stays c.in_ok-input.ensures.traffic.stays);
      sink_traffic = record {
        cause = λ e. cc;
        counted = omega (arith, c.cycles.invariant.sink_traffic.counted, c.in_ok-run.ensures.traffic.counted);
      };
    })

pub returns-in_err-counts-clause-recorded : goal.returns-in_err-counts-clause-recorded
returns-in_err-counts-clause-recorded g c =
    let p = err_from_is_err_and c.from_residual-in_err-counts.result c.from_residual-in_err-counts.ensures.1 in
    let end = none-given c.next_input.new.self c.in_ok-input.field-0 c.cycles.invariant.running.2 c.in_ok-input.ensures.input
    (none-of c.in_ok-input.field-0 c.in_default.not-Some) c.in_ok-input.ensures.events in
    rw (p.1, p.2) (close-failed _ _ _ _ _ _ c.cycles.invariant.running.2 end c.in_err-counts.field-0.0 c.in_err-counts.ensures.cut)

pub returns-clause-recorded : goal.returns-clause-recorded
returns-clause-recorded g c =
    let end = none-given c.next_input.new.self c.in_ok-input.field-0 c.cycles.invariant.running.2 c.in_ok-input.ensures.input
    (none-of c.in_ok-input.field-0 c.in_default.not-Some) c.in_ok-input.ensures.events in
    closed _ _ _ _ _ _ c.cycles.invariant.running.2 end c.in_ok-counts.counts c.in_ok-counts.ensures.closed c.in_ok-counts.ensures.took
