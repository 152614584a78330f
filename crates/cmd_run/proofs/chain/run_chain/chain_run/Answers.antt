use Rattle.std.proofs.Common.{◌≡◌, ◌<◌, ◌+◌, [], ◌∷◌, ◌++◌, refl, sym, ap, subst, ◌∙◌, arith, length}
use Rattle.std.specs.Prelude.{Some, Ok, Err}
use Rattle.std.specs.List.{All}
use Rattle.std.proofs.lemmas.Result.{err_from_is_err_and}
use Rattle.det_values.specs.Values.{ProfileValue, SampleValue}
use Rattle.det_io.specs.Traffic.{shelf_run}
use Rattle.stimulus.proofs.lemmas.slot_reader.Reading.{none-of}
use Rattle.cmd_run.specs.chain.ChainEnds.{sink_runs}
use Rattle.cmd_run.proofs.lemmas.chain.Running.{running-opened, next-read, next-input, next-end, running-next, few-cycles, no-write}
use Rattle.cmd_run.proofs.lemmas.chain.Running.{no-read, joined, unfailed-shelf, unfailed-sinks, shelf-then}
use Rattle.cmd_run.proofs.lemmas.chain.Ending.{open-failed, reading-stopped, cycle_chain-failed, close-failed, closed}
use Rattle.cmd_run.proofs.lemmas.chain.KnownStimulus.{chained}
use Rattle.cmd_run.proofs.chain.run_chain.chain_run.Goals as goal

pub returns-in_err-open_chain-clause-chained : goal.returns-in_err-open_chain-clause-chained
returns-in_err-open_chain-clause-chained g c =
    let p = err_from_is_err_and c.from_residual.result c.from_residual.ensures.1 in
    let shelf = shelf_run g.S.Slots.sees g.S.Slots.stays c.args.shelf.now c.args.shelf.now in
    let sinks = sink_runs g.K.Sink.took g.K.Sink.faults c.args.first_sink.now c.open_chain.new.first_sink
    g.L.Sink.took g.L.Sink.faults c.args.second_sink.now c.open_chain.new.second_sink in
    rw (p.1, p.2) (chained _ shelf sinks _
    (open-failed _ _ _ _ _ shelf.first shelf.stays sinks c.in_err-open_chain.field-0.0 c.in_err-open_chain.ensures.cut))

pub returns-in_err-open_chain-clause-shelf_traffic : goal.returns-in_err-open_chain-clause-shelf_traffic
returns-in_err-open_chain-clause-shelf_traffic g c =
    let p = err_from_is_err_and c.from_residual.result c.from_residual.ensures.1 in
    let shelf = shelf_run g.S.Slots.sees g.S.Slots.stays c.args.shelf.now c.args.shelf.now in
    rw (p.1, p.2) (no-read c.in_err-open_chain.field-0.0 shelf c.in_err-open_chain.ensures.cut.cause (unfailed-shelf shelf (omega arith)
    (g.met.S.Slots.stays_same _)))

pub cycles-init : goal.cycles-init
cycles-init g c =
    let sinks = sink_runs g.K.Sink.took g.K.Sink.faults c.args.first_sink.now c.open_chain.new.first_sink
    g.L.Sink.took g.L.Sink.faults c.args.second_sink.now c.open_chain.new.second_sink in
    record {
      running = (
        [],
        [],
        running-opened _ _ sinks _ _ _
            c.requires.reader c.in_ok-open_chain.ensures.first c.in_ok-open_chain.ensures.second c.in_ok-open_chain.ensures.grew,
      );
      first_profile = c.in_ok-open_chain.ensures.first_profile;
      second_profile = c.in_ok-open_chain.ensures.second_profile;
      slot = refl;
      events = refl;
      shelf_traffic = unfailed-shelf (shelf_run g.S.Slots.sees g.S.Slots.stays c.args.shelf.now c.args.shelf.now) (omega arith)
          (g.met.S.Slots.stays_same _);
      sink_traffic = unfailed-sinks sinks c.in_ok-open_chain.ensures.traffic.first c.in_ok-open_chain.ensures.traffic.second;
    }

pub returns-in_err-input-clause-chained : goal.returns-in_err-input-clause-chained
returns-in_err-input-clause-chained g c =
    let p = err_from_is_err_and c.from_residual-in_err-input.result c.from_residual-in_err-input.ensures.1 in
    let running = c.cycles.invariant.running.2 in
    let why = c.in_err-input.field-0.0 in
    let got = next-read c.next_input.new.self (Err why) running c.in_err-input.ensures.input c.cycles.invariant.slot in
    let events = c.in_err-input.ensures.events ∙ c.cycles.invariant.events ∙ c.requires.events in
    let shelf = shelf_run g.S.Slots.sees g.S.Slots.stays c.args.shelf.now c.next_input.new.shelf in
    let sinks = sink_runs g.K.Sink.took g.K.Sink.faults c.args.first_sink.now c.cycles.first_sink
    g.L.Sink.took g.L.Sink.faults c.args.second_sink.now c.cycles.second_sink in
    rw (p.1, p.2) (chained _ shelf sinks _ (reading-stopped _ _ _ _ _ shelf sinks c.next_input.new.self why running got events))

pub returns-in_err-input-clause-shelf_traffic : goal.returns-in_err-input-clause-shelf_traffic
returns-in_err-input-clause-shelf_traffic g c =
    let p = err_from_is_err_and c.from_residual-in_err-input.result c.from_residual-in_err-input.ensures.1 in
    rw (p.1, p.2) (shelf-then g.S.Slots.sees g.S.Slots.stays g.met.S.Slots.stays_on _ _ _ _ c.cycles.invariant.shelf_traffic
    c.in_err-input.ensures.traffic)

pub returns-in_err-input-clause-write_fault : goal.returns-in_err-input-clause-write_fault
returns-in_err-input-clause-write_fault g c =
    let p = err_from_is_err_and c.from_residual-in_err-input.result c.from_residual-in_err-input.ensures.1 in
    let why = c.in_err-input.field-0.0 in
    let got = next-read c.next_input.new.self (Err why) c.cycles.invariant.running.2 c.in_err-input.ensures.input
    c.cycles.invariant.slot in
    rw (p.1, p.2) (λ is. absurd (no-write why c.next_input.new.self _ _ _ got.2 is))

pub cycle_chain-requires-clause-stands : goal.cycle_chain-requires-clause-stands
cycle_chain-requires-clause-stands g c = let running = c.cycles.invariant.running in (running.1, running.2.stands)

pub cycle_chain-requires-clause-few : goal.cycle_chain-requires-clause-few
cycle_chain-requires-clause-few g c =
    let got = next-input c.in_ok-input.field-0 c.next_input.new.self c.cycles.invariant.running.2 c.in_ok-input.ensures.input
    c.cycles.invariant.slot refl c.in-Some.input c.in-Some.is in
    few-cycles c.in-Some.input c.cycles.invariant.running.2 got.3.few

pub cycle_chain-requires-clause-known : goal.cycle_chain-requires-clause-known
cycle_chain-requires-clause-known g c =
    let events = c.in_ok-input.ensures.events ∙ c.cycles.invariant.events ∙ c.requires.events
    ∙ ap (λ (p : ProfileValue). length p.events) (sym c.cycles.invariant.first_profile) in
    let got = next-input c.in_ok-input.field-0 c.next_input.new.self c.cycles.invariant.running.2 c.in_ok-input.ensures.input
    c.cycles.invariant.slot events c.in-Some.input c.in-Some.is in
    got.3.within.known

pub returns-in_err-spare-clause-chained : goal.returns-in_err-spare-clause-chained
returns-in_err-spare-clause-chained g c =
    let p = err_from_is_err_and c.from_residual-in_err-spare.result c.from_residual-in_err-spare.ensures.1 in
    let running = c.cycles.invariant.running in
    let events = c.in_ok-input.ensures.events ∙ c.cycles.invariant.events ∙ c.requires.events in
    let got = next-input c.in_ok-input.field-0 c.next_input.new.self running.2 c.in_ok-input.ensures.input c.cycles.invariant.slot events
    c.in-Some.input c.in-Some.is in
    let shelf = shelf_run g.S.Slots.sees g.S.Slots.stays c.args.shelf.now c.next_input.new.shelf in
    let sinks = sink_runs g.K.Sink.took g.K.Sink.faults c.args.first_sink.now c.cycles.first_sink
    g.L.Sink.took g.L.Sink.faults c.args.second_sink.now c.cycles.second_sink in
    let step = sink_runs g.K.Sink.took g.K.Sink.faults c.cycles.first_sink c.cycle_chain.new.first_sink
    g.L.Sink.took g.L.Sink.faults c.cycles.second_sink c.cycle_chain.new.second_sink in
    let cut = rw (c.cycles.invariant.first_profile, c.cycles.invariant.second_profile) at
    (c.in_err-spare.ensures.cut running.1 running.2.stands) in
    rw (p.1, p.2) (chained _ shelf (joined sinks step) _
    (cycle_chain-failed _ _ _ _ _ shelf sinks step running.2 c.in-Some.input c.in_err-spare.field-0.0 got.0 got.1 got.3 cut.cause cut.grew.first
    cut.grew.second))

pub returns-in_err-spare-clause-shelf_traffic : goal.returns-in_err-spare-clause-shelf_traffic
returns-in_err-spare-clause-shelf_traffic g c =
    let p = err_from_is_err_and c.from_residual-in_err-spare.result c.from_residual-in_err-spare.ensures.1 in
    let running = c.cycles.invariant.running in
    let shelf = shelf_run g.S.Slots.sees g.S.Slots.stays c.args.shelf.now c.next_input.new.shelf in
    let cut = c.in_err-spare.ensures.cut running.1 running.2.stands in
    rw (p.1, p.2) (no-read c.in_err-spare.field-0.0 shelf cut.cause
    (shelf-then g.S.Slots.sees g.S.Slots.stays g.met.S.Slots.stays_on _ _ _ _ c.cycles.invariant.shelf_traffic
    c.in_ok-input.ensures.traffic))

pub cycles-smaller : goal.cycles-smaller
cycles-smaller g c =
    let got = next-input c.in_ok-input.field-0 c.next_input.new.self c.cycles.invariant.running.2 c.in_ok-input.ensures.input
    c.cycles.invariant.slot refl c.in-Some.input c.in-Some.is in
    let few : c.cycles.first.recording.engine.cycles < 1000000 =
    few-cycles c.in-Some.input c.cycles.invariant.running.2 got.3.few in
    let more : c.cycle_chain.new.first.recording.engine.cycles ≡ c.cycles.first.recording.engine.cycles + 1 =
    c.in_ok-spare.ensures.cycles in
    omega arith

pub cycles-preserved : goal.cycles-preserved
cycles-preserved g c =
    let running = c.cycles.invariant.running in
    let got = next-input c.in_ok-input.field-0 c.next_input.new.self running.2 c.in_ok-input.ensures.input c.cycles.invariant.slot refl
    c.in-Some.input c.in-Some.is in
    let sinks = sink_runs g.K.Sink.took g.K.Sink.faults c.args.first_sink.now c.cycles.first_sink
    g.L.Sink.took g.L.Sink.faults c.args.second_sink.now c.cycles.second_sink in
    let step = sink_runs g.K.Sink.took g.K.Sink.faults c.cycles.first_sink c.cycle_chain.new.first_sink
    g.L.Sink.took g.L.Sink.faults c.cycles.second_sink c.cycle_chain.new.second_sink in
    let linked = rw (c.cycles.invariant.first_profile, c.cycles.invariant.second_profile) at
    (c.in_ok-spare.ensures.linked running.1 running.2.stands) in
    rw c.take_back.ensures (record {
      running = (
        got.0,
        running.1 ++ c.in-Some.input ∷ [],
        running-next sinks step c.next_input.new.self c.cycle_chain.new.first.recording c.cycle_chain.new.second.recording
            c.in-Some.input running.2 got.1 got.2 linked.stands linked.grew.first linked.grew.second,
      );
      first_profile = c.in_ok-spare.ensures.first_profile ∙ c.cycles.invariant.first_profile;
      second_profile = c.in_ok-spare.ensures.second_profile ∙ c.cycles.invariant.second_profile;
      slot = c.in_ok-input.ensures.slot ∙ c.cycles.invariant.slot;
      events = c.in_ok-input.ensures.events ∙ c.cycles.invariant.events;
      shelf_traffic = shelf-then g.S.Slots.sees g.S.Slots.stays g.met.S.Slots.stays_on _ _ _ _ c.cycles.invariant.shelf_traffic
          c.in_ok-input.ensures.traffic;
      sink_traffic = unfailed-sinks (joined sinks step)
          (omega (arith, c.cycles.invariant.sink_traffic.first, c.in_ok-spare.ensures.traffic.first))
          (omega (arith, c.cycles.invariant.sink_traffic.second, c.in_ok-spare.ensures.traffic.second));
    })

pub returns-in_err-counts-clause-chained : goal.returns-in_err-counts-clause-chained
returns-in_err-counts-clause-chained g c =
    let p = err_from_is_err_and c.from_residual-in_err-counts.result c.from_residual-in_err-counts.ensures.1 in
    let running = c.cycles.invariant.running.2 in
    let events = c.in_ok-input.ensures.events ∙ c.cycles.invariant.events ∙ c.requires.events in
    let got = next-end c.in_ok-input.field-0 c.next_input.new.self running c.in_ok-input.ensures.input c.cycles.invariant.slot events
    (none-of c.in_ok-input.field-0 c.in_default.not-Some) in
    let shelf = shelf_run g.S.Slots.sees g.S.Slots.stays c.args.shelf.now c.next_input.new.shelf in
    let sinks = sink_runs g.K.Sink.took g.K.Sink.faults c.args.first_sink.now c.cycles.first_sink
    g.L.Sink.took g.L.Sink.faults c.args.second_sink.now c.cycles.second_sink in
    let step = sink_runs g.K.Sink.took g.K.Sink.faults c.cycles.first_sink c.close_chain.new.first_sink
    g.L.Sink.took g.L.Sink.faults c.cycles.second_sink c.close_chain.new.second_sink in
    let cut = rw (c.cycles.invariant.first_profile, c.cycles.invariant.second_profile) at c.in_err-counts.ensures.cut in
    rw (p.1, p.2) (chained _ shelf (joined sinks step) _
    (close-failed _ _ _ _ _ shelf sinks step running c.in_err-counts.field-0.0 got.0 got.1 got.2 cut.cause cut.grew.first cut.grew.second))

pub returns-in_err-counts-clause-shelf_traffic : goal.returns-in_err-counts-clause-shelf_traffic
returns-in_err-counts-clause-shelf_traffic g c =
    let p = err_from_is_err_and c.from_residual-in_err-counts.result c.from_residual-in_err-counts.ensures.1 in
    let shelf = shelf_run g.S.Slots.sees g.S.Slots.stays c.args.shelf.now c.next_input.new.shelf in
    rw (p.1, p.2) (no-read c.in_err-counts.field-0.0 shelf c.in_err-counts.ensures.cut.cause
    (shelf-then g.S.Slots.sees g.S.Slots.stays g.met.S.Slots.stays_on _ _ _ _ c.cycles.invariant.shelf_traffic
    c.in_ok-input.ensures.traffic))

pub returns-clause-chained : goal.returns-clause-chained
returns-clause-chained g c =
    let running = c.cycles.invariant.running in
    let events = c.in_ok-input.ensures.events ∙ c.cycles.invariant.events ∙ c.requires.events in
    let got = next-end c.in_ok-input.field-0 c.next_input.new.self running.2 c.in_ok-input.ensures.input c.cycles.invariant.slot events
    (none-of c.in_ok-input.field-0 c.in_default.not-Some) in
    let shelf = shelf_run g.S.Slots.sees g.S.Slots.stays c.args.shelf.now c.next_input.new.shelf in
    let sinks = sink_runs g.K.Sink.took g.K.Sink.faults c.args.first_sink.now c.cycles.first_sink
    g.L.Sink.took g.L.Sink.faults c.args.second_sink.now c.cycles.second_sink in
    let step = sink_runs g.K.Sink.took g.K.Sink.faults c.cycles.first_sink c.close_chain.new.first_sink
    g.L.Sink.took g.L.Sink.faults c.cycles.second_sink c.close_chain.new.second_sink in
    let counted = rw (c.cycles.invariant.first_profile, c.cycles.invariant.second_profile) at
    (c.in_ok-counts.ensures.counted running.1 running.2.stands) in
    let grew = rw (c.cycles.invariant.first_profile, c.cycles.invariant.second_profile) at c.in_ok-counts.ensures.grew in
    chained _ shelf (joined sinks step) _
    (closed _ _ _ _ _ shelf sinks step running.2 c.in_ok-counts.counts got.0 got.1 got.2 counted grew.first grew.second)

pub returns-clause-shelf_traffic : goal.returns-clause-shelf_traffic
returns-clause-shelf_traffic g c =
    shelf-then g.S.Slots.sees g.S.Slots.stays g.met.S.Slots.stays_on _ _ _ _ c.cycles.invariant.shelf_traffic c.in_ok-input.ensures.traffic
