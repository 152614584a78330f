use Rattle.std.proofs.Common.{◌≡◌, ◌<◌, List, subst, arith, length}
use Rattle.std.proofs.lemmas.Result.{err_from_is_err_and}
use Rattle.det_values.specs.declared.frames.CycleInput.{CycleInput}
use Rattle.det_values.specs.declared.frames.Frame.TheVariants.{Run}
use Rattle.det_io.specs.Sink.{Grew}
use Rattle.det_io.specs.declared.failure.Failure.TheVariants.{OutOfMemory}
use Rattle.det_io.proofs.Growth.{same-none}
use Rattle.record_grammar.specs.Spelling.{spelled_frame}
use Rattle.recorder.specs.run_writer.Recording.{Cuts, IsRecordingAfter}
use Rattle.cmd_run.specs.chain.SecondClient.{passed_on}
use Rattle.cmd_run.specs.chain.ChainEnds.{sink_runs}
use Rattle.cmd_run.specs.chain.ChainCycle.{next_run}
use Rattle.cmd_run.proofs.lemmas.chain.Linking.{cut-first, cut-second, grew-run, length-derived, passed-is, passed-next}
use Rattle.cmd_run.proofs.chain.both_clients.cycle_chain.Goals as goal

pub returns-in_err-run-clause-cut : goal.returns-in_err-run-clause-cut
returns-in_err-run-clause-cut g c =
    let p = err_from_is_err_and c.from_residual.result c.from_residual.ensures.1 in
    let sinks = sink_runs g.K.Sink.took g.K.Sink.faults c.args.first_sink.now c.cycle.new.sink
    g.L.Sink.took g.L.Sink.faults c.args.second_sink.now c.args.second_sink.now in
    rw (p.1, p.2) (λ given h. cut-first c.in_err-run.field-0.0 sinks _ _ (c.in_err-run.ensures.cut given h.first)
    (same-none (g.L.Sink.took c.args.second_sink.now)))

pub returns-in_err-passed-clause-cut : goal.returns-in_err-passed-clause-cut
returns-in_err-passed-clause-cut g c =
    let p = err_from_is_err_and c.from_residual-in_err-passed.result c.from_residual-in_err-passed.ensures.1 in
    let sinks = sink_runs g.K.Sink.took g.K.Sink.faults c.args.first_sink.now c.cycle.new.sink
    g.L.Sink.took g.L.Sink.faults c.args.second_sink.now c.args.second_sink.now in
    rw (p.1, p.2) (λ given h. let ran = c.in_ok-run.ensures.ran given h.first in
    cut-second OutOfMemory sinks _ _ (grew-run c.args.first.now.recording.profile.format _ _ ran.run ran.took)
    (same-none (g.L.Sink.took c.args.second_sink.now)))

pub cycle-requires-2-clause-few : goal.cycle-requires-2-clause-few
cycle-requires-2-clause-few g c =
    let one = c.args.first.now.recording in
    let other = c.args.second.now.recording in
    let given = c.requires.stands.0 in
    let first : one.engine.cycles ≡ length given = c.requires.stands.1.first.engine.cycles in
    let second : other.engine.cycles ≡ length (passed_on g.A.Job.meaning one.profile g.B.Job.meaning other.profile given) =
    c.requires.stands.1.second.engine.cycles in
    let same = length-derived g.A.Job.meaning one.profile (length other.profile.events) given in
    let few : one.engine.cycles < 1000000 = c.requires.few in
    omega (arith, first, second, same, few)

pub returns-in_err-followed-clause-cut : goal.returns-in_err-followed-clause-cut
returns-in_err-followed-clause-cut g c =
    let p = err_from_is_err_and c.from_residual-in_err-followed.result c.from_residual-in_err-followed.ensures.1 in
    let m = g.A.Job.meaning in
    let n = g.B.Job.meaning in
    let one = c.args.first.now.recording.profile in
    let other = c.args.second.now.recording.profile in
    let sinks = sink_runs g.K.Sink.took g.K.Sink.faults c.args.first_sink.now c.cycle.new.sink
    g.L.Sink.took g.L.Sink.faults c.args.second_sink.now c.cycle-2.new.sink in
    let failure = c.in_err-followed.field-0.0 in
    rw (p.1, p.2) (λ given h. let ran = c.in_ok-run.ensures.ran given h.first in
    let is = passed-is m one n other given c.args.input _ _ c.in_ok-passed.passed c.in_ok-passed.ensures.is c.events-events.ensures.number
    ran.run in
    cut-second failure sinks _ _ (grew-run one.format _ _ ran.run ran.took)
    (subst (λ (x : CycleInput). Cuts failure sinks.second.before sinks.second.after
    (spelled_frame other.format (Run (next_run n other (passed_on m one n other given) x)))) is
    (c.in_err-followed.ensures.cut (passed_on m one n other given) h.second)))

pub returns-clause-linked : goal.returns-clause-linked
returns-clause-linked g c given h =
    let m = g.A.Job.meaning in
    let n = g.B.Job.meaning in
    let one = c.args.first.now.recording.profile in
    let other = c.args.second.now.recording.profile in
    let ran = c.in_ok-run.ensures.ran given h.first in
    let followed = c.in_ok-followed.ensures.ran (passed_on m one n other given) h.second in
    let is = passed-is m one n other given c.args.input _ _ c.in_ok-passed.passed c.in_ok-passed.ensures.is c.events-events.ensures.number
    ran.run in
    let all = passed-next m one n other given c.args.input c.in_ok-passed.passed c.cycle.new.self.profile c.cycle-2.new.self.profile
    c.in_ok-run.ensures.profile c.in_ok-followed.ensures.profile is in
    rw (c.take_back.ensures, c.take_back-2.ensures) (record {
      stands = record {
        first = ran.stands;
        second = subst (λ (xs : List CycleInput). IsRecordingAfter n c.cycle-2.new.self xs) all followed.stands;
      };
      grew = record {
        first = grew-run one.format _ _ ran.run ran.took;
        second = subst (λ (x : CycleInput). Grew (g.L.Sink.took c.args.second_sink.now) (g.L.Sink.took c.cycle-2.new.sink)
            (spelled_frame other.format (Run (next_run n other (passed_on m one n other given) x)))) is
            (grew-run other.format _ _ followed.run followed.took);
      };
    })
