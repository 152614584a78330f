use Rattle.std.proofs.Common.{◌<◌, sym, subst}
use Rattle.std.specs.List.{All}
use Rattle.det_values.specs.Values.{SampleValue}
use Rattle.cycle_engine.proofs.Standing.{stands_events}
use Rattle.recorder.proofs.lemmas.run_writer.Framing.{spelled-run}
use Rattle.recorder.proofs.run_writer.recording.Recording.run_cycle.Goals as goal

pub cycle-requires-clause-events : goal.cycle-requires-clause-events
cycle-requires-clause-events g c =
    let stands = c.requires.stands in
    let count = stands_events g.J.Job.meaning c.args.self.now.profile c.args.self.now.engine stands.0 stands.1 in
    subst (λ n. All (λ (s : SampleValue). s.event < n) c.args.input.samples) (sym count) c.requires.known

pub returns-clause-spelled : goal.returns-clause-spelled
returns-clause-spelled g c =
    let stands = c.requires.stands in
    spelled-run g.J.Job.meaning c.args.self.now.engine c.args.self.now.profile stands.0 c.args.input c.cycle.result c.cycle.ensures.frame
    stands.1 c.requires.known
