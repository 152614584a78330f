use Rattle.std.proofs.Common.{List, ℕ, subst}
use Rattle.det_io.specs.Traffic.{SinkRun, sink_run}
use Rattle.cli_answers.specs.Outcome.{WritesLine}
use Rattle.cli_answers.proofs.AnswerMeets.{writes-line}
use Rattle.cli_answers.proofs.line.write_line.Goals as goal

pub returns : goal.returns
returns g c =
    let err : SinkRun = sink_run g.E.Sink.took g.E.Sink.faults c.args.err.now c.write_all.new.sink in
    subst (λ (line : List ℕ). WritesLine line err) c.as_slice.ensures.bytes (writes-line _ err c.write_all.result
    c.write_all.ensures.part c.write_all.ensures.all c.write_all.ensures.cause)
