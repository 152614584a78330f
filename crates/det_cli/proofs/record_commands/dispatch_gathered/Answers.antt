use Rattle.std.proofs.Common.{rules}
use Rattle.det_cli.proofs.ThroughBuffer.{runs-no-memory, runs-whole, runs-cut, runs-final}
use Rattle.det_cli.proofs.record_commands.dispatch_gathered.Goals as goal

pub returns-in-Ok-write_all : goal.returns-in-Ok-write_all
returns-in-Ok-write_all g c audience =
    let took = g.K.Sink.took in
    let faults = g.K.Sink.faults in
    let given = c.dispatch_to_front-answer.ensures.runs audience in
    let runs = rw c.new-front.ensures.sink at given in
    let sink = c.dispatch_to_front-answer.result.1.now in
    let written = c.write_all.new.sink in
    let held = c.dispatch_to_front-answer.result.2.now.items in
    runs-final took faults _ _ _ (faults c.args.out.now) (took c.args.out.now) audience _ _ written (search rules)
    (runs-whole _ _ _ (took c.args.out.now) (took sink) (took written) (faults c.args.out.now) (faults sink) (faults written)
    c.new-front.result.held.now.items held audience _ c.new-front.ensures.none c.requires.word runs c.write_all.ensures.counted
    (rw (← c.as_slice.ensures.value) c.in-Ok-write_all.ensures.all))

pub returns : goal.returns
returns g c audience =
    let took = g.K.Sink.took in
    let faults = g.K.Sink.faults in
    let given = c.dispatch_to_front-answer.ensures.runs audience in
    let runs = rw c.new-front.ensures.sink at given in
    let counted = c.dispatch_to_front-answer.ensures.counted in
    let sink = c.dispatch_to_front-answer.result.1.now in
    let written = c.write_all.new.sink in
    let held = c.dispatch_to_front-answer.result.2.now.items in
    runs-final took faults _ _ _ (faults c.args.out.now) (took c.args.out.now) audience _ _ written (search rules)
    (runs-cut _ _ _ (took c.args.out.now) (took sink) (took written) (faults c.args.out.now) (faults sink) (faults written)
    c.new-front.result.held.now.items held audience _ c.new-front.ensures.none c.requires.word runs
    (let least = rw c.new-front.ensures.sink at counted in least) c.in-Err.ensures.cause
    (rw (← c.as_slice.ensures.value) c.in-Err.ensures.short))

pub returns-in_default : goal.returns-in_default
returns-in_default g c audience = runs-no-memory _ _ _ _ _ audience c.requires.word
