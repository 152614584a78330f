use Rattle.std.proofs.Common.{length, arith}
use Rattle.record_view.specs.Opening.{opening_at}
use Rattle.record_view.proofs.Begins.{begun_steady}
use Rattle.record_view.proofs.Viewing.{stop_fits, begun_behind, start_stops, ready_whole, init_begins, run_begins}
use Rattle.record_view.proofs.resume.start.Goals as goal

pub overflow_sub-read : goal.overflow_sub-read
overflow_sub-read c = (begun_behind c.args.place c.args.bytes.now _ c.in-Ok.rest.now c.in-Ok.ensures.1).room

pub returns-in-Err-clause-viewed : goal.returns-in-Err-clause-viewed
returns-in-Err-clause-viewed c = rw c.stopped_step.ensures (start_stops c.args.place c.args.bytes.now c.in-Err.stop c.in-Err.ensures)

pub returns-in-Err-clause-fits : goal.returns-in-Err-clause-fits
returns-in-Err-clause-fits c =
    rw c.stopped_step.ensures (stop_fits (opening_at c.args.place) (begun_steady c.args.place) c.in-Err.stop c.args.bytes.now _
    (length c.args.bytes.now) (omega arith) (omega arith) c.in-Err.ensures)

pub returns-in-Ready-clause-viewed : goal.returns-in-Ready-clause-viewed
returns-in-Ready-clause-viewed c =
    rw c.whole_step.ensures (ready_whole c.args.place c.args.bytes.now c.in-Ready.kind c.in-Ok.ensures.0 c.in-Ok.rest.now c.in-Ok.ensures.1
    (rw c.in-Ready.is at c.in-Ok.ensures.2))

pub returns-in-Ready-clause-fits : goal.returns-in-Ready-clause-fits
returns-in-Ready-clause-fits c = rw c.whole_step.ensures (omega arith)

pub returns-in-Init-clause-viewed : goal.returns-in-Init-clause-viewed
returns-in-Init-clause-viewed c =
    c.resume_init.ensures.viewed (init_begins c.args.place c.args.bytes.now c.in-Init.elements c.in-Ok.ensures.0 c.in-Ok.rest.now
    c.in-Ok.ensures.1 (rw c.in-Init.is at c.in-Ok.ensures.2))

pub returns-in-Run-clause-viewed : goal.returns-in-Run-clause-viewed
returns-in-Run-clause-viewed c =
    c.resume_run.ensures.viewed (run_begins c.args.place c.args.bytes.now c.in-Run.input c.in-Run.elements c.in-Run.elements_at
    c.in-Ok.ensures.0 c.in-Ok.rest.now c.in-Ok.ensures.1 (rw c.in-Run.is at c.in-Ok.ensures.2))
