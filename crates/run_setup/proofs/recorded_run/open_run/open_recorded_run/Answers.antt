use Rattle.std.proofs.Common.{arith}
use Rattle.run_setup.proofs.lemmas.recorded_run.Telling.{told-run, told-no-job, told-fault}
use Rattle.run_setup.proofs.recorded_run.open_run.open_recorded_run.Goals as goal

pub returns-in-Ok-clause-run : goal.returns-in-Ok-clause-run
returns-in-Ok-clause-run g c =
    told-run (g.S.Slots.sees c.args.shelf.now) c.args.recorded.now c.in_ok-slot.ensures.opens c.in-Ok.opened c.in-Ok.ensures.opened
    c.recorded_run_in.result c.recorded_run_in.ensures.kind c.recorded_run_in.ensures.profile

pub returns-in-Ok-clause-refused : goal.returns-in-Ok-clause-refused
returns-in-Ok-clause-refused g c =
    told-no-job (g.S.Slots.sees c.args.shelf.now) c.args.recorded.now c.in_ok-slot.ensures.opens c.in-Ok.opened c.in-Ok.ensures.opened
    c.recorded_run_in.result c.recorded_run_in.ensures.no_kind c.recorded_run_in.ensures.refused

pub returns-in-Ok-clause-traffic : goal.returns-in-Ok-clause-traffic
returns-in-Ok-clause-traffic g c =
    let read = c.in-Ok.ensures.traffic in
    rw c.recorded_run_in.ensures.fails_not (record {
      cause = λ e. cc;
      counted = omega (arith, c.in_ok-slot.ensures.counted, read.counted);
      stays = g.met.S.Slots.stays_on _ _ _ c.in_ok-slot.ensures.stays read.stays;
    })

pub returns-in-Err-clause-refused : goal.returns-in-Err-clause-refused
returns-in-Err-clause-refused g c =
    rw c.as_bad_run.ensures
    (told-fault (g.S.Slots.sees c.args.shelf.now) c.args.recorded.now c.in_ok-slot.ensures.opens c.in-Err.end c.in-Err.ensures.opened)
