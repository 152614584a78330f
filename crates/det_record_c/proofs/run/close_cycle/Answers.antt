use Rattle.std.proofs.Common.{rules, ◌≤◌, ◌<◌, length, refl, arith}
use Rattle.det_record_c.specs.Runs.{CanClose}
use Rattle.det_record_c.proofs.Written.{counted_fit}
use Rattle.det_record_c.proofs.Running.{is_closed, few_cycles, place_next}
use Rattle.det_record_c.proofs.run.close_cycle.Goals as goal

pub overflow_add-state : goal.overflow_add-state
overflow_add-state c =
    let can : CanClose c.args.run.now c.args.state.now = search rules in
    omega (arith, few_cycles c.args.state.now can.follows)

pub returns : goal.returns
returns c =
    let can : CanClose c.args.run.now c.args.state.now = search rules in
    let short : length c.args.output.now ≤ 1048576 = search rules in
    let small : length c.args.out.now < 18446744073709551615 = search rules in
    let le : c.put_closing-needed.result ≤ length c.args.out.now = search rules in
    let fits = counted_fit _ _ _ c.args.out.now _ c.put_closing-needed.ensures.puts le small in (
      can,
      short,
      fits,
      is_closed c.args.run.now c.args.output.now _ _ _ can c.put_closing.ensures.fields short c.put_closing.ensures.puts
          (omega (arith, small)) fits refl (place_next c.args.state.now can.follows),
    )
