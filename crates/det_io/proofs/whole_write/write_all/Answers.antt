use Rattle.std.proofs.Common.{arith}
use Rattle.det_io.proofs.Answered.{on-err}
use Rattle.det_io.proofs.Growth.{grew-next, grew-same, part-of, short-of}
use Rattle.det_io.proofs.whole_write.write_all.Goals as goal

pub loop-done-preserved : goal.loop-done-preserved
loop-done-preserved g c = record {
  within = omega (arith, c.in_ok-done.ensures.within);
  grew = grew-next c.args.bytes.now c.loop-done.done c.in_ok-done.field-0 c.loop-done.invariant.grew c.in_ok-done.ensures.taken;
  counted = omega arith;
}

pub returns-in_err-done-clause-part : goal.returns-in_err-done-clause-part
returns-in_err-done-clause-part g c =
    part-of c.args.bytes.now c.loop-done.done (grew-same c.loop-done.invariant.grew c.in_err-done.ensures.none)

pub returns-in_err-done-clause-short : goal.returns-in_err-done-clause-short
returns-in_err-done-clause-short g c =
    on-err _ (short-of c.args.bytes.now c.loop-done.done (omega arith) (grew-same c.loop-done.invariant.grew c.in_err-done.ensures.none))
