use Rattle.record_json.proofs.Reports.{inner_next, inner_none}
use Rattle.record_json.proofs.reports_line.put_inner.Goals as goal

pub loop-i-preserved : goal.loop-i-preserved
loop-i-preserved c =
    inner_next c.args.reports.now c.loop-i.i 0 _ _ _ c.loop-i-test.true c.loop-i.invariant
    (rw (← c.split_at.ensures.back) c.in_ok-put_byte.ensures)

pub returns : goal.returns
returns c = inner_none c.args.reports.now c.loop-i.i _ _ c.loop-i-test.false c.loop-i.invariant
