use Rattle.std.proofs.Common.{arith, rules}
use Rattle.record_codec.proofs.Appending.{grows_then}
use Rattle.record_codec.proofs.Flat.{put_more, put_grows, put_fields, put_all_fields}
use Rattle.record_codec.proofs.put_frame.put_undrawn.Goals as goal

pub returns-in_err-put_u16-in-Some-clause-grows : goal.returns-in_err-put_u16-in-Some-clause-grows
returns-in_err-put_u16-in-Some-clause-grows c = grows_then _ _ _ (put_grows _ _ _ _ _ c.loop.invariant) c.put_u16.ensures.grows

pub returns-in_err-put_slice-in-Some-clause-grows : goal.returns-in_err-put_slice-in-Some-clause-grows
returns-in_err-put_slice-in-Some-clause-grows c =
    grows_then _ _ _ (put_grows _ _ _ _ _ c.loop.invariant) (grows_then _ _ _ c.put_u16.ensures.grows c.put_slice.ensures.grows)

pub returns-in-None-clause-grows : goal.returns-in-None-clause-grows
returns-in-None-clause-grows c = put_grows _ _ _ _ _ c.loop.invariant

pub loop-preserved : goal.loop-preserved
loop-preserved c =
    put_more _ _ _ _ _ _ _ _ _ _ c.loop.invariant c.in-Some.ensures.some
    (record { short = c.in-Some.ensures.short; bytes = c.put_slice.ensures.fields; draws = search rules })
    c.in_ok-put_u16-in-Some.ensures.ok
    c.in_ok-put_slice-in-Some.ensures.ok

pub returns-clause-grows : goal.returns-clause-grows
returns-clause-grows c = put_grows _ _ _ _ _ c.loop.invariant

pub returns-in-None-clause-fields : goal.returns-in-None-clause-fields
returns-in-None-clause-fields c = put_fields _ _ _ _ _ c.loop.invariant c.in-None.ensures.none

pub returns-clause-fields : goal.returns-clause-fields
returns-clause-fields c = put_all_fields _ _ _ _ _ (omega (arith, c.loop-test.false, c.len-end.ensures.len)) c.loop.invariant
