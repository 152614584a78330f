use Rattle.std.proofs.Common.{FitsSigned, pos}
use Rattle.std.specs.Int.{w64}
use Rattle.record_grammar.specs.Spelling.{spelled_signed}
use Rattle.record_codec.proofs.Appending.{HasPut-at, HasPut-grows, HasPut-grown}
use Rattle.record_codec.proofs.put_header.put_param_values.Goals as goal

pub returns-in_err-put_i64-clause-grows : goal.returns-in_err-put_i64-clause-grows
returns-in_err-put_i64-clause-grows c =
    HasPut-grows spelled_signed (FitsSigned w64) _ _ _ _ _ c.loop-param.invariant c.put_i64.ensures.grows

pub loop-param-preserved : goal.loop-param-preserved
loop-param-preserved c =
    HasPut-at spelled_signed (FitsSigned w64) _ _ _ _ _ (pos 0) c.loop-param-test.true c.loop-param.invariant c.in_ok-put_i64.ensures.ok
    c.in_ok-put_i64.ensures.fields

pub returns-clause-grows : goal.returns-clause-grows
returns-clause-grows c = HasPut-grown spelled_signed (FitsSigned w64) _ _ _ _ c.loop-param.invariant
