use Rattle.std.proofs.Common.{FitsSigned, pos}
use Rattle.std.specs.Int.{w64}
use Rattle.record_grammar.specs.Spelling.{spelled_signed}
use Rattle.det_record_c.proofs.Putting.{PutSo-at}
use Rattle.det_record_c.proofs.put_header.put_param_values.Goals as goal

pub loop-param-preserved : goal.loop-param-preserved
loop-param-preserved c =
    PutSo-at spelled_signed (FitsSigned w64) _ _ _ _ _ _ _ _ (pos 0) c.loop-param-test.true c.loop-param.invariant
    c.put_i64-end.ensures.puts c.put_i64-end.ensures.fields
