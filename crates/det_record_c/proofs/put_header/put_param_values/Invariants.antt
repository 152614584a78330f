use Rattle.std.proofs.Common.{FitsSigned}
use Rattle.std.specs.Int.{w64}
use Rattle.record_grammar.specs.Spelling.{spelled_signed}
use Rattle.det_record_c.proofs.Putting.{PutSo}
use Rattle.det_record_c.proofs.put_header.put_param_values.Given as goal

abbrev pub invariant-loop-param : goal.invariant-loop-param
invariant-loop-param l = PutSo spelled_signed (FitsSigned w64) l.params l.param-index l.at l.initial.out l.end l.out
