use Rattle.std.proofs.Common.{FitsSigned}
use Rattle.std.specs.Int.{w64}
use Rattle.record_grammar.specs.Spelling.{spelled_signed}
use Rattle.record_codec.proofs.Appending.{HasPut}
use Rattle.record_codec.proofs.put_header.put_param_values.Given as goal

abbrev pub invariant-loop-param : goal.invariant-loop-param
invariant-loop-param l = HasPut spelled_signed (FitsSigned w64) l.params l.param-index l.initial.out.items l.out.items
