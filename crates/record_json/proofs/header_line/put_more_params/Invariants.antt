use Rattle.std.specs.Prelude.{◌++◌, codes}
use Rattle.record_text.proofs.Appending.{HasPut}
use Rattle.record_json.specs.Texts.{signed_text}
use Rattle.record_json.proofs.header_line.put_more_params.Given as goal

abbrev pub invariant-loop-param : goal.invariant-loop-param
invariant-loop-param l = HasPut (λ n. codes "," ++ signed_text n) l.params l.param-index l.initial.out.items l.out.items
