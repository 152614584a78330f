use Rattle.std.specs.Prelude.{◌++◌, codes}
use Rattle.std.specs.Fmt.{signed_decimal}
use Rattle.record_text.proofs.Appending.{HasPut}
use Rattle.record_text.proofs.header_lines.put_spaced_params.Given as goal

abbrev pub invariant-loop-param : goal.invariant-loop-param
invariant-loop-param l = HasPut (λ n. codes " " ++ signed_decimal n) l.params l.param-index l.initial.out.items l.out.items
