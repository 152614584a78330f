use Rattle.std.proofs.Common.{arith, length-take, sym}
use Rattle.std.proofs.lemmas.List.{take_all}
use Rattle.manifest.proofs.unknown_key.first_bytes.Goals as goal

pub slice_bounds-result-end : goal.slice_bounds-result-end
slice_bounds-result-end c = omega (arith, length-take 64 c.args.key.now)

pub returns-then-key-le64-clause-bytes : goal.returns-then-key-le64-clause-bytes
returns-then-key-le64-clause-bytes c = sym (take_all 64 c.args.key.now c.if-key-le64.true)

pub returns-else-key-le64-clause-short : goal.returns-else-key-le64-clause-short
returns-else-key-le64-clause-short c = omega (arith, length-take 64 c.args.key.now)
