use Rattle.std.proofs.Common.{arith, ◌≤◌}
use Rattle.det_reading_c.proofs.Elements.{any_four, none_of_four}
use Rattle.det_reading_c.proofs.frame_parts.any_u32.Goals as goal

pub returns-then-bytes-lt4 : goal.returns-then-bytes-lt4
returns-then-bytes-lt4 c = none_of_four c.args.bytes.now (omega arith)

pub returns : goal.returns
returns c =
    let most : c.from_be_bytes-n.result ≤ 4294967295 = omega arith in
    rw c.split_at.ensures.back (any_four c.from_be_bytes-n.result c.args.bytes.now (omega arith) (λ i. omega (arith, c.type_inv.bytes i))
    c.from_be_bytes-n.ensures most)
