use Rattle.std.proofs.Common.{◌+◌, ◌*◌, ◌%◌, ◌≤◌, sym, subst}
use Rattle.job.proofs.Sizes.{together}
use Rattle.job.proofs.pass.PassRef.earlier_block.Goals as goal

pub part-requires-clause-together : goal.part-requires-clause-together
part-requires-clause-together g c = subst (λ w. w * c.args.number % 256 + w ≤ 256) (sym c.block_size-size.ensures.size)
    (together c.count.result c.args.number)
