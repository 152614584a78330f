use Rattle.std.proofs.Common.{◌+◌, ◌-◌, ◌/◌, ◌≤◌, sym, subst}
use Rattle.job.proofs.Sizes.{few_blocks}
use Rattle.job.proofs.block_sizes.block_count.Goals as goal

pub returns-clause-few : goal.returns-clause-few
returns-clause-few c = subst (λ w. (c.args.elements + (w - 1)) / w ≤ 256) (sym c.block_size-size.ensures.size)
    (few_blocks c.args.elements c.requires)
