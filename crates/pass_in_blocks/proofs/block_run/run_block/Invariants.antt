use Rattle.std.proofs.Common.{◌≡◌, take, Ok}
use Rattle.pass_in_blocks.specs.Steps.{pass_result, none_in, added_to}
use Rattle.pass_in_blocks.proofs.block_run.run_block.Given as goal

-- the elements of the block before number k are run
abbrev pub invariant-run : goal.invariant-run
invariant-run g l = added_to g.J.Job.meaning l.run.pass.now l.run.first (take l.k l.run.elements.now)
    (none_in g.J.Job.meaning l.run.pass.now) ≡ Ok (pass_result l.elements.items l.draws.items l.part)
