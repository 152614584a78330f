use Rattle.std.proofs.Common.{◌≤◌, arith}
use Rattle.job.specs.Passes.{block_in, blocks_in}
use Rattle.worker_pool.specs.Handles.{view_of, block_count}
use Rattle.worker_pool.proofs.Right.{right_of}
use Rattle.worker_pool.proofs.work.work_blocks.Goals as goal

pub returns-then-not-branch-clause-right : goal.returns-then-not-branch-clause-right
returns-then-not-branch-clause-right g c =
    let e = c.in_ok-try_block.ensures.seen in
    let t = c.each-test.true in
    let s = c.seen.ensures in
    let b = c.blocks-in-each.ensures in
    let inside : (view_of c.try_block.new.seat).seen ≤ block_count c.args.table.now = omega arith in
    right_of (block_in g.J.Job.meaning c.args.pass.now) (blocks_in c.args.pass.now) (view_of c.try_block.new.seat) _ _
    c.requires.sized inside c.in_ok-try_block.ensures.works

pub returns-clause-right : goal.returns-clause-right
returns-clause-right g c = right_of (block_in g.J.Job.meaning c.args.pass.now) (blocks_in c.args.pass.now)
    (view_of c.each.seat) _ _ c.requires.sized c.each.invariant.inside c.each.invariant.works
