use Rattle.std.proofs.Common.{take}
use Rattle.pass_in_blocks.proofs.Spelled.{Shown}
use Rattle.pass_in_blocks.proofs.show_block.put_block.Given as goal

abbrev pub invariant-loop-i : goal.invariant-loop-i
invariant-loop-i g l = Shown g.J.Job.meaning l.job (take l.i l.elements) (take l.i l.draws) l.fn.out.items l.out.items
