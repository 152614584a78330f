use Rattle.std.proofs.Common.{rules}
use Rattle.frame_queue.proofs.Keeping.{merges}
use Rattle.frame_queue.proofs.queue.FrameQueue.close.Goals as goal

pub absorb-requires-clause-rule : goal.absorb-requires-clause-rule
absorb-requires-clause-rule c = merges _ _ _ _ (search rules) (search rules)
