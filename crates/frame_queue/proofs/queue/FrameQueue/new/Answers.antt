use Rattle.std.proofs.Common.{rules}
use Rattle.frame_queue.proofs.Keeping.{begins, forks}
use Rattle.frame_queue.proofs.queue.FrameQueue.new.Goals as goal

pub ruled-requires-clause-rule : goal.ruled-requires-clause-rule
ruled-requires-clause-rule c = begins

pub another-other-requires-clause-rule : goal.another-other-requires-clause-rule
another-other-requires-clause-rule c = forks _ _ (search rules)
