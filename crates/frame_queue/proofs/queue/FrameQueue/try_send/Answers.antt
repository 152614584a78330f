use Rattle.std.proofs.Common.{rules}
use Rattle.frame_queue.proofs.Keeping.{sends}
use Rattle.frame_queue.proofs.queue.FrameQueue.try_send.Goals as goal

pub try_push_as-requires-clause-rule : goal.try_push_as-requires-clause-rule
try_push_as-requires-clause-rule c = sends _ _ _ _ (search rules)
