use Rattle.std.proofs.Common.{rules}
use Rattle.frame_queue.proofs.Keeping.{takes}
use Rattle.frame_queue.proofs.queue.FrameQueue.try_take.Goals as goal

pub try_pop_as-requires-clause-rule : goal.try_pop_as-requires-clause-rule
try_pop_as-requires-clause-rule c = takes _ _ (search rules)
