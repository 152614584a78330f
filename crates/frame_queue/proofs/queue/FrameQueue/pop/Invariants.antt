use Rattle.std.proofs.Common.{◌≡◌}
use Rattle.frame_queue.specs.Queues.{taken_of, IsReceiverOf}
use Rattle.frame_queue.proofs.queue.FrameQueue.pop.Given as goal

abbrev pub invariant-loop : goal.invariant-loop
invariant-loop g l = IsReceiverOf l.self l.receiver × (taken_of l.receiver ≡ taken_of l.fn.receiver)
