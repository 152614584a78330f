use Rattle.std.proofs.Common.{◌≡◌}
use Rattle.frame_queue.specs.Queues.{sent_of, IsSenderOf}
use Rattle.frame_queue.proofs.queue.FrameQueue.push.Given as goal

abbrev pub invariant-loop : goal.invariant-loop
invariant-loop g l = IsSenderOf l.self l.sender × (sent_of l.sender ≡ sent_of l.fn.sender) × (l.row ≡ l.fn.row)
