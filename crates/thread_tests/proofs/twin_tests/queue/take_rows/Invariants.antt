use Rattle.frame_queue.specs.Queues.{IsReceiverOf}
use Rattle.thread_tests.proofs.twin_tests.queue.take_rows.Given as goal

abbrev pub invariant-loop-number : goal.invariant-loop-number
invariant-loop-number g l = IsReceiverOf l.queue l.receiver
