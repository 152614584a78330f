use Rattle.frame_queue.specs.Queues.{IsSenderOf}
use Rattle.thread_tests.proofs.twin_tests.queue.send_rows.Given as goal

abbrev pub invariant-loop-number : goal.invariant-loop-number
invariant-loop-number g l = IsSenderOf l.queue l.sender
