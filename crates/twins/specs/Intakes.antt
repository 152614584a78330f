-- The end of one copy's queue, and what was taken from it.
use Rattle.std.specs.Prelude.{List}
use Rattle.frame_queue.specs.declared.row.Row.{Row}
use Rattle.frame_queue.specs.declared.queue.FrameQueue.{FrameQueue}
use Rattle.frame_queue.specs.Queues.{taken_of, IsReceiverOf}
use Rattle.twins.specs.declared.taker.Intake.{Intake}

-- it takes from this queue
abbrev pub IsIntakeOf : FrameQueue → Intake → Type 0
IsIntakeOf queue intake = IsReceiverOf queue intake.receiver

-- the rows that were taken of it
abbrev pub rows_in : Intake → List Row
rows_in intake = taken_of intake.receiver
