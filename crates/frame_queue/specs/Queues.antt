-- A queue, with its sender and its receiver.
use Rattle.std.specs.Prelude.{ℕ, List}
use Rattle.crossbeam_queue.specs.Passes.{view, IsPassOf, ruled_capacity}
use Rattle.frame_queue.specs.declared.row.Row.{Row}
use Rattle.frame_queue.specs.declared.queue.FrameQueue.{FrameQueue}
use Rattle.frame_queue.specs.declared.ends.Sender.{Sender}
use Rattle.frame_queue.specs.declared.ends.Receiver.{Receiver}

-- what the sender sent, in order
abbrev pub sent_of : Sender → List Row
sent_of sender = (view sender.pass).sent

-- what the receiver took, in order
abbrev pub taken_of : Receiver → List Row
taken_of receiver = (view receiver.pass).taken

-- the sender came from this queue
abbrev pub IsSenderOf : FrameQueue → Sender → Type 0
IsSenderOf queue sender = IsPassOf queue.rows sender.pass

-- the receiver came from this queue
abbrev pub IsReceiverOf : FrameQueue → Receiver → Type 0
IsReceiverOf queue receiver = IsPassOf queue.rows receiver.pass

-- the most rows that the queue holds at a time
abbrev pub places_of : FrameQueue → ℕ
places_of queue = ruled_capacity queue.rows

-- the number of rows at which its ends take it for full
abbrev pub paced_places : FrameQueue → ℕ
paced_places queue = queue.pace.places
