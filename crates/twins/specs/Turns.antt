-- A turn in which copies send rows while rows are taken of them.
use Rattle.std.specs.Prelude.{ℕ, List}
use Rattle.det_values.specs.Values.{ProfileValue}
use Rattle.det_values.specs.declared.frames.CycleInput.{CycleInput}
use Rattle.det_values.specs.declared.frames.Frame.{Frame}
use Rattle.job.specs.Meaning.{Meaning}
use Rattle.frame_queue.specs.declared.queue.FrameQueue.{FrameQueue}
use Rattle.twins.specs.declared.sides.Sides.{Sides}
use Rattle.twins.specs.Sides.{twins_of}
use Rattle.twins.specs.TakenRows.{MayTake}
use Rattle.twins.specs.TwinFrames.{AreKnown}
use Rattle.twins.specs.TwinQueues.{AreTwins}

-- each copy may send to the queue of its place, and at most `more` rows may be taken of each
pub record MayExchange {S G E L P : Type 0} (m : Meaning S G E L P) (profile : ProfileValue)
    (inputs : List CycleInput) (altered : ℕ → ℕ → Frame → Frame) (queues : List FrameQueue)
    (sides : Sides S G E L P) (more : ℕ) : Type 0 where
  pub known : AreKnown profile inputs
  pub twins : AreTwins m profile inputs altered queues (twins_of sides)
  pub takes : MayTake queues sides.taker more
