-- Copies that send, each to its queue.
use Rattle.std.specs.Prelude.{◌≡◌, List, ℕ, map}
use Rattle.det_values.specs.Values.{ProfileValue}
use Rattle.det_values.specs.declared.frames.CycleInput.{CycleInput}
use Rattle.det_values.specs.declared.frames.Frame.{Frame}
use Rattle.job.specs.Meaning.{Meaning}
use Rattle.frame_queue.specs.declared.queue.FrameQueue.{FrameQueue}
use Rattle.twins.specs.declared.twin.Twin.{Twin}
use Rattle.twins.specs.TwinFrames.{IsTwin}
use Rattle.twins.specs.Pairs.{EachPair}

module _ {S G E L P : Type 0} where
  -- each copy sends to the queue of its place
  abbrev pub AreTwins : Meaning S G E L P → ProfileValue → List CycleInput
      → (ℕ → ℕ → Frame → Frame) → List FrameQueue → List (Twin S G E L P) → Type 0
  AreTwins m profile inputs altered queues twins =
      EachPair (IsTwin m profile inputs altered) queues twins

  -- their numbers
  abbrev pub numbers_of : List (Twin S G E L P) → List ℕ
  numbers_of twins = map (λ (twin : Twin S G E L P). twin.copy) twins

  -- copies after some of their rows were sent: the same copies, each at its queue
  pub record HaveSent (m : Meaning S G E L P) (profile : ProfileValue) (inputs : List CycleInput)
      (altered : ℕ → ℕ → Frame → Frame) (queues : List FrameQueue)
      (before after : List (Twin S G E L P)) : Type 0 where
    pub twins : AreTwins m profile inputs altered queues after
    pub numbers : numbers_of after ≡ numbers_of before
