-- What is known of copies whose queues are closed.
use Rattle.std.specs.Prelude.{List}
use Rattle.det_io.specs.Prefix.{IsPrefix}
use Rattle.frame_queue.specs.declared.queue.FrameQueue.{FrameQueue}
use Rattle.frame_queue.specs.Queues.{sent_of, IsSenderOf}
use Rattle.twins.specs.declared.taker.Intake.{Intake}
use Rattle.twins.specs.declared.twin.Twin.{Twin}
use Rattle.twins.specs.Intakes.{rows_in}
use Rattle.twins.specs.Pairs.{EachPair}

module _ {S G E L P : Type 0} where
  -- each copy has the sender of the queue of its place
  abbrev pub AreSenders : List FrameQueue → List (Twin S G E L P) → Type 0
  AreSenders queues twins =
      EachPair (λ q (twin : Twin S G E L P). IsSenderOf q twin.sender) queues twins

  -- the rows taken of each copy are the first of those that it sent
  abbrev pub AreBegun : List Intake → List (Twin S G E L P) → Type 0
  AreBegun intakes twins = EachPair (λ intake (twin : Twin S G E L P).
      IsPrefix (rows_in intake) (sent_of twin.sender)) intakes twins
