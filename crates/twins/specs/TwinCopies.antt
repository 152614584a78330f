-- Copies that have sent nothing yet.
use Rattle.std.specs.Prelude.{◌≡◌, ℕ, List}
use Rattle.std.specs.List.{range_with_len}
use Rattle.det_values.specs.Values.{ProfileValue}
use Rattle.det_values.specs.declared.frames.CycleInput.{CycleInput}
use Rattle.det_values.specs.declared.frames.Frame.{Frame}
use Rattle.job.specs.Meaning.{Meaning}
use Rattle.twins.specs.declared.twin_copies.TwinCopies.{TwinCopies}
use Rattle.twins.specs.TwinQueues.{AreTwins, numbers_of}
use Rattle.twins.specs.TakenRows.{AreIntakes, HaveTaken}

-- this number of copies, each with its queue, before anything is taken from it
pub record AreCopies {S G E L P : Type 0} (m : Meaning S G E L P) (profile : ProfileValue)
    (inputs : List CycleInput) (altered : ℕ → ℕ → Frame → Frame) (count : ℕ)
    (copies : TwinCopies S G E L P) : Type 0 where
  pub twins : AreTwins m profile inputs altered copies.queues.items copies.twins.items
  pub numbers : numbers_of copies.twins.items ≡ range_with_len 0 count
  pub intakes : AreIntakes copies.queues.items copies.intakes.items
  pub taken : HaveTaken 0 copies.intakes.items
