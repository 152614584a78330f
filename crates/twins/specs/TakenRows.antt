-- What is taken of copies, and what it says of them.
use Rattle.std.specs.Prelude.{◌≡◌, ℕ, ◌+◌, ◌<◌, ◌≤◌, List, [], ◌∷◌, ◌++◌, length, map}
use Rattle.std.specs.Prelude.{Option, Some, None}
use Rattle.std.specs.List.{All}
use Rattle.frame_queue.specs.declared.row.Row.{Row}
use Rattle.frame_queue.specs.declared.queue.FrameQueue.{FrameQueue}
use Rattle.copies.specs.declared.verdict.Verdict.{Verdict}
use Rattle.twins.specs.declared.taker.Intake.{Intake}
use Rattle.twins.specs.declared.taker.Taker.{Taker}
use Rattle.twins.specs.Intakes.{IsIntakeOf, rows_in}
use Rattle.twins.specs.Pairs.{EachPair}
use Rattle.twins.specs.TwinVerdict.{row_verdict}

-- each takes from the queue of its place
abbrev pub AreIntakes : List FrameQueue → List Intake → Type 0
AreIntakes queues intakes = EachPair IsIntakeOf queues intakes

-- the rows that were taken of each copy
abbrev pub taken_by : List Intake → List (List Row)
taken_by intakes = map rows_in intakes

-- one more row was taken of a copy
abbrev pub TookOne : Intake → Intake → Type 0
TookOne old new = (row : Row) × (rows_in new ≡ rows_in old ++ row ∷ [])
    × (new.rows ≡ old.rows + 1)

-- this number of rows was taken of each copy
abbrev pub HaveTaken : ℕ → List Intake → Type 0
HaveTaken rows intakes =
    All (λ (i : Intake). (i.rows ≡ rows) × (length (rows_in i) ≡ rows)) intakes

-- this number of rows was taken of each copy, and all have them equal
pub record Agreed (queues : List FrameQueue) (taker : Taker) : Type 0 where
  pub intakes : AreIntakes queues taker.intakes.items
  pub taken : HaveTaken taker.rows taker.intakes.items
  pub same : (f : ℕ) → f < taker.rows → row_verdict f (taken_by taker.intakes.items) ≡ None

-- of the rows taken the last one is the first that not all copies have equal
pub record Parted (queues : List FrameQueue) (taker : Taker) (verdict : Verdict) : Type 0 where
  pub intakes : AreIntakes queues taker.intakes.items
  pub taken : HaveTaken taker.rows taker.intakes.items
  pub same : (f : ℕ) → f + 1 < taker.rows → row_verdict f (taken_by taker.intakes.items) ≡ None
  pub last : (f : ℕ) × (taker.rows ≡ f + 1)
      × (row_verdict f (taken_by taker.intakes.items) ≡ Some verdict)

-- what was found of the rows taken
abbrev pub Judged : Option Verdict → List FrameQueue → Taker → Type 0
Judged None queues taker = Agreed queues taker
Judged (Some verdict) queues taker = Parted queues taker verdict

-- at most `more` further rows may be taken of each of these 1 to 8 copies
pub record MayTake (queues : List FrameQueue) (taker : Taker) (more : ℕ) : Type 0 where
  pub some : 0 < length queues
  pub few : length queues ≤ 8
  pub room : taker.rows + more < 4294967295
  pub agreed : Agreed queues taker

-- at most `more` further rows were taken of each copy, and this was found of them
pub record Takes (queues : List FrameQueue) (before after : Taker) (more : ℕ)
    (found : Option Verdict) : Type 0 where
  pub judged : Judged found queues after
  pub within : after.rows ≤ before.rows + more
