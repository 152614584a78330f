-- The result of a vote over the copies in slots.
use Rattle.std.specs.Prelude.{◌≡◌, ℕ, ◌+◌, List, [], ◌∷◌, length, Bool, true, false, ◌==◌, Some}
use Rattle.std.specs.Prelude.{None, Result, Ok, Err}
use Rattle.std.specs.List.{list_any, Contains}
use Rattle.det_io.specs.declared.failure.Failure.TheVariants.{Read, Write, OutOfMemory}
use Rattle.det_io.specs.declared.failure.Stopped.{Stopped}
use Rattle.det_io.specs.declared.failure.Stopped.TheVariants.{Refused, Failed}
use Rattle.det_io.specs.Shelf.{ShelfState, Gave, IsAtEnd}
use Rattle.det_io.specs.Sink.{Grew, GrewByPrefix, GrewShort}
use Rattle.det_io.specs.Traffic.{SinkRun}
use Rattle.record_grammar.specs.declared.item.Item.{Item}
use Rattle.record_grammar.specs.Record.{items as items_in, fault_so_far}
use Rattle.record_reader.specs.Salvaged.{cycles_of}
use Rattle.copies.specs.CompareCopies.{AreLeft}
use Rattle.cmd_records.specs.declared.voter.outcome.Dissenter.{Dissenter}
use Rattle.cmd_records.specs.declared.voter.outcome.NoMajority.{NoMajority}
use Rattle.cmd_records.specs.declared.voter.outcome.Vote.{Vote}
use Rattle.cmd_records.specs.voter.Majority.{majority, dissent, common, are_held, spelled_items}
use Rattle.cmd_records.specs.voter.Majority.{voted}

-- more than half of the copies are one whole record, which the sink took
pub record Elects (vote : Vote) (copies : List (List ℕ)) (out : SinkRun) : Type 0 where
  pub whole : List Item
  pub is : majority copies ≡ Some whole
  pub cycles : vote.cycles ≡ cycles_of whole
  pub dissent : vote.dissent ≡ dissent whole 0 copies
  pub grew : Grew out.before out.after (spelled_items whole)

-- No whole record is that of more than half of the copies. The sink took the rows before the first
-- one that not more than half of them hold together.
pub record Splits (number : ℕ) (copies : List (List ℕ)) (out : SinkRun) : Type 0 where
  pub none : majority copies ≡ None
  pub row : number ≡ length (common copies)
  pub grew : Grew out.before out.after (voted copies)

-- all that was read of a slot shows these rows, and neither a further row nor a fault
pub record ShowsRows (first now : ShelfState) (rows : List Item) (slot : ℕ) : Type 0 where
  pub read : List ℕ
  pub gave : Gave first now slot read
  pub items : items_in read ≡ rows
  pub sound : fault_so_far read ≡ None

-- If a read failed, all that was read of one copy shows these rows and no more. More than half of
-- the copies begin with them, and the sink took them all. They are a beginning of what is voted.
pub record Breaks (first now : ShelfState) (slots : List ℕ) (copies : List (List ℕ)) (out : SinkRun)
    : Type 0 where
  pub rows : List Item
  pub slot : ℕ
  pub among : Contains slots slot
  pub shown : ShowsRows first now rows slot
  pub held : are_held copies rows ≡ true
  pub grew : Grew out.before out.after (spelled_items rows)
  pub part : GrewByPrefix out.before out.after (voted copies)

-- what a result says of the copies, of what was read of them, and of what the sink took
abbrev pub Answers : Result Vote (Stopped NoMajority) → (first now : ShelfState) → List ℕ
    → List (List ℕ) → SinkRun → Type 0
Answers (Ok vote) first now slots copies out = Elects vote copies out
Answers (Err (Refused split)) first now slots copies out = Splits split.row copies out
Answers (Err (Failed Read)) first now slots copies out = Breaks first now slots copies out
Answers (Err (Failed Write)) first now slots copies out =
    GrewShort out.before out.after (voted copies)
Answers (Err (Failed OutOfMemory)) first now slots copies out =
    GrewByPrefix out.before out.after (voted copies)

-- whether a copy is among the dissenters
abbrev pub dissents : List Dissenter → ℕ → Bool
dissents dissent copy = list_any (λ (d : Dissenter). d.copy == copy) dissent

-- nothing is left of the slots of the copies, counted on from `copy`, that don't dissent
abbrev pub OthersEnd : List Dissenter → ShelfState → ℕ → List ℕ → Type 0
OthersEnd dissent now copy [] = Unit {0}
OthersEnd dissent now copy (slot ∷ slots) =
    (dissents dissent copy ≡ false → IsAtEnd now slot) × OthersEnd dissent now (copy + 1) slots

-- the majority's copies are read to their ends
abbrev pub EndsWhere : Result Vote (Stopped NoMajority) → ShelfState → List ℕ → Type 0
EndsWhere (Ok vote) now slots = OthersEnd vote.dissent now 0 slots
EndsWhere (Err stop) now slots = Unit {0}

-- a vote ended with the right result for any bytes that the slots can have had
pub record HasVoted (result : Result Vote (Stopped NoMajority)) (first now : ShelfState)
    (slots : List ℕ) (out : SinkRun) : Type 0 where
  pub answers : (copies : List (List ℕ)) → AreLeft first slots copies
      → Answers result first now slots copies out
  pub ends : EndsWhere result now slots
