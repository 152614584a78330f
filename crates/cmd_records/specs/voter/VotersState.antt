-- The state of all copies after the items that more than half of them hold.
use Rattle.std.specs.Prelude.{◌≡◌, ℕ, ◌+◌, ◌<◌, List, [], ◌∷◌, ◌++◌, length, get_or, true, Option}
use Rattle.std.specs.Prelude.{Some, None, Result, Ok, Err}
use Rattle.std.specs.List.{count_by}
use Rattle.det_io.specs.Shelf.{ShelfState, IsAtEnd}
use Rattle.det_io.specs.Sink.{Grew, GrewShort}
use Rattle.det_io.specs.Traffic.{SinkRun}
use Rattle.det_io.specs.declared.failure.Failure.TheVariants.{Write, OutOfMemory}
use Rattle.det_io.specs.declared.failure.Stopped.{Stopped}
use Rattle.det_io.specs.declared.failure.Stopped.TheVariants.{Refused, Failed}
use Rattle.record_grammar.specs.declared.item.Item.{Item}
use Rattle.record_grammar.specs.declared.place.Place.{Place}
use Rattle.record_grammar.specs.Record.{items as items_in, fault as fault_in}
use Rattle.record_reader.specs.Kinds.{runs_of}
use Rattle.record_reader.specs.Salvaged.{cycles_of}
use Rattle.copies.specs.Verdict.{shared}
use Rattle.copies.specs.CompareCopies.{AreLeft}
use Rattle.cmd_records.specs.declared.voter.outcome.Dissenter.{Dissenter}
use Rattle.cmd_records.specs.declared.voter.outcome.NoMajority.{NoMajority}
use Rattle.cmd_records.specs.declared.voter.outcome.Vote.{Vote}
use Rattle.cmd_records.specs.declared.voter.voter_rows.RowView.{RowView}
use Rattle.cmd_records.specs.declared.voter.voter_rows.RowView.TheVariants as views
use Rattle.cmd_records.specs.declared.voter.voter_rows.Voter.{Voter}
use Rattle.cmd_records.specs.declared.voter.voters.HeldItem.{HeldItem}
use Rattle.cmd_records.specs.declared.voter.voters.Voters.{Voters}
use Rattle.cmd_records.specs.voter.Majority.{is_most, majority, common}
use Rattle.cmd_records.specs.voter.Rows.{is_in_step, AreVoters, HoldsAt, place_behind, FailedAmong}

-- more than half of the copies are in step
abbrev pub AreMost : List Voter → Type 0
AreMost voters = is_most (count_by is_in_step voters) (length voters) ≡ true

-- the copies in step gave these items, and the counts are theirs
pub record Stand (first now : ShelfState) (given : List Item) (slots : List ℕ) (voters : Voters)
    : Type 0 where
  pub readers : AreVoters first now given slots voters.voters.items
  pub most : AreMost voters.voters.items
  pub rows : voters.rows ≡ length given
  pub cycles : voters.cycles ≡ cycles_of given

-- ---- the end

-- a copy is the whole record of these items
pub record IsRecord (given : List Item) (copy : List ℕ) : Type 0 where
  pub items : items_in copy ≡ given
  pub whole : fault_in copy ≡ None

-- a copy left in this row, and isn't the whole record of these items
pub record IsApart (given : List Item) (number : ℕ) (copy : List ℕ) : Type 0 where
  pub row : length (shared given (items_in copy)) ≡ number
  pub other : IsRecord given copy → ⊥

-- a copy at its end, or one that left
abbrev pub EndIs : Option ℕ → ShelfState → ShelfState → List Item → ℕ → Type 0
EndIs None first now given slot = IsAtEnd now slot
    × ((copy : List ℕ) → first.left slot ≡ Some copy → IsRecord given copy)
EndIs (Some row) first now given slot =
    (copy : List ℕ) → first.left slot ≡ Some copy → IsApart given row copy

abbrev pub AreEnded : ShelfState → ShelfState → List Item → List ℕ → List Voter → Type 0
AreEnded first now given [] [] = Unit {0}
AreEnded first now given (slot ∷ slots) (v ∷ voters) =
    EndIs v.left first now given slot × AreEnded first now given slots voters
AreEnded first now given slots voters = ⊥

-- more than half of the copies are the whole record of these items
pub record Decided (first now : ShelfState) (given : List Item) (slots : List ℕ) (voters : Voters)
    : Type 0 where
  pub ended : AreEnded first now given slots voters.voters.items
  pub most : AreMost voters.voters.items
  pub cycles : voters.cycles ≡ cycles_of given

-- these are the items that more than half of the copies hold, and no whole record is that of more
-- than half of them
pub record AreSplit (given : List Item) (copies : List (List ℕ)) : Type 0 where
  pub common : common copies ≡ given
  pub none : majority copies ≡ None

-- ---- an item that is held

-- the item of the row that a copy holds
abbrev pub held_in : ℕ → Option RowView → Option HeldItem
held_in copy (Some (views.Item view)) = Some (record { copy = copy; view = view })
held_in copy row = None

-- a copy holds this item, at this place
pub record IsHeldIn (voters : List Voter) (held : HeldItem) (place : Place) (item : Item)
    : Type 0 where
  pub there : held.copy < length voters
  pub holds : (d : Voter) → HoldsAt place (get_or voters held.copy d).reader held.view item

-- bytes were written, or not all of them
abbrev pub Writes : Result (Unit {0}) (Stopped NoMajority) → List ℕ → SinkRun → Type 0
Writes (Ok u) bytes out = Grew out.before out.after bytes
Writes (Err (Failed Write)) bytes out = GrewShort out.before out.after bytes
Writes (Err stop) bytes out = ⊥

-- ---- answers

-- the copies go on after an item, or the vote is decided
abbrev pub RowTaken : Result (Option HeldItem) (Stopped NoMajority) → ShelfState → ShelfState
    → List Item → List ℕ → Voters → Type 0
RowTaken (Ok (Some held)) first now given slots voters = (item : Item)
    × Stand first now (given ++ item ∷ []) slots voters
    × IsHeldIn voters.voters.items held (place_behind given) item
RowTaken (Ok None) first now given slots voters = Decided first now given slots voters
RowTaken (Err (Refused split)) first now given slots voters = (split.row ≡ length given)
    × ((copies : List (List ℕ)) → AreLeft first slots copies → AreSplit given copies)
RowTaken (Err (Failed failure)) first now given slots voters =
    FailedAmong failure first now given slots

-- one item more is counted
abbrev pub Counts : Option HeldItem → Voters → Voters → Type 0
Counts None old new = new ≡ old
Counts (Some held) old new =
    new ≡ record old { rows = old.rows + 1; cycles = old.cycles + runs_of held.view.span.kind }

abbrev pub dissenter : Option ℕ → ℕ → List Dissenter
dissenter None copy = []
dissenter (Some row) copy = record { copy = copy; row = row } ∷ []

-- the copies, counted on from `copy`, that left
abbrev pub dissenters : ℕ → List Voter → List Dissenter
dissenters copy [] = []
dissenters copy (v ∷ voters) = dissenter v.left copy ++ dissenters (copy + 1) voters

abbrev pub IsVoteOf : Result Vote (Stopped NoMajority) → Voters → Type 0
IsVoteOf (Ok vote) voters =
    (vote.cycles ≡ voters.cycles) × (vote.dissent ≡ dissenters 0 voters.voters.items)
IsVoteOf (Err (Failed OutOfMemory)) voters = Unit {0}
IsVoteOf (Err stop) voters = ⊥
