-- What `vote` makes of copies of a record, and what it prints of its dissenters.
use Rattle.std.specs.Prelude.{◌≡◌, ℕ, ◌+◌, ◌<◌, List, [], ◌∷◌, length, map, codes, true, None}
use Rattle.std.specs.Prelude.{if◌then◌else◌, nat_eq}
use Rattle.std.specs.List.{count_by, starts_with, AllByRecursion}
use Rattle.std.specs.Str.{bytes_eq}
use Rattle.det_io.specs.Prefix.{IsPrefix}
use Rattle.record_grammar.specs.declared.item.Item.{Item}
use Rattle.record_grammar.specs.Record.{items, fault}
use Rattle.record_grammar.specs.Spelling.{AreBytes}
use Rattle.record_reader.specs.Salvaged.{cycles_of}
use Rattle.record_text.specs.Words.{number_line}
use Rattle.copies.specs.Laws.{AreOneRecord}
use Rattle.cmd_records.specs.declared.voter.outcome.Dissenter.{Dissenter}
use Rattle.cmd_records.specs.voter.Majority.{dissent, are_held, spelled_items}
use Rattle.cli_answers.specs.declared.answer.Answer.TheVariants.{Done, NoMajority}
use Rattle.cmd_records.specs.vote_command.Vote.{vote_outcome, dissent_text, dissent_outcome}

-- ---- the majority

-- a whole record that more than half of the copies are
pub record IsMajority (whole : List ℕ) (copies : List (List ℕ)) : Type 0 where
  pub sound : fault whole ≡ None
  pub most : length copies < count_by (bytes_eq whole) copies + count_by (bytes_eq whole) copies

-- if there is one, `vote` writes it and is done
abbrev pub MajorityIsWritten : Type 0
MajorityIsWritten = (whole : List ℕ) (copies : List (List ℕ)) → AllByRecursion AreBytes copies
    → IsMajority whole copies → vote_outcome copies ≡ record { answer = Done; bytes = whole }

-- if `vote` is done, it has written that record
abbrev pub DoneIsMajority : Type 0
DoneIsMajority = (copies : List (List ℕ)) → AllByRecursion AreBytes copies
    → (vote_outcome copies).answer ≡ Done → IsMajority (vote_outcome copies).bytes copies

-- ---- no majority

-- how many of the copies begin with these bytes
abbrev pub beginning_with : List ℕ → List (List ℕ) → ℕ
beginning_with bytes copies = count_by (λ copy. starts_with nat_eq copy bytes) copies

-- More than half of the copies begin with these bytes, which are this many rows. They are the most
-- such rows: any rows with which more than half of the copies begin are a beginning of them.
pub record AreCommon (bytes : List ℕ) (rows : ℕ) (copies : List (List ℕ)) : Type 0 where
  pub begun : length copies < beginning_with bytes copies + beginning_with bytes copies
  pub whole : bytes ≡ spelled_items (items bytes)
  pub number : rows ≡ length (items bytes)
  pub held : are_held copies (items bytes) ≡ true
  pub most : (given : List Item) → are_held copies given ≡ true → IsPrefix given (items bytes)

-- if `vote` finds no majority, there is none, and it has written the rows that more than half of
-- the copies have in common
abbrev pub SplitIsCommon : Type 0
SplitIsCommon = (first : List ℕ) (others : List (List ℕ)) (row : ℕ)
    → AllByRecursion AreBytes (first ∷ others)
    → (vote_outcome (first ∷ others)).answer ≡ NoMajority row
    → ((whole : List ℕ) → IsMajority whole (first ∷ others) → ⊥)
    × AreCommon (vote_outcome (first ∷ others)).bytes row (first ∷ others)

-- ---- the dissenters

-- `vote --dissent` has the same answer as `vote`
abbrev pub AnsweredAlike : Type 0
AnsweredAlike =
    (copies : List (List ℕ)) → (dissent_outcome copies).answer ≡ (vote_outcome copies).answer

-- the numbers of the copies that aren't these bytes, counted on from this number
abbrev pub others_than : List ℕ → ℕ → List (List ℕ) → List ℕ
others_than whole copy [] = []
others_than whole copy (bytes ∷ copies) =
    if bytes_eq whole bytes then others_than whole (copy + 1) copies
    else copy ∷ others_than whole (copy + 1) copies

-- The text gives the number of cycles of this record, and the copies that dissent from it. These
-- are the copies that aren't this record, byte for byte.
pub record AreNamed (whole : List ℕ) (copies : List (List ℕ)) : Type 0 where
  pub text : (dissent_outcome copies).bytes
      ≡ dissent_text (cycles_of (items whole)) (dissent (items whole) 0 copies)
  pub named : map (λ (d : Dissenter). d.copy) (dissent (items whole) 0 copies)
      ≡ others_than whole 0 copies

-- if it is done, this holds for the record that `vote` writes
abbrev pub OthersAreNamed : Type 0
OthersAreNamed = (copies : List (List ℕ)) → AllByRecursion AreBytes copies
    → (vote_outcome copies).answer ≡ Done → AreNamed (vote_outcome copies).bytes copies

-- if all copies are one whole record, none is named
abbrev pub NoneIsNamed : Type 0
NoneIsNamed = (first : List ℕ) (others : List (List ℕ)) (cycles : ℕ)
    → AreOneRecord first others cycles
    → dissent_outcome (first ∷ others)
    ≡ record { answer = Done; bytes = number_line (codes "agree") cycles }
