-- The outcome of `vote`, by copies of a record.
use Rattle.std.specs.Prelude.{◌≡◌, ℕ, ◌+◌, ◌<◌, ◌⊎◌, true, List, [], ◌++◌, length, get_or, map}
use Rattle.std.specs.Prelude.{codes, decimal, Option, Some, None}
use Rattle.std.specs.List.{flat_map}
use Rattle.det_io.specs.Shelf.{ShelfState}
use Rattle.det_io.specs.Sink.{Grew}
use Rattle.det_io.specs.Traffic.{SinkRun}
use Rattle.record_grammar.specs.declared.item.Item.{Item}
use Rattle.record_grammar.specs.Record.{items as items_in, fault_so_far}
use Rattle.record_reader.specs.Salvaged.{cycles_of}
use Rattle.record_text.specs.Words.{number_line}
use Rattle.cmd_records.specs.declared.voter.outcome.Dissenter.{Dissenter}
use Rattle.cmd_records.specs.declared.voter.outcome.NoMajority as voting
use Rattle.cmd_records.specs.voter.Majority.{majority, dissent, common, are_held, spelled_items}
use Rattle.cli_answers.specs.declared.answer.Answer.{Answer}
use Rattle.cli_answers.specs.declared.answer.Answer.TheVariants.{NoMajority}
use Rattle.cli_answers.specs.Ends.{Work, reads_nothing}
use Rattle.cli_answers.specs.Outcome.{Outcome, text_outcome, refusal, known_bytes}

-- a command that takes the majority of copies
abbrev pub vote_work : Work
vote_work = record reads_nothing { votes = true }

-- the answer if there is no majority
abbrev pub split_answer : voting.NoMajority → Answer
split_answer split = NoMajority split.row

-- ---- the record

abbrev pub voted_by : Option (List Item) → List (List ℕ) → Outcome
voted_by (Some whole) copies = text_outcome (spelled_items whole)
voted_by None copies = record {
  answer = NoMajority (length (common copies));
  bytes = spelled_items (common copies);
}

-- the majority's record, or the rows that more than half of the copies have in common and the
-- number of the next one
abbrev pub vote_outcome : List (List ℕ) → Outcome
vote_outcome copies = voted_by (majority copies) copies

-- ---- the dissenters

abbrev pub dissenter_line : Dissenter → List ℕ
dissenter_line d =
    codes "copy " ++ (decimal d.copy ++ (codes " row " ++ (decimal d.row ++ codes "\n")))

-- how many cycles the majority's record has, and a line for each dissenter
abbrev pub dissent_text : ℕ → List Dissenter → List ℕ
dissent_text cycles dissenters =
    number_line (codes "agree") cycles ++ flat_map dissenter_line dissenters

abbrev pub dissent_by : Option (List Item) → List (List ℕ) → Outcome
dissent_by (Some whole) copies =
    text_outcome (dissent_text (cycles_of whole) (dissent whole 0 copies))
dissent_by None copies = refusal (NoMajority (length (common copies)))

-- the outcome of `vote --dissent`
abbrev pub dissent_outcome : List (List ℕ) → Outcome
dissent_outcome copies = dissent_by (majority copies) copies

-- ---- a read that failed

-- All that was read of the copy under one of these names shows these rows, and neither a further
-- row nor a fault. The rest is left in its slot.
pub record CopyShows (first last : ShelfState) (names : List (List ℕ)) (rows : List Item)
    : Type 0 where
  pub copy : ℕ
  pub there : copy < length names
  pub read : List ℕ
  pub rest : List ℕ
  pub all : known_bytes first (get_or names copy []) ≡ read ++ rest
  pub left : last.left (first.slots + copy) ≡ Some rest
  pub items : items_in read ≡ rows
  pub sound : fault_so_far read ≡ None

-- If a read failed, `out` took all rows that one copy shows so far, with which more than half of
-- the copies begin. If a name couldn't be opened, there are no rows.
pub record VoteBreaksOff (first last : ShelfState) (names : List (List ℕ))
    (out : SinkRun) : Type 0 where
  pub rows : List Item
  pub shown : CopyShows first last names rows
      ⊎ ((last.slots < first.slots + length names) × (rows ≡ []))
  pub held : are_held (map (known_bytes first) names) rows ≡ true
  pub grew : Grew out.before out.after (spelled_items rows)
