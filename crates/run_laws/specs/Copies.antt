-- What `compare` makes of copies of a record.
use Rattle.std.specs.Prelude.{◌≡◌, ℕ, ◌↔◌, List, ◌∷◌}
use Rattle.std.specs.List.{AllByRecursion}
use Rattle.record_grammar.specs.Record.{items}
use Rattle.record_grammar.specs.Spelling.{AreBytes}
use Rattle.record_reader.specs.Salvaged.{cycles_of}
use Rattle.copies.specs.declared.verdict.Verdict.TheVariants.{Agree}
use Rattle.copies.specs.Laws.{AreOneRecord}
use Rattle.copies.specs.verdict_text.Verdicts.{verdict_line}
use Rattle.cli_answers.specs.declared.answer.Answer.TheVariants.{Done}
use Rattle.cmd_records.specs.compare_command.Compare.{compare_outcome}

-- The answer is Done exactly if all copies are one whole record. Then the line says that they
-- agree, with the number of its runs.
pub record AreCompared (first : List ℕ) (others : List (List ℕ)) : Type 0 where
  pub done : ((compare_outcome (first ∷ others)).answer ≡ Done)
      ↔ AreOneRecord first others (cycles_of (items first))
  pub line : (compare_outcome (first ∷ others)).answer ≡ Done
      → (compare_outcome (first ∷ others)).bytes ≡ verdict_line (Agree (cycles_of (items first)))

-- what `compare` gives for copies that are bytes
abbrev pub CopiesAreCompared : Type 0
CopiesAreCompared =
    (first : List ℕ) (others : List (List ℕ)) → AllByRecursion AreBytes (first ∷ others)
    → AreCompared first others
