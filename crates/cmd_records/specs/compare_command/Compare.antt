-- The outcome of `compare`, by copies of a record.
use Rattle.std.specs.Prelude.{ℕ, List, Result, Ok, Err}
use Rattle.copies.specs.declared.verdict.BadCopy.{BadCopy}
use Rattle.copies.specs.declared.verdict.Verdict.{Verdict}
use Rattle.copies.specs.declared.verdict.Verdict.TheVariants.{Agree, Differ}
use Rattle.copies.specs.Verdict.{verdict}
use Rattle.copies.specs.verdict_text.Verdicts.{verdict_line}
use Rattle.cli_answers.specs.declared.answer.Answer.{Answer}
use Rattle.cli_answers.specs.declared.answer.Answer.TheVariants.{Done, Differs, BadRecord}
use Rattle.cli_answers.specs.Outcome.{Outcome, refusal}

abbrev pub answer_to : Verdict → Answer
answer_to (Agree cycles) = Done
answer_to (Differ copy at) = Differs

abbrev pub compared : Result Verdict BadCopy → Outcome
compared (Ok v) = record { answer = answer_to v; bytes = verdict_line v }
compared (Err bad) = refusal (BadRecord bad.copy bad.fault)

-- the line of the verdict on the copies, or the fault of the first bad one
abbrev pub compare_outcome : List (List ℕ) → Outcome
compare_outcome copies = compared (verdict copies)
