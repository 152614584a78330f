-- How comparing meets its outcome, by its end.
use Rattle.std.proofs.Common.{◌≡◌, ◌≤◌, ℕ, List, Bor, Some, map, ap}
use Rattle.std.specs.Prelude.{Result, Ok, Err}
use Rattle.det_io.specs.declared.failure.Stopped.TheVariants.{Refused}
use Rattle.det_io.specs.Shelf.{ShelfState}
use Rattle.det_io.specs.Traffic.{SinkRun, ShelfTraffic}
use Rattle.det_io.specs.Count.{Rose}
use Rattle.det_io.specs.declared.failure.Failure.{Failure}
use Rattle.det_io.specs.declared.failure.Failure.TheVariants.{Write}
use Rattle.det_io.proofs.Counts.{rose-before}
use Rattle.cli_answers.specs.Answers.{failed}
use Rattle.cmd_records.specs.open_names.OpenedSlots.{Opened}
use Rattle.copies.specs.declared.verdict.BadCopy.{BadCopy}
use Rattle.copies.specs.declared.verdict.Verdict.{Verdict}
use Rattle.copies.specs.CompareCopies.{AreLeft, Compared}
use Rattle.copies.specs.Verdict.{verdict}
use Rattle.cli_answers.specs.declared.answer.Answer.{Answer}
use Rattle.cli_answers.specs.declared.answer.Answer.TheVariants.{BadRecord}
use Rattle.cli_answers.specs.Outcome.{Meets, KnowsBytes, known_bytes}
use Rattle.cli_answers.proofs.AnswerMeets.{unwritten, meets-refusal, meets-unopened}
use Rattle.cmd_records.specs.compare_command.Compare.{compared, compare_outcome}
use Rattle.cmd_records.proofs.lemmas.command_ends.Meeting.{meets-printed}
use Rattle.cmd_records.proofs.lemmas.open_names.Copies.{texts, are-left}

module _ {first mid : ShelfState} {slots here : List ℕ} (recorded : List (Bor (List ℕ))) (same : here ≡ slots)
    (opened : Opened first mid (texts recorded) slots) where
  -- what the names held comes to the end to which the slots came
  outcome-by : (end : Result Verdict BadCopy) → ((copies : List (List ℕ)) → AreLeft mid here copies → verdict copies ≡ end)
      → KnowsBytes first (texts recorded) → compare_outcome (map (known_bytes first) (texts recorded)) ≡ compared end
  outcome-by end is is_known = ap compared (is (map (known_bytes first) (texts recorded)) (are-left recorded same opened is_known))

  pub meets-verdict : {last : ShelfState} {rose : Type 0} {out : SinkRun} {answer : Answer} (found : Verdict)
      → Compared (Ok found) mid last here → Meets (compared (Ok found)) (Unit {0}) ⊥ out answer
      → Meets (compare_outcome (map (known_bytes first) (texts recorded))) (KnowsBytes first (texts recorded)) rose out answer
  meets-verdict found h m = meets-printed (outcome-by (Ok found) h.is) m

  pub meets-bad : {last : ShelfState} {rose : Type 0} {took : List ℕ → Type 0} {m n : ℕ} (bad : BadCopy)
      → Compared (Err (Refused bad)) mid last here
      → Meets (compare_outcome (map (known_bytes first) (texts recorded))) (KnowsBytes first (texts recorded)) rose (unwritten took m n)
      (BadRecord bad.copy bad.fault)
  meets-bad bad h = meets-refusal _ _ _ _ _ _ (BadRecord bad.copy bad.fault) (λ e. cc) (λ e. cc) (outcome-by (Err bad) h.is)

  -- the comparison failed
  pub meets-failed : {last : ShelfState} {stays : Type 0} {took : List ℕ → Type 0} {m n : ℕ} (failure : Failure)
      → first.faults ≤ mid.faults → ShelfTraffic (record { first = mid; last = last; stays = stays }) (Some failure)
      → (Some failure ≡ Some Write → ⊥)
      → Meets (compare_outcome (map (known_bytes first) (texts recorded))) (KnowsBytes first (texts recorded))
      (Rose first.faults last.faults) (unwritten took m n) (failed failure)
  meets-failed {last = last} {took = took} {m = m} {n = n} failure counted reads no_write =
      meets-unopened _ _ _ took m n failure (λ e. rose-before first.faults mid.faults last.faults counted (reads.cause e)) no_write
