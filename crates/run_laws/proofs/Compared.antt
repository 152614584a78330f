-- The answer for copies is Done exactly if they are one whole record.
use Rattle.std.proofs.Common.{◌≡◌, ℕ, List, ◌∷◌, Result, Ok, Err, refl, ap}
use Rattle.std.specs.List.{AllByRecursion}
use Rattle.record_grammar.specs.Record.{items}
use Rattle.record_grammar.specs.Spelling.{AreBytes}
use Rattle.record_reader.specs.Salvaged.{cycles_of}
use Rattle.copies.specs.declared.verdict.BadCopy.{BadCopy}
use Rattle.copies.specs.declared.verdict.Verdict.{Verdict}
use Rattle.copies.specs.declared.verdict.Verdict.TheVariants.{Agree, Differ}
use Rattle.copies.specs.Verdict.{verdict}
use Rattle.copies.specs.Laws.{AreOneRecord}
use Rattle.copies.proofs.Agreeing.{agrees, agreed}
use Rattle.cli_answers.specs.declared.answer.Answer.TheVariants.{Done}
use Rattle.cli_answers.specs.Outcome.{Outcome}
use Rattle.cmd_records.specs.compare_command.Compare.{compared}
use Rattle.run_laws.specs.Copies.{CopiesAreCompared}

-- what is done is that copies agree
agreement : (found : Result Verdict BadCopy) → (compared found).answer ≡ Done → (cycles : ℕ) × (found ≡ Ok (Agree cycles))
agreement (Ok (Agree cycles)) e = (cycles, refl)
agreement (Ok (Differ copy at)) e = absurd cc
agreement (Err bad) e = absurd cc

one_record : (first : List ℕ) (others : List (List ℕ)) → AllByRecursion AreBytes (first ∷ others)
    → (compared (verdict (first ∷ others))).answer ≡ Done → AreOneRecord first others (cycles_of (items first))
one_record first others bytes done =
    let found = agreement (verdict (first ∷ others)) done in
    let one = agrees first others found.0 bytes found.1 in
    record { whole = one.whole; same = one.same; count = refl }

pub copies_are_compared : CopiesAreCompared
copies_are_compared first others bytes =
    let count : ℕ = cycles_of (items first) in
    let by = λ (one : AreOneRecord first others count). ap compared (agreed first others count one) in
    record {
      done = (one_record first others bytes, λ one. ap (λ (o : Outcome). o.answer) (by one));
      line = λ done. ap (λ (o : Outcome). o.bytes) (by (one_record first others bytes done));
    }
