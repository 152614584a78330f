-- How twins meet their outcome, by what they find.
use Rattle.std.proofs.Common.{◌≡◌, refl, subst}
use Rattle.std.specs.Prelude.{◌≢◌, Option, Some, Result, Err}
use Rattle.det_io.specs.Shelf.{ShelfState}
use Rattle.det_io.specs.Traffic.{SinkRun}
use Rattle.det_io.proofs.Opening.{asks-prefix-none}
use Rattle.copies.specs.declared.verdict.Verdict.{Verdict}
use Rattle.cli_answers.specs.Outcome.{OutcomeIn, MeetsBy, known_bytes}
use Rattle.cli_answers.proofs.FoundMeets.{meets-found, meets-printed}
use Rattle.cli_answers.proofs.Keeping.{keeps-same}
use Rattle.twin_cli.specs.declared.twin_answer.TwinAnswer.{TwinAnswer}
use Rattle.twin_cli.specs.declared.twin_answer.TwinAnswer.TheVariants.{BadWords, ReadFault}
use Rattle.twin_cli.specs.Answers.{failed}
use Rattle.twin_cli.specs.FoundVerdict.{found_outcome, Found}
use Rattle.twin_cli.specs.Outcome.{outcome_of, names_in, opened_names}
use Rattle.twin_cli.specs.Promise.{Runs}
use Rattle.twin_cli.specs.Words.{TwinsValue, CommandValue, run}

-- copies were run, and what was found was reported
pub runs-twins : {first last : ShelfState} {twins : TwinsValue} {found : Result Verdict TwinAnswer} {out : SinkRun} {answer : TwinAnswer}
    → Found twins first last found → MeetsBy failed (found_outcome found) (Unit {0}) (found ≡ Err ReadFault) out answer
    → answer ≢ BadWords → Runs (Some (run twins)) first last out answer
runs-twins w m no_words = record {
  meets = meets-found w.found m;
  bad_words = (λ e. absurd (no_words e), λ e. absurd cc);
  asked = w.asked;
  needed = w.needed;
  earlier = w.earlier;
}

-- a run of a command that is another word for this one
pub runs-as : {first last : ShelfState} {out : SinkRun} {answer : TwinAnswer} (command same : Option CommandValue) → same ≡ command
    → Runs same first last out answer → Runs command first last out answer
runs-as {first = first} {last = last} {out = out} {answer = answer} command same is r =
    subst (λ (o : Option CommandValue). Runs o first last out answer) is r

-- a text was printed
pub runs-text : {first : ShelfState} {out : SinkRun} {answer : TwinAnswer} (command : CommandValue) (wanted : OutcomeIn TwinAnswer)
    → outcome_of (Some command) (known_bytes first) ≡ wanted → MeetsBy failed wanted (Unit {0}) ⊥ out answer → answer ≢ BadWords
    → Runs (Some command) first first out answer
runs-text {first = first} command wanted is m no_words = record {
  meets = meets-printed (λ t. is) m;
  bad_words = (λ e. absurd (no_words e), λ e. absurd cc);
  asked = asks-prefix-none first first (names_in (Some command)) refl;
  needed = λ t. asks-prefix-none first first (opened_names (Some command) (known_bytes first)) refl;
  earlier = keeps-same first;
}
