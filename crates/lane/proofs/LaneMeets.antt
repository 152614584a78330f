-- How a lane meets its outcome, by what it finds of its children.
use Rattle.std.proofs.Common.{◌≡◌, ◌≤◌, ℕ, List, [], refl, sym, ap, subst, arith}
use Rattle.std.specs.Prelude.{◌≢◌, Option, Some, Result, Err}
use Rattle.det_io.specs.Traffic.{SinkRun}
use Rattle.det_io.proofs.Prefixes.{prefix-none}
use Rattle.lane.specs.child_processes.Spawners.{SpawnerState}
use Rattle.copies.specs.declared.verdict.Verdict.{Verdict}
use Rattle.cli_answers.specs.Outcome.{MeetsBy}
use Rattle.cli_answers.proofs.FoundMeets.{meets-found, meets-printed}
use Rattle.cli_words.specs.declared.text_word.TextWord.{TextWord}
use Rattle.lane.specs.declared.lane_answer.LaneAnswer.{LaneAnswer}
use Rattle.lane.specs.declared.lane_answer.LaneAnswer.TheVariants.{Done, BadWords, SpawnFault}
use Rattle.lane.specs.Answers.{failed}
use Rattle.lane.specs.Outcome.{outcome_with, text_of}
use Rattle.lane.specs.Promise.{Runs}
use Rattle.lane.specs.Watched.{found_outcome, Watched}
use Rattle.lane.specs.Words.{LaneValue, CommandValue, printing, run}
use Rattle.lane.proofs.Asking.{asks-kept, words-long}

-- children were run, and what was found of them was reported
pub runs-lane : {first last : SpawnerState} {lane : LaneValue} {found : Result Verdict LaneAnswer} {out : SinkRun} {answer : LaneAnswer}
    → Watched first last lane found → MeetsBy failed (found_outcome found) (Unit {0}) (found ≡ Err SpawnFault) out answer
    → (command : Option CommandValue) → Some (run lane) ≡ command → answer ≢ BadWords → Runs command first last out answer
runs-lane {first = first} {last = last} {lane = lane} {out = out} {answer = answer} w m command is no_words =
    subst (λ (c : Option CommandValue). Runs c first last out answer) is (record {
      meets = meets-found w.found m;
      bad_words = (λ e. absurd (no_words e), λ e. absurd cc);
      asked = w.asked;
      children = subst (λ n. last.children ≤ n) (sym (words-long lane 0 lane.copies)) w.children;
      finished = w.finished;
    })

-- a text was printed, and no child was started
pub runs-text : {first : SpawnerState} {out : SinkRun} {answer : LaneAnswer} (word : TextWord) (bytes : List ℕ)
    (command : Option CommandValue) → text_of word ≡ bytes → Some (printing word) ≡ command → first.children ≡ 0
    → MeetsBy failed (outcome_with Done bytes) (Unit {0}) ⊥ out answer → answer ≢ BadWords → Runs command first first out answer
runs-text {first = first} {out = out} {answer = answer} word bytes command same is none m no_words =
    subst (λ (c : Option CommandValue). Runs c first first out answer) is (record {
      meets = meets-printed (λ t. ap (outcome_with Done) same) m;
      bad_words = (λ e. absurd (no_words e), λ e. absurd cc);
      asked = ([], prefix-none [], asks-kept refl);
      children = omega arith;
      finished = λ k lt. absurd (omega arith);
    })
