-- A run of a chain meets the outcome of its clients and of its stimulus.
use Rattle.std.proofs.Common.{◌≡◌, ℕ, List, refl, sym, ap, inl, inr}
use Rattle.std.specs.Prelude.{◌⊎◌, Some, Result, Ok, Err}
use Rattle.det_values.specs.Values.{ProfileValue}
use Rattle.det_values.specs.declared.job_kind.JobKind.{JobKind}
use Rattle.det_io.specs.Count.{Rose}
use Rattle.det_io.specs.Traffic.{ShelfRun, SinkRun}
use Rattle.det_io.specs.declared.failure.Failure.TheVariants.{Read, Write, OutOfMemory}
use Rattle.det_io.specs.declared.failure.Stopped.{Stopped}
use Rattle.det_io.specs.declared.failure.Stopped.TheVariants.{Refused, Failed}
use Rattle.job.specs.Meaning.{Meaning}
use Rattle.jobs.specs.Kinds.{by_kind, of_kind}
use Rattle.jobs.proofs.ByKinds.{by_kind-then, of_kind-gives}
use Rattle.stimulus.specs.declared.stimulus_item.StimulusFault.{StimulusFault}
use Rattle.cmd_run.specs.declared.chain.chain_counts.ChainCounts.{ChainCounts}
use Rattle.cmd_run.specs.chain.ChainEnds.{Sinks, Answers}
use Rattle.cli_answers.specs.declared.answer.Answer.{Answer}
use Rattle.cli_answers.specs.declared.answer.Answer.TheVariants as answers
use Rattle.cli_answers.specs.Outcome.{Meets, HasRisen}
use Rattle.cli_answers.proofs.AnswerMeets.{meets-read-fault-part, meets-write-fault, meets-no-memory-part}
use Rattle.run_setup.proofs.Meeting.{meets-known}
use Rattle.cmd_run.specs.record_command.Outcomes.{answer_to, stimulus_answer}
use Rattle.cmd_run.proofs.lemmas.record_command.Recorded.{at-told, ReadsOf}
use Rattle.cmd_run.specs.chain_command.Chain.{chained}
use Rattle.cmd_run.specs.chain_command.Clients.{Client, chained_by_kinds}
use Rattle.cmd_run.specs.StimulusVisit.{HasChained}

-- of two cases the first is refuted
the-other : {A B : Type 0} → (A → ⊥) → A ⊎ B → B
the-other never (inl a) = absurd (never a)
the-other never (inr b) = b

module _ (text : List ℕ) (slot : ℕ) (shelf : ShelfRun) (one out : SinkRun) (is_known rose : Type 0)
    (told : is_known → shelf.first.left slot ≡ Some text) (calm : HasRisen one → ⊥)
    (later : Rose shelf.first.faults shelf.last.faults → rose) where
  abbrev sinks : Sinks
  sinks = record { first = one; second = out }

  module _ {S G E L P : Type 0} (m : Meaning S G E L P) (first : ProfileValue)
      {T H F M Q : Type 0} (n : Meaning T H F M Q) (second : ProfileValue) where
    -- what its result says of the text
    said : (result : Result ChainCounts (Stopped StimulusFault)) → HasChained m first n second slot shelf one out result → is_known
        → Answers m first n second result text sinks
    said result has t =
        at-told (shelf.first.left slot) text (λ x. Answers m first n second result x sinks) (told t) has.chained.answers

    -- it meets the outcome, by its end
    met-chained : (result : Result ChainCounts (Stopped StimulusFault)) → HasChained m first n second slot shelf one out result
        → Meets (chained m first n second text) is_known rose out (stimulus_answer result)
    met-chained (Ok counts) has =
        meets-known (chained m first n second text) is_known rose out answers.Done (λ e. cc) (λ e. cc)
        (λ t. (ap answer_to (sym (said (Ok counts) has t).good), (said (Ok counts) has t).grew.second))
    met-chained (Err (Refused fault)) has =
        meets-known (chained m first n second text) is_known rose out (answers.BadStimulus fault.line) (λ e. cc) (λ e. cc)
        (λ t. (ap answer_to (sym (said (Err (Refused fault)) has t).bad), (said (Err (Refused fault)) has t).grew.second))
    met-chained (Err (Failed Read)) has =
        meets-read-fault-part (chained m first n second text) is_known rose out
        (λ t. (said (Err (Failed Read)) has t).second) (later (has.shelf_traffic.cause refl))
    met-chained (Err (Failed Write)) has =
        meets-write-fault (chained m first n second text) is_known rose out
        (λ t. (said (Err (Failed Write)) has t).second) (the-other calm (has.write_fault refl))
    met-chained (Err (Failed OutOfMemory)) has =
        meets-no-memory-part (chained m first n second text) is_known rose out
        (λ t. (said (Err (Failed OutOfMemory)) has t).second)

  module _ (first second : Client) (result : Result ChainCounts (Stopped StimulusFault))
      (visited : of_kind (λ S G E L P m. of_kind (λ T H F M Q n.
      HasChained m first.profile n second.profile slot shelf one out result) second.kind) first.kind) where
    -- with the jobs of two kinds it meets the outcome of those kinds
    pub met-by-kinds : (answer : Answer) → answer ≡ stimulus_answer result
        → Meets (chained_by_kinds first second text) is_known rose out answer
    met-by-kinds answer is =
        rw is (by_kind-then (λ S G E L P m. by_kind (λ T H F M Q n. chained m first.profile n second.profile text) second.kind)
        (λ S G E L P m. of_kind (λ T H F M Q n. HasChained m first.profile n second.profile slot shelf one out result) second.kind)
        (λ wanted. Meets wanted is_known rose out (stimulus_answer result))
        (λ S G E L P m. by_kind-then (λ T H F M Q n. chained m first.profile n second.profile text)
        (λ T H F M Q n. HasChained m first.profile n second.profile slot shelf one out result)
        (λ wanted. Meets wanted is_known rose out (stimulus_answer result))
        (λ T H F M Q n has. met-chained m first.profile n second.profile result has) second.kind) first.kind visited)

pub reads-by-kinds : (slot : ℕ) (shelf : ShelfRun) (one out : SinkRun) (kind other : JobKind) (first second : ProfileValue)
    (result : Result ChainCounts (Stopped StimulusFault))
    → of_kind (λ S G E L P m. of_kind (λ T H F M Q n. HasChained m first n second slot shelf one out result) other) kind
    → ReadsOf shelf slot
reads-by-kinds slot shelf one out kind other first second result visited =
    of_kind-gives (λ S G E L P m. of_kind (λ T H F M Q n. HasChained m first n second slot shelf one out result) other)
    (ReadsOf shelf slot)
    (λ S G E L P m. of_kind-gives (λ T H F M Q n. HasChained m first n second slot shelf one out result)
    (ReadsOf shelf slot) (λ T H F M Q n has. let run = has.chained.run in (run.0, run.1)) other) kind visited
