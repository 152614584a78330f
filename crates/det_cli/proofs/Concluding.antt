-- What a status says of the answer that has it.
use Rattle.std.proofs.Common.{◌≡◌, ℕ, List, refl, sym, ap, subst, ◌∙◌, inl, inr}
use Rattle.std.specs.Prelude.{◌⊎◌, true, Option, Some, None, unwrap_or}
use Rattle.det_io.specs.Sink.{Grew}
use Rattle.det_io.specs.Shelf.{ShelfState}
use Rattle.det_io.specs.Traffic.{SinkRun}
use Rattle.probes.specs.Reports.{AudienceState}
use Rattle.cli_answers.specs.declared.status.Status.{Status}
use Rattle.cli_answers.specs.declared.status.Status.TheVariants as statuses
use Rattle.cli_answers.specs.declared.answer.Answer.{Answer}
use Rattle.cli_answers.specs.declared.answer.Answer.TheVariants.{BadWords, ReadFault, WriteFault, OutOfMemory}
use Rattle.cli_answers.specs.Answers.{status_of}
use Rattle.cli_answers.specs.Ends.{Work, can_end}
use Rattle.cli_answers.specs.Outcome.{Outcome, known_bytes}
use Rattle.cli_words.specs.Command.{CommandValue}
use Rattle.cli_words.specs.Reading.{command_of}
use Rattle.det_cli.specs.Outcome.{work_of, outcome_by}
use Rattle.det_cli.specs.Promise.{Runs, IsPromised}
use Rattle.det_cli.proofs.Joining.{RunsWords}
use Rattle.det_cli.specs.Laws.{Gives, IsRefusal, OfCommand, Concludes}

-- the status of a fault, and that of bad words, belongs to one answer
at-read-fault : (answer : Answer) → status_of answer ≡ statuses.ReadFault → answer ≡ ReadFault
at-read-fault ReadFault e = refl
at-read-fault _ e = absurd (cc)

at-write-fault : (answer : Answer) → status_of answer ≡ statuses.WriteFault → answer ≡ WriteFault
at-write-fault WriteFault e = refl
at-write-fault _ e = absurd (cc)

at-bad-words : (answer : Answer) → status_of answer ≡ statuses.BadWords → answer ≡ BadWords
at-bad-words BadWords e = refl
at-bad-words _ e = absurd (cc)

-- no command ends as bad words
no-bad-words : (work : Work) (answer : Answer) → answer ≡ BadWords → can_end work answer ≡ true → ⊥
no-bad-words work answer e ends = let h = rw e at ends in cc

module _ (wanted : Outcome) (out : SinkRun) (answer : Answer) (status : Status) (is : status ≡ status_of answer) where
  -- if the status is no fault's, the outcome is given or memory ran out
  gives : (status ≡ statuses.ReadFault → ⊥) → (status ≡ statuses.WriteFault → ⊥)
      → (answer ≡ ReadFault) ⊎ ((answer ≡ WriteFault) ⊎ ((answer ≡ OutOfMemory)
      ⊎ ((answer ≡ wanted.answer) × Grew out.before out.after wanted.bytes)))
      → (status ≡ statuses.OutOfMemory) ⊎ Gives wanted out status
  gives no_read no_write (inl read) = absurd (no_read (is ∙ ap status_of read))
  gives no_read no_write (inr (inl write)) = absurd (no_write (is ∙ ap status_of write))
  gives no_read no_write (inr (inr (inl memory))) = inl (is ∙ ap status_of memory)
  gives no_read no_write (inr (inr (inr whole))) = inr (record { same = is ∙ ap status_of whole.0; bytes = whole.1 })

  but-memory : (status ≡ statuses.OutOfMemory → ⊥)
      → (status ≡ statuses.OutOfMemory) ⊎ Gives wanted out status → Gives wanted out status
  but-memory no_memory (inl memory) = absurd (no_memory memory)
  but-memory no_memory (inr given) = given

  -- with no failure's status the outcome is given
  gives-all : (status ≡ statuses.ReadFault → ⊥) → (status ≡ statuses.WriteFault → ⊥) → (status ≡ statuses.OutOfMemory → ⊥)
      → (answer ≡ ReadFault) ⊎ ((answer ≡ WriteFault) ⊎ ((answer ≡ OutOfMemory)
      ⊎ ((answer ≡ wanted.answer) × Grew out.before out.after wanted.bytes)))
      → Gives wanted out status
  gives-all no_read no_write no_memory whole = but-memory no_memory (gives no_read no_write whole)

-- a refusal is none of these
no-refusal : (status other : Status) → IsRefusal status
    → (statuses.BadManifest ≡ other → ⊥) → (statuses.BadStimulus ≡ other → ⊥) → (statuses.BadRecord ≡ other → ⊥) → status ≡ other → ⊥
no-refusal status other (inl is) manifest stimulus recorded e = manifest (cc)
no-refusal status other (inr (inl is)) manifest stimulus recorded e = stimulus (cc)
no-refusal status other (inr (inr is)) manifest stimulus recorded e = recorded (cc)

some-none : (c : CommandValue) → Some c ≡ None → ⊥
some-none c e = cc

-- the same command
same-of : (c d : CommandValue) → Some c ≡ Some d → c ≡ d
same-of c d e = ap (λ (o : Option CommandValue). unwrap_or o c) e

module _ (first last : ShelfState) (out : SinkRun) (seeing stayed : AudienceState)
    (answer : Answer) (status : Status) (is : status ≡ status_of answer) where
  of-command : (c : CommandValue) → Runs c first last out seeing stayed answer
      → OfCommand c first last out seeing status
  of-command c runs =
      let wanted = outcome_by c.word c (known_bytes first) seeing in
      let meets = runs.meets in
      record {
        unfailed = λ is_known calm taken. gives wanted out answer status is
            (λ e. calm (meets.read_fault (at-read-fault answer (sym is ∙ e))))
            (λ e. taken (meets.write_fault (at-write-fault answer (sym is ∙ e)))) (meets.whole is_known);
        done = λ is_known e. gives-all wanted out answer status is (λ f. cc) (λ f. cc) (λ f. cc) (meets.whole is_known);
        differs = λ is_known e. gives-all wanted out answer status is (λ f. cc) (λ f. cc) (λ f. cc) (meets.whole is_known);
        refused = λ is_known e. gives-all wanted out answer status is
            (no-refusal status statuses.ReadFault e (λ f. cc) (λ f. cc) (λ f. cc))
            (no-refusal status statuses.WriteFault e (λ f. cc) (λ f. cc) (λ f. cc))
            (no-refusal status statuses.OutOfMemory e (λ f. cc) (λ f. cc) (λ f. cc)) (meets.whole is_known);
        no_majority = λ is_known e. gives-all wanted out answer status is (λ f. cc) (λ f. cc) (λ f. cc) (meets.whole is_known);
      }

  module _ (words : List (List ℕ)) where
    by-words : (read : Option CommandValue) → command_of words ≡ read
        → RunsWords read first last out seeing stayed answer
        → Concludes words first last out seeing status
    by-words (Some c) same runs =
        let not_bad : status ≡ statuses.BadWords → ⊥ =
        λ e. no-bad-words (work_of c.word) answer (at-bad-words answer (sym is ∙ e)) runs.ends in
        record {
          command = λ d other. subst (λ (e : CommandValue). OfCommand e first last out seeing status)
              (same-of c d (sym same ∙ other)) (of-command c runs);
          read_fault = λ e. runs.meets.read_fault (at-read-fault answer (sym is ∙ e));
          write_fault = λ e. runs.meets.write_fault (at-write-fault answer (sym is ∙ e));
          bad_words = ((λ e. absurd (not_bad e)), λ none. absurd (some-none c (sym same ∙ none)));
          unwritten = λ e. absurd (not_bad e);
        }
    by-words None same refuses =
        let bad : status ≡ statuses.BadWords = is ∙ ap status_of refuses.is in
        record {
          command = λ d other. absurd (some-none d (sym other ∙ same));
          read_fault = λ e. absurd (cc);
          write_fault = λ e. absurd (cc);
          bad_words = ((λ e. same), λ none. bad);
          unwritten = λ e. refuses.wrote;
        }

module _ (words : List (List ℕ)) (first last : ShelfState) (out err : SinkRun) (seeing stayed : AudienceState) (status : Status) where
  pub concludes : IsPromised words first last out err seeing stayed status
      → Concludes words first last out seeing status
  concludes p = by-words first last out seeing stayed p.answer status p.is words (command_of words) refl p.runs
