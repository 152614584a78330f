-- The outcome of twins by the bytes of a manifest and of a stimulus.
use Rattle.std.specs.Prelude.{ℕ, List, [], ◌∷◌, nat_lt, length, Option, Some, None}
use Rattle.std.specs.Prelude.{if◌then◌else◌, Result, Ok, Err}
use Rattle.det_values.specs.Values.{ProfileValue}
use Rattle.det_values.specs.declared.frames.Frame.{Frame}
use Rattle.det_values.specs.declared.job_kind.JobKind.{JobKind}
use Rattle.job.specs.Meaning.{Meaning}
use Rattle.jobs.specs.Kinds.{by_kind}
use Rattle.stimulus.specs.Reading.{Ending, Terminated, BadLine, blocks, ending}
use Rattle.manifest.specs.Values.{ManifestValue}
use Rattle.manifest.specs.Profiles.{profile_of}
use Rattle.copies.specs.declared.verdict.Verdict.{Verdict}
use Rattle.copies.specs.declared.verdict.Verdict.TheVariants.{Agree, Differ}
use Rattle.copies.specs.verdict_text.Verdicts.{verdict_line}
use Rattle.cli_answers.specs.declared.answer.BadManifest as refusals
use Rattle.cli_answers.specs.Outcome.{OutcomeIn}
use Rattle.cli_words.specs.declared.text_word.TextWord.{TextWord}
use Rattle.cli_words.specs.declared.text_word.TextWord.TheVariants.{Help, Version}
use Rattle.run_setup.specs.Setup.{setup_of}
use Rattle.twins.specs.Tampers.{flipped_at}
use Rattle.twins.specs.TwinVerdict.{twin_verdict}
use Rattle.twin_cli.specs.declared.twin_answer.TwinAnswer.{TwinAnswer}
use Rattle.twin_cli.specs.declared.twin_answer.TwinAnswer.TheVariants.{Done, Differs, BadWords}
use Rattle.twin_cli.specs.declared.twin_answer.TwinAnswer.TheVariants.{BadManifest, BadStimulus}
use Rattle.twin_cli.specs.declared.twin_answer.TwinAnswer.TheVariants.{LongStimulus}
use Rattle.twin_cli.specs.declared.twin_usage.TheConstants.{USAGE, VERSION}
use Rattle.twin_cli.specs.declared.options.Flip.{Flip}
use Rattle.twin_cli.specs.Words.{TwinsValue, CommandValue, printing, run}

-- an answer with a text
abbrev pub outcome_with : TwinAnswer → List ℕ → OutcomeIn TwinAnswer
outcome_with answer bytes = record { answer = answer; bytes = bytes }

abbrev pub refusal : TwinAnswer → OutcomeIn TwinAnswer
refusal answer = outcome_with answer []

abbrev pub answer_to : Verdict → TwinAnswer
answer_to (Agree cycles) = Done
answer_to (Differ copy at) = Differs

-- the outcome of a verdict
abbrev pub verdict_outcome : Verdict → OutcomeIn TwinAnswer
verdict_outcome verdict = outcome_with (answer_to verdict) (verdict_line verdict)

-- the frame of a copy after the flip, by the copy and the frame's number
abbrev pub alteration_by : Option Flip → (copy number : ℕ) → Frame → Frame
alteration_by None copy number frame = frame
alteration_by (Some flip) copy number frame = flipped_at flip.copy flip.number copy number frame

module _ (twins : TwinsValue) where
  module _ {S G E L P : Type 0} (m : Meaning S G E L P) (profile : ProfileValue) where
    -- the verdict on the copies of the run over a text
    abbrev pub verdict_on : List ℕ → Verdict
    verdict_on text = twin_verdict m profile (blocks (length profile.events) text)
        (alteration_by twins.options.flip) twins.copies

    abbrev pub by_ending : Ending → List ℕ → OutcomeIn TwinAnswer
    by_ending Terminated text = verdict_outcome (verdict_on text)
    by_ending (BadLine line) text = refusal (BadStimulus line)

    -- a stimulus of more than 1,048,576 bytes is refused, as is one with a bad line
    abbrev pub twin_outcome : List ℕ → OutcomeIn TwinAnswer
    twin_outcome text =
        if nat_lt 1048576 (length text) then refusal LongStimulus
        else by_ending (ending (length profile.events) text) text

  abbrev pub twin_outcome_by_kind : JobKind → ProfileValue → List ℕ → OutcomeIn TwinAnswer
  twin_outcome_by_kind kind profile text = by_kind (λ S G E L P m. twin_outcome m profile text) kind

  -- the outcome for the manifest's profile with the seed 0, or the refusal of the manifest
  abbrev pub twin_outcome_by_setup : Result ManifestValue refusals.BadManifest → List ℕ
      → OutcomeIn TwinAnswer
  twin_outcome_by_setup (Ok m) stimulus = twin_outcome_by_kind m.kind (profile_of m 0) stimulus
  twin_outcome_by_setup (Err why) stimulus = refusal (BadManifest why)

  abbrev pub twins_outcome : (holds : List ℕ → List ℕ) → OutcomeIn TwinAnswer
  twins_outcome holds =
      twin_outcome_by_setup
      (setup_of twins.options.strict (holds twins.manifest)) (holds twins.stimulus)

-- the text that an argument asks for
abbrev pub text_of : TextWord → List ℕ
text_of Help = USAGE.now
text_of Version = VERSION.now

-- the outcome of a command, if these are the bytes under each name
abbrev pub outcome_of : Option CommandValue → (List ℕ → List ℕ) → OutcomeIn TwinAnswer
outcome_of None holds = refusal BadWords
outcome_of (Some (printing word)) holds = outcome_with Done (text_of word)
outcome_of (Some (run twins)) holds = twins_outcome twins holds

-- the names that a command opens, in their order
abbrev pub names_in : Option CommandValue → List (List ℕ)
names_in (Some (run twins)) = twins.manifest ∷ twins.stimulus ∷ []
names_in command = []

abbrev pub names_by : (manifest stimulus : List ℕ) → Result ManifestValue refusals.BadManifest
    → List (List ℕ)
names_by manifest stimulus (Ok m) = manifest ∷ stimulus ∷ []
names_by manifest stimulus (Err why) = manifest ∷ []

-- The names that it opens, if these are the bytes under each name. If the manifest is refused, the
-- stimulus isn't opened.
abbrev pub opened_names : Option CommandValue → (List ℕ → List ℕ) → List (List ℕ)
opened_names (Some (run twins)) holds = names_by twins.manifest twins.stimulus
    (setup_of twins.options.strict (holds twins.manifest))
opened_names command holds = []
