-- What `demo` and `record` give.
use Rattle.std.specs.Prelude.{ℕ, pos, Bool, true, List, [], ◌∷◌, length, codes, Option}
use Rattle.std.specs.Prelude.{Result, Ok, Err}
use Rattle.std.specs.Option.{unwrap_or}
use Rattle.det_values.specs.Values.{ProfileValue}
use Rattle.det_values.specs.declared.format.Format.TheVariants.{Two}
use Rattle.det_values.specs.declared.event.Policy.TheVariants.{Last}
use Rattle.det_values.specs.declared.job_kind.JobKind.{JobKind}
use Rattle.det_io.specs.Shelf.{ShelfState, AsksPrefix}
use Rattle.det_io.specs.declared.failure.Stopped.{Stopped}
use Rattle.det_io.specs.declared.failure.Stopped.TheVariants.{Refused, Failed}
use Rattle.job.specs.Meaning.{Meaning}
use Rattle.jobs.specs.bank.Meaning as bank
use Rattle.jobs.specs.Kinds.{by_kind}
use Rattle.stimulus.specs.declared.stimulus_item.StimulusFault.{StimulusFault}
use Rattle.stimulus.specs.Reading.{Ending, Terminated, BadLine, ending}
use Rattle.recorder.specs.Record.{record_of}
use Rattle.manifest.specs.Values.{ManifestValue}
use Rattle.manifest.specs.Profiles.{profile_of}
use Rattle.cli_answers.specs.declared.answer.BadManifest.{BadManifest}
use Rattle.cli_answers.specs.declared.answer.Answer.{Answer}
use Rattle.cli_answers.specs.declared.answer.Answer.TheVariants as answers
use Rattle.cli_answers.specs.Answers.{failed}
use Rattle.cli_answers.specs.Ends.{Work, reads_nothing}
use Rattle.cli_answers.specs.Outcome.{Outcome, KnowsBytes, known_bytes}
use Rattle.run_setup.specs.Setup.{setup_of, with_manifest}

-- `demo` reads a stimulus, and `record` a manifest as well
abbrev pub demo_work : Work
demo_work = record reads_nothing { stimulus = true }

abbrev pub record_work : Work
record_work = record demo_work { manifest = true }

-- the answer for a stimulus that ends like this
abbrev pub answer_to : Ending → Answer
answer_to Terminated = answers.Done
answer_to (BadLine line) = answers.BadStimulus line

-- the answer for the result of a recording or of a chain
abbrev pub stimulus_answer : {C : Type 0} → Result C (Stopped StimulusFault) → Answer
stimulus_answer (Ok counts) = answers.Done
stimulus_answer (Err (Refused fault)) = answers.BadStimulus fault.line
stimulus_answer (Err (Failed failure)) = failed failure

module _ {S G E L P : Type 0} (m : Meaning S G E L P) (profile : ProfileValue) where
  -- the record of a text, also if a bad line ends it
  abbrev pub recorded : List ℕ → Outcome
  recorded text = record {
    answer = answer_to (ending (length profile.events) text);
    bytes = record_of m profile text;
  }

-- a bank of 4 channels with the shift 2 and one event `x` of capacity 2; 10 ms, seed 0
abbrev pub demo_profile : ProfileValue
demo_profile = record {
  format = Two;
  job = 1;
  seed = 0;
  cycle_time = 10000000;
  params = pos 4 ∷ pos 2 ∷ [];
  events = record { capacity = 2; name = codes "x"; policy = Last } ∷ [];
}

-- what `demo` gives for a stimulus
unfoldable pub demo_outcome : List ℕ → Outcome
demo_outcome stimulus = recorded bank.meaning demo_profile stimulus

-- the same by the kind of the job
abbrev pub recorded_by_kind : JobKind → ProfileValue → List ℕ → Outcome
recorded_by_kind kind profile text = by_kind (λ S G E L P m. recorded m profile text) kind

-- the names that `record` opens; no stimulus after a manifest that is refused
abbrev pub record_names : (manifest stimulus : List ℕ) → Result ManifestValue BadManifest
    → List (List ℕ)
record_names manifest stimulus (Ok m) = manifest ∷ stimulus ∷ []
record_names manifest stimulus (Err why) = manifest ∷ []

-- the same, by what a shelf knows
abbrev pub record_opens : ShelfState → (strict : Bool) (manifest stimulus : List ℕ) → List (List ℕ)
record_opens shelf strict manifest stimulus =
    record_names manifest stimulus (setup_of strict (known_bytes shelf manifest))

-- only these names were opened, if they are known
abbrev pub OpensOnly : ShelfState → ShelfState → List (List ℕ) → Type 0
OpensOnly first last names = KnowsBytes first names → AsksPrefix first last names

-- what `record` gives for a manifest and a stimulus, with seed 0 if there is none
abbrev pub record_outcome : (strict : Bool) (manifest stimulus : List ℕ) → Option ℕ → Outcome
record_outcome strict manifest stimulus seed = with_manifest (λ m.
    recorded_by_kind m.kind (profile_of m (unwrap_or seed 0)) stimulus) (setup_of strict manifest)
