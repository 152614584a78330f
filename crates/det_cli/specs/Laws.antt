-- What a user may conclude from the exit status of the program, and what the number of workers
-- leaves unchanged.
use Rattle.std.specs.Prelude.{◌≡◌, ℕ, Bool, ◌⊎◌, ◌↔◌, List, [], Option, Some, None, Ok}
use Rattle.det_io.specs.Count.{Rose}
use Rattle.det_io.specs.Sink.{Grew}
use Rattle.det_io.specs.Shelf.{ShelfState}
use Rattle.det_io.specs.Traffic.{SinkRun}
use Rattle.probes.specs.Reports.{AudienceState}
use Rattle.manifest.specs.Values.{ManifestValue}
use Rattle.run_setup.specs.Setup.{setup_of}
use Rattle.cli_answers.specs.declared.status.Status.{Status}
use Rattle.cli_answers.specs.declared.status.Status.TheVariants.{Done, Differs, BadWords}
use Rattle.cli_answers.specs.declared.status.Status.TheVariants.{BadManifest, BadStimulus}
use Rattle.cli_answers.specs.declared.status.Status.TheVariants.{BadRecord, NoMajority}
use Rattle.cli_answers.specs.declared.status.Status.TheVariants.{ReadFault, WriteFault, OutOfMemory}
use Rattle.cli_answers.specs.Answers.{status_of}
use Rattle.cli_answers.specs.Outcome.{Outcome, HasRisen, known_bytes}
use Rattle.cli_words.specs.Command.{CommandValue}
use Rattle.cli_words.specs.Reading.{command_of}
use Rattle.det_cli.specs.Outcome.{opened_by, outcome_by}
use Rattle.det_cli.specs.Promise.{KnowsAllBytes}

-- the status is that of the outcome, and `out` took all its bytes
pub record Gives (wanted : Outcome) (out : SinkRun) (status : Status) : Type 0 where
  pub same : status ≡ status_of wanted.answer
  pub bytes : Grew out.before out.after wanted.bytes

-- something that was read was refused
abbrev pub IsRefusal : Status → Type 0
IsRefusal status = (status ≡ BadManifest) ⊎ ((status ≡ BadStimulus) ⊎ (status ≡ BadRecord))

-- what is concluded from the status of a command
pub record OfCommand (c : CommandValue) (first last : ShelfState) (out : SinkRun)
    (seeing : AudienceState) (status : Status) : Type 0 where
  -- If neither the shelf nor `out` failed, the outcome is met, or memory ran out.
  pub unfailed : KnowsAllBytes c first → ¬ Rose first.faults last.faults → ¬ HasRisen out
      → (status ≡ OutOfMemory)
      ⊎ Gives (outcome_by c.word c (known_bytes first) seeing) out status
  -- done, differs, or a refusal: only if the outcome is that
  pub done : KnowsAllBytes c first → status ≡ Done
      → Gives (outcome_by c.word c (known_bytes first) seeing) out status
  pub differs : KnowsAllBytes c first → status ≡ Differs
      → Gives (outcome_by c.word c (known_bytes first) seeing) out status
  pub refused : KnowsAllBytes c first → IsRefusal status
      → Gives (outcome_by c.word c (known_bytes first) seeing) out status
  -- no majority: only if the copies have none, after the rows that more than half of them have in
  -- common
  pub no_majority : KnowsAllBytes c first → status ≡ NoMajority
      → Gives (outcome_by c.word c (known_bytes first) seeing) out status

pub record Concludes (words : List (List ℕ)) (first last : ShelfState) (out : SinkRun)
    (seeing : AudienceState) (status : Status) : Type 0 where
  pub command : (c : CommandValue) → command_of words ≡ Some c
      → OfCommand c first last out seeing status
  -- a fault only if there was one
  pub read_fault : status ≡ ReadFault → Rose first.faults last.faults
  pub write_fault : status ≡ WriteFault → HasRisen out
  -- bad words exactly if the arguments are no command, and then nothing was written
  pub bad_words : (status ≡ BadWords) ↔ (command_of words ≡ None)
  pub unwritten : status ≡ BadWords → Grew out.before out.after []

-- the command with this number of workers, or with none given
abbrev pub on_workers : Option ℕ → CommandValue → CommandValue
on_workers number c = record c { options = record c.options { workers = number } }

-- a command opens the same names and has the same outcome for any number of workers
pub record IsSameOn (number : Option ℕ) (c : CommandValue) (holds : List ℕ → List ℕ)
    (audience : AudienceState) : Type 0 where
  pub names : opened_by c.word (on_workers number c) holds ≡ opened_by c.word c holds
  pub same : outcome_by c.word (on_workers number c) holds audience
      ≡ outcome_by c.word c holds audience

-- two manifests differ only in their number of workers
pub record DifferInWorkers (strict : Bool) (one other : List ℕ) : Type 0 where
  pub manifest : ManifestValue
  pub number : ℕ
  pub first : setup_of strict one ≡ Ok manifest
  pub second : setup_of strict other ≡ Ok (record manifest { workers = number })
