-- The answers that a command can have, by what it reads and does. Every command can fail to write
-- or run out of memory.
use Rattle.std.specs.Prelude.{Bool, true, false, ◌||◌}
use Rattle.cli_answers.specs.declared.answer.Answer.{Answer}
use Rattle.cli_answers.specs.declared.answer.Answer.TheVariants.{Differs, BadWords}
use Rattle.cli_answers.specs.declared.answer.Answer.TheVariants.{BadManifest, BadStimulus}
use Rattle.cli_answers.specs.declared.answer.Answer.TheVariants.{BadRecord, BadProfile, ReadFault}
use Rattle.cli_answers.specs.declared.answer.Answer.TheVariants.{NoMajority}

pub record Work : Type 0 where
  -- it reads a manifest, a stimulus, a record
  pub manifest : Bool
  pub stimulus : Bool
  pub recorded : Bool
  -- it runs the job of a record again
  pub reruns : Bool
  -- it compares what it read
  pub compares : Bool
  -- it takes the majority of copies, where a fault of one copy is no refusal
  pub votes : Bool

abbrev pub can_end : Work → Answer → Bool
can_end work Differs = work.compares
can_end work BadWords = false
can_end work (BadManifest why) = work.manifest
can_end work (BadStimulus line) = work.stimulus
can_end work (BadRecord copy fault) = work.recorded
can_end work BadProfile = work.reruns
can_end work ReadFault = work.manifest || (work.stimulus || (work.recorded || work.votes))
can_end work (NoMajority row) = work.votes
can_end work other = true

-- a command that reads no file
abbrev pub reads_nothing : Work
reads_nothing = record
    { manifest = false; stimulus = false; recorded = false; reruns = false; compares = false; votes = false }

-- a command that reads records
abbrev pub reads_records : Work
reads_records = record reads_nothing { recorded = true }

-- a command that compares records with each other
abbrev pub compares_records : Work
compares_records = record reads_records { compares = true }

-- a command that runs the inputs of a record again
abbrev pub reruns_records : Work
reruns_records = record reads_records { reruns = true }

-- a command that compares records with the runs of their inputs
abbrev pub compares_runs : Work
compares_runs = record reruns_records { compares = true }
