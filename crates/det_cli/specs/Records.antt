-- The commands that write the record of a run, and the sink behind a front that gathers its bytes.
use Rattle.std.specs.Prelude.{ℕ, Bool, true, false, List}
use Rattle.det_io.specs.Shelf.{ShelfState}
use Rattle.det_io.specs.Traffic.{SinkRun}
use Rattle.det_io.specs.sink_buffer.Front.{TakesFront}
use Rattle.probes.specs.Reports.{AudienceState}
use Rattle.cli_answers.specs.declared.answer.Answer.{Answer}
use Rattle.cli_words.specs.declared.table.CommandWord.{CommandWord}
use Rattle.cli_words.specs.declared.table.CommandWord.TheVariants.{Demo, Record, Replay, Upgrade}
use Rattle.cli_words.specs.declared.table.CommandWord.TheVariants.{Chain}
use Rattle.cli_words.specs.Command.{CommandValue}
use Rattle.det_cli.specs.Promise.{Runs}

-- it writes the record of a run
abbrev pub writes_record : CommandWord → Bool
writes_record Demo = true
writes_record Record = true
writes_record Replay = true
writes_record Upgrade = true
writes_record Chain = true
writes_record other = false

-- a run of a command that shows no runs, whatever the audience is
abbrev pub RunsUnseen : CommandValue → ShelfState → ShelfState → SinkRun → Answer → Type 0
RunsUnseen c first last out answer =
    (audience : AudienceState) → Runs c first last out audience audience answer

-- What a run did to a sink through a front: the sink took what it took at the start, then what
-- the front has handed on, and the front holds the rest.
abbrev pub front_run : (start first last : List ℕ → Type 0) (held_first held_last : List ℕ)
    (faults_first faults_last : ℕ) → SinkRun
front_run start first last held_first held_last faults_first faults_last = record {
  before = λ bytes. TakesFront start first bytes held_first;
  after = λ bytes. TakesFront start last bytes held_last;
  faults_before = faults_first;
  faults_after = faults_last;
}
