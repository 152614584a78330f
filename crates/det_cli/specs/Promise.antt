-- The promise of the program: first for a command's answer, then for an exit status.
use Rattle.std.specs.Prelude.{◌≡◌, ◌⊎◌, ℕ, MatchBool, MatchOption, true, false, List, []}
use Rattle.det_io.specs.Count.{Rose}
use Rattle.det_io.specs.Sink.{Grew}
use Rattle.det_io.specs.Traffic.{SinkRun}
use Rattle.det_io.specs.Shelf.{ShelfState, AsksPrefix}
use Rattle.probes.specs.Reports.{AudienceState}
use Rattle.cli_words.specs.declared.table.CommandWord.{CommandWord}
use Rattle.cli_words.specs.declared.table.CommandWord.TheVariants.{Show, Sim, Check}
use Rattle.cli_words.specs.declared.table.CommandWord.TheVariants.{Salvage, Vote}
use Rattle.cli_words.specs.Command.{CommandValue, name_at, files_of, number_in}
use Rattle.cli_words.specs.Reading.{command_of}
use Rattle.record_grammar.specs.Record.{items as items_in}
use Rattle.record_reader.specs.Salvaged.{saved_of}
use Rattle.cmd_records.specs.record_show.Text.{lines_of}
use Rattle.record_text.specs.declared.show_part.ShowPart.TheVariants.{Reports}
use Rattle.cmd_records.specs.declared.record_show.show_form.Notation.TheVariants.{Lines}
use Rattle.cmd_records.specs.declared.record_show.show_form.ShowForm.{ShowForm}
use Rattle.cmd_records.specs.record_show.ShowEnds.{SawFirst}
use Rattle.probes.specs.Shows.{SawRuns}
use Rattle.cmd_records.specs.vote_command.Vote.{VoteBreaksOff}
use Rattle.cmd_rerun.specs.check_command.Check as checking
use Rattle.cmd_run.specs.sim_command.Sim.{sim_runs}
use Rattle.cli_answers.specs.declared.answer.Answer.{Answer}
use Rattle.cli_answers.specs.declared.answer.Answer.TheVariants.{Done, Differs, BadWords, ReadFault}
use Rattle.cli_answers.specs.declared.answer.Answer.TheVariants.{OutOfMemory}
use Rattle.cli_answers.specs.declared.status.Status.{Status}
use Rattle.cli_answers.specs.Answers.{status_of, err_line}
use Rattle.cli_answers.specs.Ends.{can_end}
use Rattle.cli_answers.specs.BreaksOff.{BreaksOff}
use Rattle.cli_answers.specs.Outcome.{Meets, WritesLine, KnowsBytes, known_bytes}
use Rattle.cli_answers.specs.Slots.{KeepsSlots}
use Rattle.det_cli.specs.Outcome.{opened_by, form_of, is_showing, work_of, outcome_by}

-- the bytes under the names that a command opens are known
abbrev pub KnowsAllBytes : CommandValue → ShelfState → Type 0
KnowsAllBytes c shelf = KnowsBytes shelf (opened_by c.word c (known_bytes shelf))

-- no items, and so no lines of any
abbrev pub reports_only : ShowForm
reports_only = record { part = Reports; notation = Lines }

-- What an audience has seen. With `show` these are first runs of the record, whose lines are
-- written; with `check`, first runs of those that it checks; with `salvage --reports`, first runs
-- of the record; with `sim`, all its runs. The other commands show none.
abbrev pub SeenBy : CommandWord → CommandValue → (List ℕ → List ℕ) → AudienceState → AudienceState
    → SinkRun → Type 0
SeenBy Show c holds old now out = SawFirst (form_of c.options) old now (holds (name_at 0 c)) out
SeenBy Salvage c holds old now out =
    c.options.reports ≡ true → SawFirst reports_only old now (holds (name_at 0 c)) out
SeenBy Check c holds old now out =
    checking.SawFirst old now (checking.runs_checked (holds (name_at 0 c)))
SeenBy Sim c holds old now out = SawRuns old now (sim_runs (number_in c))
SeenBy other c holds old now out = Unit {0}

-- What a command on records has written when a read fails. `show` has written all lines of what was
-- read, `salvage` all that is saved of it, and `vote` all rows that one copy shows so far. In place
-- of reports or of dissenters nothing is written.
abbrev pub BrokenBy : CommandWord → CommandValue → ShelfState → ShelfState → SinkRun → Type 0
BrokenBy Show c first last out =
    BreaksOff first last (name_at 0 c) (λ read. lines_of (form_of c.options) (items_in read)) out
BrokenBy Salvage c first last out = MatchBool c.options.reports (Grew out.before out.after [])
    (BreaksOff first last (name_at 0 c) saved_of out)
BrokenBy Vote c first last out = MatchBool c.options.dissent (Grew out.before out.after [])
    (VoteBreaksOff first last (files_of c) out)
BrokenBy other c first last out = Unit {0}

-- A run of a command. `out` is what it did to its sink. The audience was `seeing` and is `stayed`
-- afterwards.
pub record Runs (c : CommandValue) (first last : ShelfState) (out : SinkRun)
    (seeing stayed : AudienceState) (answer : Answer) : Type 0 where
  -- it meets the outcome for the bytes under the names that it opens, if they are known
  pub meets : Meets (outcome_by c.word c (known_bytes first) seeing) (KnowsAllBytes c first)
      (Rose first.faults last.faults) out answer
  -- if a read failed, and the names are known, what was read is written
  pub broken : KnowsAllBytes c first → answer ≡ ReadFault → BrokenBy c.word c first last out
  -- each answer is one of the command's, whether the names are known or not
  pub ends : can_end (work_of c.word) answer ≡ true
  -- It opens no other name, and none before its turn. If the names are known, it opens only those
  -- that it needs.
  pub asked : AsksPrefix first last (files_of c)
  pub needed : KnowsAllBytes c first → AsksPrefix first last (opened_by c.word c (known_bytes first))
  -- slots given before the call keep what they have left
  pub earlier : KeepsSlots first last
  -- A command that shows no runs leaves the audience as it was. If one that shows runs is done,
  -- or has found a difference, all probes have reported and left.
  pub left : is_showing c.word c ≡ false → stayed ≡ seeing
  pub gone : is_showing c.word c ≡ true → (answer ≡ Done) ⊎ (answer ≡ Differs) → stayed.seeing ≡ []
  -- If the names are known, the audience has seen first runs. Nothing is said after "out of
  -- memory": some probes may have seen one run more, or have left.
  pub saw : KnowsAllBytes c first → (answer ≡ OutOfMemory → ⊥)
      → SeenBy c.word c (known_bytes first) seeing stayed out

-- arguments that are no command: nothing is opened, written or shown
pub record Refuses (first last : ShelfState) (out : SinkRun)
    (seeing stayed : AudienceState) (answer : Answer) : Type 0 where
  pub is : answer ≡ BadWords
  pub shelf : last ≡ first
  pub wrote : Grew out.before out.after []
  pub left : stayed ≡ seeing

-- The program: a run of the arguments' command, or their refusal, with its status and one line for
-- the user.
pub record IsPromised (words : List (List ℕ)) (first last : ShelfState) (out err : SinkRun)
    (seeing stayed : AudienceState) (status : Status) : Type 0 where
  pub answer : Answer
  pub is : status ≡ status_of answer
  pub runs : MatchOption (command_of words) (Refuses first last out seeing stayed answer)
      (λ c. Runs c first last out seeing stayed answer)
  pub line : WritesLine (err_line answer) err
