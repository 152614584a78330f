-- The outcome of the program, by the arguments, the bytes under each name and the audience.
use Rattle.std.specs.Prelude.{ℕ, Bool, true, false, List, [], map}
use Rattle.std.specs.Prelude.{unwrap_or, if◌then◌else◌}
use Rattle.cli_answers.specs.Outcome.{Outcome, text_outcome}
use Rattle.cli_answers.specs.Ends.{Work, reads_nothing, reads_records, compares_records}
use Rattle.cli_answers.specs.Ends.{reruns_records, compares_runs}
use Rattle.cli_words.specs.declared.table.CommandWord.{CommandWord}
use Rattle.cli_words.specs.declared.table.CommandWord.TheVariants.{Demo, Record, Show, Needs, Sim}
use Rattle.cli_words.specs.declared.table.CommandWord.TheVariants.{Replay, Check, Upgrade}
use Rattle.cli_words.specs.declared.table.CommandWord.TheVariants.{Compare, Vote, Salvage, Chain}
use Rattle.cli_words.specs.declared.table.CommandWord.TheVariants.{Help, Version}
use Rattle.cli_words.specs.declared.options.Options.{Options}
use Rattle.cli_words.specs.Command.{CommandValue, name_at, number_in, files_of, part_of}
use Rattle.cmd_records.specs.declared.record_show.show_form.Notation.TheVariants.{Lines, Json}
use Rattle.cmd_records.specs.declared.record_show.show_form.ShowForm.{ShowForm}
use Rattle.cmd_records.specs.record_show.Text.{has_reports}
use Rattle.probes.specs.Reports.{AudienceState}
use Rattle.run_setup.specs.Setup.{setup_of}
use Rattle.cmd_run.specs.record_command.Outcomes.{demo_outcome, demo_work}
use Rattle.cmd_run.specs.record_command.Outcomes.{record_outcome, record_names, record_work}
use Rattle.cmd_run.specs.needs_command.Needs.{needs_outcome, needs_work}
use Rattle.cmd_records.specs.show_command.Show.{show_outcome}
use Rattle.cmd_run.specs.sim_command.Sim.{sim_outcome}
use Rattle.cmd_rerun.specs.replay_command.Replay.{replay_outcome}
use Rattle.cmd_rerun.specs.check_command.Check.{check_outcome}
use Rattle.cmd_rerun.specs.upgrade_command.Upgrade.{upgrade_outcome}
use Rattle.cmd_records.specs.compare_command.Compare.{compare_outcome}
use Rattle.cmd_records.specs.vote_command.Vote.{vote_outcome, dissent_outcome, vote_work}
use Rattle.cmd_run.specs.chain_command.Chain.{chain_outcome, chain_names}
use Rattle.cmd_records.specs.salvage_command.Salvage.{salvage_outcome, salvage_reports_outcome}
use Rattle.det_cli.specs.declared.det_usage.TheConstants.{VERSION}
use Rattle.det_cli.specs.Texts.{help_text}

-- what `show` prints of a record, and how
abbrev pub form_of : Options → ShowForm
form_of options = record {
  part = part_of options;
  notation = if options.json then Json else Lines;
}

-- The names that a command opens, if these are the bytes under each name. It opens none after a
-- manifest that is refused.
abbrev pub opened_by : CommandWord → CommandValue → (List ℕ → List ℕ) → List (List ℕ)
opened_by Record c holds =
    record_names (name_at 0 c) (name_at 1 c) (setup_of c.options.strict (holds (name_at 0 c)))
opened_by Chain c holds = chain_names (name_at 0 c) (name_at 1 c) (name_at 2 c)
    (setup_of c.options.strict (holds (name_at 0 c)))
    (setup_of c.options.strict (holds (name_at 1 c)))
opened_by word c holds = files_of c

-- what a command reads and does
abbrev pub work_of : CommandWord → Work
work_of Demo = demo_work
work_of Record = record_work
work_of Show = reads_records
work_of Needs = needs_work
work_of Replay = reruns_records
work_of Check = compares_runs
work_of Upgrade = compares_runs
work_of Compare = compares_records
work_of Vote = vote_work
work_of Salvage = reads_records
work_of Chain = record_work
work_of other = reads_nothing

-- the commands that show runs to the audience and print its reports
abbrev pub is_showing : CommandWord → CommandValue → Bool
is_showing Show c = has_reports (part_of c.options)
is_showing Sim c = true
is_showing Check c = true
is_showing Salvage c = c.options.reports
is_showing other c = false

-- the outcome of a command, if these are the bytes under each name
abbrev pub outcome_by : CommandWord → CommandValue → (List ℕ → List ℕ) → AudienceState → Outcome
outcome_by Demo c holds audience = demo_outcome (holds (name_at 0 c))
outcome_by Record c holds audience =
    record_outcome c.options.strict (holds (name_at 0 c)) (holds (name_at 1 c)) c.options.seed
outcome_by Show c holds audience = show_outcome (form_of c.options) audience (holds (name_at 0 c))
outcome_by Needs c holds audience = needs_outcome c.options.strict (holds (name_at 0 c))
outcome_by Sim c holds audience = sim_outcome audience (number_in c)
outcome_by Replay c holds audience = replay_outcome (holds (name_at 0 c))
outcome_by Check c holds audience = check_outcome audience (holds (name_at 0 c))
outcome_by Upgrade c holds audience = upgrade_outcome (holds (name_at 0 c))
outcome_by Compare c holds audience = compare_outcome (map holds (files_of c))
outcome_by Vote c holds audience =
    (if c.options.dissent then dissent_outcome else vote_outcome) (map holds (files_of c))
outcome_by Salvage c holds audience =
    (if c.options.reports then salvage_reports_outcome audience else salvage_outcome)
    (holds (name_at 0 c))
outcome_by Chain c holds audience =
    chain_outcome c.options.strict (holds (name_at 0 c)) (holds (name_at 1 c))
    (holds (name_at 2 c)) c.options.seed
outcome_by Help c holds audience = text_outcome (unwrap_or (help_text c.names) [])
outcome_by Version c holds audience = text_outcome VERSION.now
