-- The outcome of `show`, by the bytes of a record: its text, and whether it is whole.
use Rattle.std.specs.Prelude.{ℕ, List}
use Rattle.record_grammar.specs.Record.{fault}
use Rattle.probes.specs.Reports.{AudienceState}
use Rattle.cmd_records.specs.declared.record_show.show_form.ShowForm.{ShowForm}
use Rattle.cmd_records.specs.record_show.Text.{text_of}
use Rattle.cli_answers.specs.Answers.{by_fault}
use Rattle.cli_answers.specs.Outcome.{Outcome}

-- a part of the record's text, and what the audience reports of its runs
abbrev pub show_outcome : ShowForm → AudienceState → List ℕ → Outcome
show_outcome form audience record_bytes = record {
  answer = by_fault (fault record_bytes);
  bytes = text_of form audience record_bytes;
}
