use Rattle.std.proofs.Common.{rules}
use Rattle.hints_on_words.specs.Texts.{hint_line}
use Rattle.hints_on_words.proofs.Untaken.{none-taken}
use Rattle.hints_on_words.proofs.hint_lines.write_hint_text.Goals as goal

pub returns-in-Err : goal.returns-in-Err
returns-in-Err g c = record {
  part = none-taken (g.K.Sink.took c.args.err.now) (hint_line c.args.text.now);
  whole = search rules;
}
