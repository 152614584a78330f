use Rattle.std.proofs.Common.{[]}
use Rattle.hints_on_words.specs.Texts.{hint_line}
use Rattle.hints_on_words.proofs.Untaken.{none-taken, known-untaken}
use Rattle.hints_on_words.proofs.hint_lines.write_hint.Goals as goal

pub returns-clause-known : goal.returns-clause-known
returns-clause-known g c = known-untaken (g.K.Sink.took c.args.err.now) hint_line (g.D.Display.output c.args.hint)

pub returns-clause-line : goal.returns-clause-line
returns-clause-line g c = ([], none-taken (g.K.Sink.took c.args.err.now) (hint_line []))
