use Rattle.hints_on_words.specs.Texts.{hint_line, named_text}
use Rattle.hints_on_words.proofs.Untaken.{known-untaken}
use Rattle.hints_on_words.proofs.named_hints.write_named_hint.Goals as goal

pub returns-clause-known : goal.returns-clause-known
returns-clause-known g c =
    known-untaken (g.K.Sink.took c.args.err.now) (λ text. hint_line (named_text c.args.name.now text)) (g.D.Display.output c.args.hint)
