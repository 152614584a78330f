use Rattle.std.proofs.Common.{sym, ◌∙◌, arith}
use Rattle.cli_words.proofs.Decimals.{unparsed, spelled, otherwise}
use Rattle.cli_words.proofs.number.number_of.Goals as goal

pub returns-in_default : goal.returns-in_default
returns-in_default c = sym (unparsed c.args.word.now _ _ c.parse.ensures.value.0 c.in_default.is)

pub returns-then-eq : goal.returns-then-eq
returns-then-eq c = sym (spelled c.args.word.now c.format.result.now c.in-Ok.number (omega arith) c.format.ensures.text
    (sym c.eq.ensures ∙ c.if-eq.true))

pub returns-else-eq : goal.returns-else-eq
returns-else-eq c =
    sym (otherwise c.args.word.now c.format.result.now _ c.in-Ok.number c.parse.ensures.value.0 c.in-Ok.is c.format.ensures.text
    (sym c.eq.ensures ∙ c.if-eq.false))
