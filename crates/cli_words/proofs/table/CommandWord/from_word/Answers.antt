use Rattle.std.proofs.Common.{sym, ◌∙◌, ap}
use Rattle.std.specs.Str.{bytes_eq}
use Rattle.cli_words.specs.Table.{CommandRow, row}
use Rattle.cli_words.specs.declared.table.TheConstants.{COMMANDS}
use Rattle.cli_words.proofs.Finding.{find-more}
use Rattle.cli_words.proofs.table.CommandWord.from_word.Goals as goal

pub loop-command-preserved : goal.loop-command-preserved
loop-command-preserved c =
    find-more (λ k. bytes_eq (row k).word c.args.word.now) COMMANDS _ c.loop-command.command-index _ c.loop-command-test.true
    c.loop-command.invariant
    (ap (λ (r : CommandRow). bytes_eq r.word c.args.word.now) (sym c.row.ensures.is) ∙ sym c.eq.ensures ∙ c.if-eq.false)
