use Rattle.std.proofs.Common.{sym, ◌∙◌, ap}
use Rattle.std.specs.Str.{bytes_eq}
use Rattle.cli_words.specs.Table.{OptionRow, option_row}
use Rattle.cli_words.specs.declared.table.TheConstants.{OPTIONS}
use Rattle.cli_words.proofs.Finding.{find-more}
use Rattle.cli_words.proofs.table.OptionWord.from_word.Goals as goal

pub loop-option-preserved : goal.loop-option-preserved
loop-option-preserved c =
    find-more (λ o. bytes_eq (option_row o).word c.args.word.now) OPTIONS _ c.loop-option.option-index _ c.loop-option-test.true
    c.loop-option.invariant
    (ap (λ (r : OptionRow). bytes_eq r.word c.args.word.now) (sym c.row.ensures) ∙ sym c.eq.ensures ∙ c.if-eq.false)
