use Rattle.std.proofs.Common.{◌≡◌, drop}
use Rattle.std.specs.Prelude.{find}
use Rattle.std.specs.Str.{bytes_eq}
use Rattle.cli_words.specs.Table.{option_row, option_word}
use Rattle.cli_words.proofs.table.OptionWord.from_word.Given as goal

abbrev pub invariant-loop-option : goal.invariant-loop-option
invariant-loop-option l = option_word l.word ≡ find (λ o. bytes_eq (option_row o).word l.word) (drop l.option-index l.option-items)
