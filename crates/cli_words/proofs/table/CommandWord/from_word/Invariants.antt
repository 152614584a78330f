use Rattle.std.proofs.Common.{◌≡◌, drop}
use Rattle.std.specs.Prelude.{find}
use Rattle.std.specs.Str.{bytes_eq}
use Rattle.cli_words.specs.Table.{row, command_word}
use Rattle.cli_words.proofs.table.CommandWord.from_word.Given as goal

abbrev pub invariant-loop-command : goal.invariant-loop-command
invariant-loop-command l = command_word l.word ≡ find (λ c. bytes_eq (row c).word l.word) (drop l.command-index l.command-items)
