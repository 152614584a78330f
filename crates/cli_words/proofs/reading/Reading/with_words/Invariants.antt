use Rattle.std.proofs.Common.{◌≡◌, drop}
use Rattle.cli_words.specs.Names.{texts}
use Rattle.cli_words.specs.Reading.{reading_value, with_words}
use Rattle.cli_words.proofs.reading.Reading.with_words.Given as goal

abbrev pub invariant-loop-word : goal.invariant-loop-word
invariant-loop-word l =
    with_words (texts l.words) (reading_value l.self) ≡ with_words (texts (drop l.word-index l.words)) (reading_value l.reading)
