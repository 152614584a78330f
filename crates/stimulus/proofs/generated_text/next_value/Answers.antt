use Rattle.std.proofs.Common.{ap, ◌∙◌}
use Rattle.stimulus.specs.GeneratedText.{made_value}
use Rattle.stimulus.proofs.Making.{word_is, state_is, value_is}
use Rattle.stimulus.proofs.generated_text.next_value.Goals as goal

pub returns-clause-value : goal.returns-clause-value
returns-clause-value c k n at =
    value_is c.next_word.result
    ∙ ap made_value (word_is k n c.args.words.now c.next_word.result c.next_word.new.self at c.next_word.ensures)

pub returns-clause-goes_on : goal.returns-clause-goes_on
returns-clause-goes_on c k n at = state_is k n c.args.words.now c.next_word.result c.next_word.new.self at c.next_word.ensures
