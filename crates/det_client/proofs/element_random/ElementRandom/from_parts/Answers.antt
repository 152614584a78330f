use Rattle.std.proofs.Common.{ap, ◌∙◌, sym}
use Rattle.det_client.specs.element_random.RandomStreams.{state_of_words}
use Rattle.det_client.proofs.lemmas.element_random.States.{given_back}
use Rattle.det_client.proofs.element_random.ElementRandom.from_parts.Goals as goal

pub returns-clause-state : goal.returns-clause-state
unfolding state_of_words
returns-clause-state c = c.generator_in_state.ensures

pub returns-clause-again : goal.returns-clause-again
unfolding state_of_words
returns-clause-again c = λ k n h. c.generator_in_state.ensures ∙ ap state_of_words h ∙ given_back k n ∙ sym h
