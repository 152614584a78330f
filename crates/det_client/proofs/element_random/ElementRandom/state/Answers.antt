use Rattle.std.proofs.Common.{ap, ◌∙◌, sym, ◌∷◌, []}
use Rattle.rand_xoshiro.specs.Xoshiro256.{state_bytes}
use Rattle.det_client.specs.element_random.RandomStreams.{state_of_words}
use Rattle.det_client.proofs.lemmas.element_random.States.{given_back, words_of, words_back}
use Rattle.det_client.proofs.element_random.ElementRandom.state.Goals as goal

pub returns-clause-words : goal.returns-clause-words
returns-clause-words c = λ k n s.
    (λ i. c.read_u64.ensures i ∷ c.read_u64-2.ensures i ∷ c.read_u64-3.ensures i ∷ c.read_u64-4.ensures i ∷ [])
    ∙ ap words_of c.state-bytes.ensures
    ∙ ap (λ x. words_of (state_bytes x)) (ap (λ p. p.state) c.self.view_is ∙ s.state)
    ∙ words_back k n
    ∙ sym s.state

pub returns-clause-again : goal.returns-clause-again
returns-clause-again c = λ k n s.
    ap state_of_words (returns-clause-words c k n s ∙ s.state) ∙ given_back k n ∙ sym s.state
