use Rattle.std.proofs.Common.{ℕ, List, ap, ◌∙◌, arith, add-one}
use Rattle.rand_xoshiro.specs.Xoshiro256.{plus_plus, next_state}
use Rattle.det_client.specs.element_random.RandomStreams.{state_at, word}
use Rattle.det_client.proofs.element_random.ElementRandom.get_random.Goals as goal

pub returns-clause-word : goal.returns-clause-word
unfolding word
returns-clause-word c = λ k n s.
    ap (λ (p : ℕ × List ℕ). p.0) c.next_word-word.ensures ∙ ap (λ v. (plus_plus v).0) (ap (λ p. p.state) c.self.view_is ∙ s.state)

pub returns-clause-goes_on : goal.returns-clause-goes_on
unfolding state_at
returns-clause-goes_on c = λ k n s. record {
  state = rw add-one (ap (λ (p : ℕ × List ℕ). p.1) c.next_word-word.ensures ∙ ap next_state (ap (λ p. p.state) c.self.view_is ∙ s.state));
  draws = omega (arith, s.draws, ap (λ p. p.draws) c.self.view_is);
}
