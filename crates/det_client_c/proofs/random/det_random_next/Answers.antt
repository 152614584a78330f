use Rattle.std.proofs.Common.{ap, ◌∙◌, arith, add-one}
use Rattle.rand_xoshiro.specs.Xoshiro256.{plus_plus, next_state}
use Rattle.det_client.specs.element_random.RandomStreams.{state_at, word}
use Rattle.det_client_c.proofs.random.det_random_next.Goals as goal

pub returns-clause-word : goal.returns-clause-word
unfolding word
returns-clause-word c = λ k n s. c.next_word-word.ensures.word ∙ ap (λ v. (plus_plus v).0) s.state

pub returns-clause-goes_on : goal.returns-clause-goes_on
unfolding state_at
returns-clause-goes_on c = λ k n s. record {
  state = rw add-one (c.next_word-word.ensures.state ∙ ap next_state s.state);
  draws = omega (arith, s.draws);
}
