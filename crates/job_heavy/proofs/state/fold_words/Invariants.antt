use Rattle.std.proofs.Common.{◌≡◌, ℕ}
use Rattle.det_client.specs.element_random.RandomStreams.{StandsFor}
use Rattle.job_heavy.specs.Meaning.{folded}
use Rattle.job_heavy.proofs.state.fold_words.Given as goal

abbrev pub invariant-loop : goal.invariant-loop
invariant-loop l = record {
  reads : (key : ℕ) → StandsFor l.fn.random key 0 → StandsFor l.random key l.counter;
  so_far : (key : ℕ) → StandsFor l.fn.random key 0 → l.state ≡ folded l.first key l.counter;
}
