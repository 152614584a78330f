use Rattle.std.proofs.Common.{ap, ◌∙◌}
use lib.Bits.{bit_xor}
use Rattle.std.specs.Int.{w64, rotate_left}
use Rattle.job_heavy.proofs.Folds.{folded_none, folded_more}
use Rattle.job_heavy.proofs.state.fold_words.Goals as goal

pub loop-init : goal.loop-init
loop-init c = record { reads = λ key at. at; so_far = λ key at. folded_none c.args.first key }

pub loop-preserved : goal.loop-preserved
loop-preserved c = record {
  reads = λ key at. c.get_random.ensures.goes_on key c.loop.counter (c.loop.invariant.reads key at);
  so_far = λ key at.
      (λ i. bit_xor ((c.rotate_left.ensures ∙ ap (λ s. rotate_left w64 s 5) (c.loop.invariant.so_far key at)) i)
      (c.get_random.ensures.word key c.loop.counter (c.loop.invariant.reads key at) i))
      ∙ folded_more c.args.first key c.loop.counter;
}
