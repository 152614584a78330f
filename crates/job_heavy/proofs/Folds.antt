-- Random numbers folded one by one.
use Rattle.std.proofs.Common.{◌≡◌, ℕ, ◌+◌, refl, add-one}
use lib.Bits.{bit_xor}
use Rattle.std.specs.Int.{w64, rotate_left}
use Rattle.det_client.specs.element_random.RandomStreams.{word}
use Rattle.job_heavy.specs.Meaning.{folded}

pub folded_none : (first key : ℕ) → first ≡ folded first key 0
unfolding folded
folded_none first key = refl

pub folded_more : (first key n : ℕ) → bit_xor (rotate_left w64 (folded first key n) 5) (word key n) ≡ folded first key (n + 1)
unfolding folded
folded_more first key n = rw add-one refl
