-- Keys, and the random numbers of a key. The generators are published ones: SplitMix64 of Steele,
-- Lea and Flood (2014), and xoshiro256++ of Blackman and Vigna (2019). The form of the keys is this
-- project's own.
use Rattle.std.specs.Prelude.{◌≡◌, ℕ, zero, suc, ◌+◌, ◌-◌, ◌*◌, ◌^◌, min, List, [], ◌∷◌, bit_xor}
use Rattle.std.specs.Prelude.{◌==◌, ◌&&◌, slice_index, if◌then◌else◌}
use Rattle.rand_core.specs.Steps.{first_words}
use Rattle.rand_xoshiro.specs.SplitMix64.{mix_u64}
use Rattle.rand_xoshiro.specs.Xoshiro256.{next_state, plus_plus}
use Rattle.det_client.specs.declared.element_random.PassKeys.{PassKeys}

-- the first output of SplitMix64 started at x
unfoldable pub splitmix_output : ℕ → ℕ
splitmix_output x = (mix_u64 x).0

-- the key of a seed, a cycle, a pass and an element
unfoldable pub key : ℕ → ℕ → ℕ → ℕ → ℕ
key seed cycle pass element =
    splitmix_output (bit_xor (splitmix_output (bit_xor (splitmix_output seed) cycle)) (pass * 2 ^ 32 + element))

-- the common part of the keys of a pass: the hash of seed and cycle, and the pass
pub record AreKeysOf (keys : PassKeys) (seed cycle pass : ℕ) : Type 0 where
  pub shared : keys.shared ≡ splitmix_output (bit_xor (splitmix_output seed) cycle)
  pub of_pass : keys.pass ≡ pass

-- the state of xoshiro256++ after n outputs, which begins as the first four outputs of SplitMix64
-- from the key
unfoldable pub state_at : ℕ → ℕ → List ℕ
state_at key zero = first_words mix_u64 4 key
state_at key (suc n) = next_state (state_at key n)

-- the random number with index n of a key, counted from 0
unfoldable pub word : ℕ → ℕ → ℕ
word key n = (plus_plus (state_at key n)).0

-- a stream's state: that of its generator, and the count of the numbers drawn
pub record StreamState : Type 0 where
  pub state : List ℕ
  pub draws : ℕ

-- A stream is that of a key after `drawn` numbers. Its count saturates at the greatest u64.
pub record StandsFor (place : StreamState) (key drawn : ℕ) : Type 0 where
  pub state : place.state ≡ state_at key drawn
  pub draws : place.draws ≡ min drawn (2 ^ 64 - 1)

-- the state that four numbers give: the numbers themselves, but the first state of the key 0 for
-- four zeros, which no stream reaches
unfoldable pub state_of_words : List ℕ → List ℕ
state_of_words s =
    if (slice_index s 0 == 0) && (slice_index s 1 == 0)
    && (slice_index s 2 == 0) && (slice_index s 3 == 0)
    then state_at 0 0
    else (slice_index s 0 ∷ slice_index s 1 ∷ slice_index s 2 ∷ slice_index s 3 ∷ [])
