-- The stimulus that is generated from a number. Source of the random numbers: SplitMix64, Steele,
-- Lea and Flood 2014.
use Rattle.std.specs.Prelude.{ℕ, zero, suc, ◌+◌, ◌*◌, ◌%◌, ℤ, pos, ◌-ℤ◌, List, [], ◌++◌, codes}
use Rattle.std.specs.Fmt.{decimal, signed_decimal}
use Rattle.rand_xoshiro.specs.SplitMix64.{mix_u64}

-- the state of SplitMix64 after `n` outputs, started at `k`
unfoldable pub state_at : ℕ → ℕ → ℕ
state_at k zero = k
state_at k (suc n) = (mix_u64 (state_at k n)).1

-- its output number n, counted from 0
unfoldable pub word : ℕ → ℕ → ℕ
word k n = (mix_u64 (state_at k n)).0

-- from -10^6 to 10^6
abbrev pub made_value : ℕ → ℤ
made_value w = pos (w % 2000001) -ℤ pos 1000000

abbrev pub block_text : ℕ → ℤ → ℤ → List ℕ
block_text time first second =
    codes "cycle "
    ++ (decimal time
    ++ (codes "\nsample 0 "
    ++ (signed_decimal first
    ++ (codes "\nsample 1 " ++ (signed_decimal second ++ codes "\n")))))

-- the first n blocks, 10 ms apart
unfoldable pub made_blocks : ℕ → ℕ → List ℕ
made_blocks k zero = []
made_blocks k (suc n) =
    made_blocks k n
    ++ block_text (10000000 * n) (made_value (word k (2 * n))) (made_value (word k (2 * n + 1)))

abbrev pub made : ℕ → List ℕ
made k = codes "stim 1\n" ++ made_blocks k 200 ++ codes "terminate\n"
