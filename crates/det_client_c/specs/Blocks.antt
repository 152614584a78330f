-- The blocks of a container, as large as those of a pass over it.
use Rattle.std.specs.Prelude.{ℕ, ◌+◌, ◌*◌, min}
use Rattle.job.specs.Pass.{block_size}

-- where block n of a container of `len` elements begins
abbrev pub block_begin : ℕ → ℕ → ℕ
block_begin len n = min len (block_size len * n)

-- where it ends
abbrev pub block_end : ℕ → ℕ → ℕ
block_end len n = min len (block_size len * n + block_size len)
