use Rattle.std.proofs.Common.{◌≡◌, ℕ, ◌+◌, ◌*◌, ◌/◌, ◌<◌, ◌≤◌, ◌⊎◌, inl, inr, min, subst, sym, arith}
use Rattle.job.specs.Pass.{block_size}
use Rattle.job.proofs.Sizes.{sizes}
use Rattle.det_client_c.proofs.det_blocks.each_element_once.Goals as goal

-- element i is in the block of number i / w
IsWithin : ℕ → ℕ → ℕ → Type 0
IsWithin len i w = (min len (w * (i / w)) ≤ i) × (i < min len (w * (i / w) + w))

within : (len i w : ℕ) → i < len → ((len ≤ 4096) × (w ≡ 64)) ⊎ (w ≡ 256) → IsWithin len i w
unfolding IsWithin
within len i w lt (inl h) = subst (IsWithin len i) (sym h.1) (omega (arith, lt), omega (arith, lt))
within len i w lt (inr h) = subst (IsWithin len i) (sym h) (omega (arith, lt), omega (arith, lt))

pub returns-clause-within : goal.returns-clause-within
unfolding IsWithin
returns-clause-within c len i lt = within len i (block_size len) lt (sizes len)
