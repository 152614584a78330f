-- The sizes of blocks, and their elements.
use Rattle.std.proofs.Common.{◌≡◌, ℕ, ◌+◌, ◌-◌, ◌*◌, ◌/◌, ◌%◌, ◌<◌, ◌≤◌, ◌⊎◌, inl, inr, refl, ap, subst, sym, arith, if◌then◌else◌}
use Rattle.std.proofs.lemmas.Bool.Decides.{leb_tells}
use Rattle.job.specs.Pass.{block_size}
use Rattle.job.specs.Passes.{blocks_of}

-- there are two sizes
pub sizes : (n : ℕ) → ((n ≤ 4096) × (block_size n ≡ 64)) ⊎ (block_size n ≡ 256)
unfolding block_size
sizes n = elim (leb_tells n 4096) [
  | inl h ↦ inl (h.1, ap (λ b. if b then 64 else 256) h.0)
  | inr h ↦ inr (ap (λ b. if b then 64 else 256) h.0)
]

pub some : (n : ℕ) → 0 < block_size n
some n = elim (sizes n) [ inl h ↦ omega (arith, h.1) | inr h ↦ omega (arith, h) ]

pub few : (n : ℕ) → block_size n ≤ 256
few n = elim (sizes n) [ inl h ↦ omega (arith, h.1) | inr h ↦ omega (arith, h) ]

-- block b begins before the end
pub begins : (n b : ℕ) → b < blocks_of n → block_size n * b < n
begins n b lt = by_size (block_size n) (sizes n) lt where
  by_size : (w : ℕ) → ((n ≤ 4096) × (w ≡ 64)) ⊎ (w ≡ 256) → b < (n + (w - 1)) / w → w * b < n
  by_size w (inl h) lt = subst (λ (w : ℕ). b < (n + (w - 1)) / w → w * b < n) (sym h.1) (λ lt. omega arith) lt
  by_size w (inr h) lt = subst (λ (w : ℕ). b < (n + (w - 1)) / w → w * b < n) (sym h) (λ lt. omega arith) lt

-- all blocks together have all elements
pub covers : (n : ℕ) → n ≤ block_size n * blocks_of n
covers n = by_size (block_size n) (sizes n) where
  by_size : (w : ℕ) → ((n ≤ 4096) × (w ≡ 64)) ⊎ (w ≡ 256) → n ≤ w * ((n + (w - 1)) / w)
  by_size w (inl h) = subst (λ (w : ℕ). n ≤ w * ((n + (w - 1)) / w)) (sym h.1) (omega arith)
  by_size w (inr h) = subst (λ (w : ℕ). n ≤ w * ((n + (w - 1)) / w)) (sym h) (omega arith)

-- a block of a pass lies in one block of a container
pub together : (n b : ℕ) → block_size n * b % 256 + block_size n ≤ 256
together n b = by_size (block_size n) (sizes n) where
  by_size : (w : ℕ) → ((n ≤ 4096) × (w ≡ 64)) ⊎ (w ≡ 256) → w * b % 256 + w ≤ 256
  by_size w (inl h) = subst (λ (w : ℕ). w * b % 256 + w ≤ 256) (sym h.1) (omega arith)
  by_size w (inr h) = subst (λ (w : ℕ). w * b % 256 + w ≤ 256) (sym h) (omega arith)

pub few_blocks : (n : ℕ) → n ≤ 65536 → blocks_of n ≤ 256
few_blocks n le = by_size (block_size n) (sizes n) where
  by_size : (w : ℕ) → ((n ≤ 4096) × (w ≡ 64)) ⊎ (w ≡ 256) → (n + (w - 1)) / w ≤ 256
  by_size w (inl h) = subst (λ (w : ℕ). (n + (w - 1)) / w ≤ 256) (sym h.1) (omega (arith, h.0))
  by_size w (inr h) = subst (λ (w : ℕ). (n + (w - 1)) / w ≤ 256) (sym h) (omega (arith, le))

-- the next block begins after this one
pub next_begins : (w b : ℕ) → w * (b + 1) ≡ w * b + w
next_begins w b = omega arith
