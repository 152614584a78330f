-- The elements that a joined part covers.
use Rattle.std.proofs.Common.{◌≡◌, ℕ, ◌+◌, ◌≤◌, sym, subst, arith}
use Rattle.job.specs.Laws.{CoversBoth}

pub covers_both : {P : Type 0} (Covers : P → ℕ → Type 0) (join : P → P → P) (left right whole : P) →
    ((a b : ℕ) → Covers left a → Covers right b → a + b ≤ 65536 → Covers (join left right) (a + b)) → whole ≡ join left right →
    CoversBoth Covers left right whole
covers_both Covers join left right whole each e a b n sum few h k =
    subst (λ m. Covers whole m) (sym sum) (subst (λ p. Covers p (a + b)) (sym e) (each a b h k (omega arith)))
