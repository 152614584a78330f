-- Counts that rise.
use Rattle.std.proofs.Common.{ℕ, ◌≤◌, arith}
use Rattle.det_io.specs.Count.{Rose}

-- a count that rose in the later of two calls, and never fell, rose in both together
pub rose-before : (a b c : ℕ) → a ≤ b → Rose b c → Rose a c
rose-before a b c h r = grind (arith, h, r)

-- a count that rose in the earlier of two calls, and never fell, rose in both together
pub rose-after : (a b c : ℕ) → Rose a b → b ≤ c → Rose a c
rose-after a b c r h = grind (arith, h, r)

-- a count that is 0 after a call did not rise in it
pub rose-none : (a : ℕ) → Rose a 0 → ⊥
rose-none a r = grind (arith, r)
