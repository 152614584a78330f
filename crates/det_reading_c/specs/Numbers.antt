-- A number in some bytes.
use Rattle.std.specs.Prelude.{◌≡◌, ℕ, List, drop}
use Rattle.record_grammar.specs.declared.limits.Limits.{Limits}
use Rattle.record_grammar.specs.Read.{Got}
use Rattle.record_grammar.specs.Numbers.{number_from}

-- if the grammar reads a number of this width there, it is this one, whatever its limits
abbrev pub IsNumber : ℕ → ℕ → List ℕ → Type 0
IsNumber width n bytes =
    (limits : Limits) (m : ℕ) (rest : List ℕ) → number_from limits width 0 bytes ≡ Got (m, rest)
    → n ≡ m

-- the same at an offset
abbrev pub IsNumberAt : ℕ → ℕ → ℕ → List ℕ → Type 0
IsNumberAt width n at bytes = IsNumber width n (drop at bytes)
