-- Values that come one after another in some bytes.
use Rattle.std.specs.Prelude.{ℕ, List, [], Bool, true, false}
use Rattle.record_grammar.specs.Read.{Read, Got, More, Bad, many}

abbrev pub is_got : {A : Type 0} → Read A → Bool
is_got (Got x) = true
is_got More = false
is_got (Bad reason left) = false

abbrev pub list_got : {A : Type 0} → Read (List A) → List A
list_got (Got x) = x.0
list_got More = []
list_got (Bad reason left) = []

-- the bytes begin with `count` values
abbrev pub stand_at : {A : Type 0} → (List ℕ → Read A) → ℕ → List ℕ → Bool
stand_at item count bytes = is_got (many item count bytes)

-- those values
abbrev pub values_at : {A : Type 0} → (List ℕ → Read A) → ℕ → List ℕ → List A
values_at item count bytes = list_got (many item count bytes)
