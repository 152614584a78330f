-- The state of a cache: two rings for each event.
use Rattle.std.specs.Prelude.{ℕ, ℤ, List, [], ◌∷◌, ◌++◌, map}
use Rattle.std.specs.List.{All}
use Rattle.circular_buffer.specs.Buffer.{keep_last}
use Rattle.det_values.specs.Limits.{IsSampleValue}
use Rattle.det_values.specs.declared.event.Policy.{Policy}
use Rattle.det_values.specs.declared.event.Policy.TheVariants.{Last, Fresh}

-- the rings of one event: its window, and the values that arrived since the last turn
pub record Rings : Type 0 where
  pub policy : Policy
  pub capacity : ℕ
  pub seen : List ℤ
  pub arriving : List ℤ

-- the window after a turn
abbrev pub seen_next : Policy → ℕ → List ℤ → List ℤ → List ℤ
seen_next Last capacity seen arriving = keep_last capacity (seen ++ arriving)
seen_next Fresh capacity seen arriving = arriving

-- the rings after a turn
abbrev pub turned : Rings → Rings
turned r =
    record r { seen = seen_next r.policy r.capacity r.seen r.arriving; arriving = [] }

-- the rings after the arrival of a value
abbrev pub joined : Rings → ℤ → Rings
joined r value =
    record r { arriving = keep_last r.capacity (r.arriving ++ value ∷ []) }

-- the window of each event
abbrev pub windows : List Rings → List (List ℤ)
windows cache = map (λ (r : Rings). r.seen) cache

-- all values that a ring holds are values of samples
pub record IsInLimits (r : Rings) : Type 0 where
  pub seen : All IsSampleValue r.seen
  pub arriving : All IsSampleValue r.arriving
