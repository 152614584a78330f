-- One list at the beginning of another.
use Rattle.std.specs.Prelude.{◌≡◌, ◌≢◌, List, [], ◌++◌}

-- the list `all` begins with `front`; it may be `front` itself
abbrev pub IsPrefix : {X : Type 0} → List X → List X → Type 0
IsPrefix {X = X} front all = (rest : List X) × (front ++ rest ≡ all)

-- the list `all` begins with `front` and goes on after it
abbrev pub IsProperPrefix : {X : Type 0} → List X → List X → Type 0
IsProperPrefix {X = X} front all = (rest : List X) × (front ++ rest ≡ all) × (rest ≢ [])
