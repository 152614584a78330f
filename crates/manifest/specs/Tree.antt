-- Places in the tree of a TOML document, and the values there.
use Rattle.std.specs.Prelude.{ℕ, suc, ℤ, pos, List, [], ◌∷◌, Option, Some, option_and_then}
use Rattle.std.specs.Option.{option_map_or, unwrap_or}
use Rattle.toml.specs.Data.{Data, integer, Items, no_items, item, get, at, as_str, as_integer}
use Rattle.toml.specs.Data.{as_array}

-- a step into a tree: to a member of a table, or to an item of an array
pub data Step : Type 0 where
  to_member : List ℕ → Step
  to_item : ℕ → Step

abbrev pub step : Step → Option Data → Option Data
step (to_member word) place = option_and_then (get word) place
step (to_item n) place = option_and_then (at n) place

-- the value at the end of a path
abbrev pub walk : List Step → Option Data → Option Data
walk [] place = place
walk (s ∷ path) place = walk path (step s place)

-- the number of items of an array, 0 for anything else
abbrev pub length_of_items : Items → ℕ
length_of_items no_items = 0
length_of_items (item d ds) = suc (length_of_items ds)

abbrev pub count_of : Option Data → ℕ
count_of place = option_map_or length_of_items (option_and_then as_array place) 0

-- the whole number at a place, 0 for anything else
abbrev pub whole_of : Option Data → ℤ
whole_of place = unwrap_or (option_and_then as_integer place) (pos 0)

-- the natural number at a place, 0 for anything else
abbrev pub number_of : Option Data → ℕ
number_of (Some (integer (pos n))) = n
number_of _ = 0

-- the text at a place, empty for anything else
abbrev pub text_of : Option Data → List ℕ
text_of place = unwrap_or (option_and_then as_str place) []
