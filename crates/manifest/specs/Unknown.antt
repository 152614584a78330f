-- The keys that a table of a manifest doesn't know.
use Rattle.std.specs.Prelude.{ℕ, zero, suc, ◌+◌, Bool, List, [], ◌∷◌, ◌++◌, map, length, take}
use Rattle.std.specs.Prelude.{replicate, Option, Some, None, option_map, option_and_then, codes}
use Rattle.std.specs.Prelude.{bytes_eq, if◌then◌else◌}
use Rattle.std.specs.List.{list_any}
use Rattle.std.specs.Option.{option_or}
use Rattle.toml.specs.Data.{Data, as_table, Members, no_members, member}
use Rattle.manifest.specs.Keys.{found, need_word, all_needs}
use Rattle.manifest.specs.declared.key.Key.TheVariants as keys
use Rattle.manifest.specs.declared.unknown_key.UnknownKey.{UnknownKey}
use Rattle.manifest.specs.declared.unknown_key.KeyTable.{KeyTable}
use Rattle.manifest.specs.declared.unknown_key.KeyTable.TheVariants.{Top, Event, InitNeeds}
use Rattle.manifest.specs.declared.unknown_key.KeyTable.TheVariants.{RunNeeds}

-- the names of the keys that a table knows, level by level
abbrev pub known_words : KeyTable → List (List ℕ)
known_words Top =
    codes "job" ∷ codes "cycle_time_ns" ∷ codes "workers" ∷ codes "params" ∷ codes "event"
    ∷ codes "platform" ∷ codes "init_needs" ∷ codes "run_needs" ∷ []
known_words (Event i) = codes "name" ∷ codes "capacity" ∷ codes "policy" ∷ []
known_words InitNeeds = map need_word all_needs
known_words RunNeeds = map need_word all_needs

unfoldable pub is_known : KeyTable → List ℕ → Bool
is_known table key = list_any (bytes_eq key) (known_words table)

-- a key as a fault reports it: at most its first 64 bytes, and then zeros
abbrev pub unknown_key : KeyTable → List ℕ → UnknownKey
unknown_key table key = record {
  table = table;
  bytes = take 64 (key ++ replicate 64 0);
  len = length (take 64 key);
}

-- the first of these members, which ascend by key, whose key the table doesn't know
abbrev pub unknown_in : KeyTable → Members → Option (List ℕ)
unknown_in table no_members = None
unknown_in table (member key d ms) = if is_known table key then unknown_in table ms else Some key

-- the same for the value at a place, if it is a table
abbrev pub unknown_at : KeyTable → Option Data → Option UnknownKey
unknown_at table place =
    option_map (unknown_key table)
    (option_and_then (unknown_in table) (option_and_then as_table place))

-- the same for `n` events, from number `i` on
abbrev pub unknown_events : Data → ℕ → ℕ → Option UnknownKey
unknown_events tree i zero = None
unknown_events tree i (suc n) =
    option_or (unknown_at (Event i) (found tree (keys.EventItem i)))
    (unknown_events tree (i + 1) n)

-- the first unknown key of a document: of the top level, then of the events, then of the needs
abbrev pub first_unknown : Data → ℕ → Option UnknownKey
first_unknown tree count =
    option_or (unknown_at Top (Some tree))
    (option_or (unknown_events tree 0 count)
    (option_or (unknown_at InitNeeds (found tree keys.InitNeeds))
    (unknown_at RunNeeds (found tree keys.RunNeeds))))
