-- The table of keys: the place of each, when it is required, what it may hold, and the order in
-- which they are checked.
use Rattle.std.specs.Prelude.{ℕ, ◌-◌, ◌^◌, Bool, true, false, ◌||◌, List, [], ◌∷◌, ◌++◌, map}
use Rattle.std.specs.Prelude.{flat_map, Option, Some, is_some, codes}
use Rattle.std.specs.List.{range_with_len}
use Rattle.det_values.specs.Limits.{is_event_name}
use Rattle.toml.specs.Data.{Data}
use Rattle.manifest.specs.Limits.{is_platform_name, is_policy}
use Rattle.manifest.specs.Tree.{Step, to_member, to_item, walk, count_of}
use Rattle.manifest.specs.declared.key.NeedKey.{NeedKey}
use Rattle.manifest.specs.declared.key.NeedKey.TheVariants.{Instructions, SequentialBegin}
use Rattle.manifest.specs.declared.key.NeedKey.TheVariants.{SequentialEnd, Speedup}
use Rattle.manifest.specs.declared.key.Key.{Key}
use Rattle.manifest.specs.declared.key.Key.TheVariants.{Job, CycleTime, Workers, Params, Param}
use Rattle.manifest.specs.declared.key.Key.TheVariants.{Event, EventItem, EventName, EventCapacity}
use Rattle.manifest.specs.declared.key.Key.TheVariants.{EventPolicy, Platform, InitNeeds, InitNeed}
use Rattle.manifest.specs.declared.key.Key.TheVariants.{RunNeeds, RunNeed}

abbrev pub need_word : NeedKey → List ℕ
need_word Instructions = codes "instructions"
need_word SequentialBegin = codes "sequential_begin"
need_word SequentialEnd = codes "sequential_end"
need_word Speedup = codes "speedup_thousandths"

-- the place of a key in a document
abbrev pub path : Key → List Step
path Job = to_member (codes "job") ∷ []
path CycleTime = to_member (codes "cycle_time_ns") ∷ []
path Workers = to_member (codes "workers") ∷ []
path Params = to_member (codes "params") ∷ []
path (Param n) = to_member (codes "params") ∷ to_item n ∷ []
path Event = to_member (codes "event") ∷ []
path (EventItem n) = to_member (codes "event") ∷ to_item n ∷ []
path (EventName n) = to_member (codes "event") ∷ to_item n ∷ to_member (codes "name") ∷ []
path (EventCapacity n) = to_member (codes "event") ∷ to_item n ∷ to_member (codes "capacity") ∷ []
path (EventPolicy n) = to_member (codes "event") ∷ to_item n ∷ to_member (codes "policy") ∷ []
path Platform = to_member (codes "platform") ∷ []
path InitNeeds = to_member (codes "init_needs") ∷ []
path (InitNeed need) = to_member (codes "init_needs") ∷ to_member (need_word need) ∷ []
path RunNeeds = to_member (codes "run_needs") ∷ []
path (RunNeed need) = to_member (codes "run_needs") ∷ to_member (need_word need) ∷ []

-- the value at a key
abbrev pub found : Data → Key → Option Data
found tree key = walk (path key) (Some tree)

abbrev pub has : Data → Key → Bool
has tree key = is_some (found tree key)

-- What a key may hold: a text that passes a test, any whole number, or one from a least to a
-- greatest. Otherwise, an array of at most this many items, or a table.
pub data Kind : Type 0 where
  text : (List ℕ → Bool) → Kind
  any_whole : Kind
  whole : ℕ → ℕ → Kind
  array_up_to : ℕ → Kind
  section : Kind

-- whether a key is required, and what it may hold
pub record Rule : Type 0 where
  pub needed : Bool
  pub kind : Kind

abbrev pub needed : Kind → Rule
needed kind = record { needed = true; kind = kind }

abbrev pub optional : Kind → Rule
optional kind = record { needed = false; kind = kind }

abbrev pub needed_if : Bool → Kind → Rule
needed_if test kind = record { needed = test; kind = kind }

abbrev pub need_kind : NeedKey → Kind
need_kind Speedup = whole 1 1000000
need_kind _ = whole 0 (2 ^ 63 - 1)

-- the table
abbrev pub rule : Data → Key → Rule
rule tree Job = needed (text (λ _. true))
rule tree CycleTime = needed (whole 1 (2 ^ 63 - 1))
rule tree Workers = needed (whole 1 64)
rule tree Params = optional (array_up_to 16)
rule tree (Param n) = needed any_whole
rule tree Event = optional (array_up_to 256)
rule tree (EventItem n) = needed section
rule tree (EventName n) = needed (text is_event_name)
rule tree (EventCapacity n) = needed (whole 1 1024)
rule tree (EventPolicy n) = optional (text is_policy)
rule tree Platform = needed_if (has tree InitNeeds || has tree RunNeeds) (text is_platform_name)
rule tree InitNeeds = optional section
rule tree (InitNeed need) = needed_if (has tree InitNeeds) (need_kind need)
rule tree RunNeeds = optional section
rule tree (RunNeed need) = needed_if (has tree RunNeeds) (need_kind need)

-- the numbers of the items of the array at a key
abbrev pub items_of : Data → Key → List ℕ
items_of tree key = range_with_len 0 (count_of (found tree key))

abbrev pub event_keys : ℕ → List Key
event_keys i = EventItem i ∷ EventName i ∷ EventCapacity i ∷ EventPolicy i ∷ []

abbrev pub all_needs : List NeedKey
all_needs = Instructions ∷ SequentialBegin ∷ SequentialEnd ∷ Speedup ∷ []

-- a table of needs and its four keys
abbrev pub needs_keys : Key → (NeedKey → Key) → List Key
needs_keys needs need = needs ∷ map need all_needs

-- the keys in the order in which they are checked
abbrev pub keys : Data → List Key
keys tree =
    Job ∷ CycleTime ∷ Workers ∷ Params ∷ (map Param (items_of tree Params)
    ++ (Event ∷ (flat_map event_keys (items_of tree Event)
    ++ (Platform ∷ (needs_keys InitNeeds InitNeed ++ needs_keys RunNeeds RunNeed)))))
