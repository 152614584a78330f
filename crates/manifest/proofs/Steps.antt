-- One parameter, or one event, and those after it.
use Rattle.std.proofs.Common.{◌≡◌, ℕ, ℤ, Bool, None, Some, suc, ◌+◌, ◌-◌, ◌<◌, Option, List, [], ◌∷◌, ◌++◌, append_assoc, length}
use Rattle.std.proofs.Common.{take, drop, map, get_or, bytes_eq, if◌then◌else◌, refl, ap, ◌∙◌, arith}
use Rattle.std.proofs.lemmas.List.{drop_more, take_more}
use Rattle.std.specs.List.{list_any, All, flat_map, range_with_len}
use Rattle.std.proofs.lemmas.List.Elements.{All-append, All-cons, All-nil}
use Rattle.std.specs.Option.{option_or}
use Rattle.toml.specs.Data.{Data}
use Rattle.det_values.specs.Values.{EventSpecValue}
use Rattle.manifest.specs.Keys.{event_keys, found}
use Rattle.manifest.specs.Faults.{first_fault, fault_at, duplicate_after}
use Rattle.manifest.specs.Meaning.{event_at}
use Rattle.manifest.specs.Tree.{whole_of}
use Rattle.manifest.specs.declared.manifest_fault.ManifestFault.{ManifestFault}
use Rattle.manifest.specs.declared.key.Key.{Key}
use Rattle.manifest.specs.declared.key.Key.TheVariants.{Param}

-- the keys and the values of n parameters, or events, from number i on
abbrev pub keys_of_params : ℕ → ℕ → List Key
keys_of_params i n = map Param (range_with_len i n)

abbrev pub params_from : Data → ℕ → ℕ → List ℤ
params_from tree i n = map (λ k. whole_of (found tree (Param k))) (range_with_len i n)

abbrev pub keys_of_events : ℕ → ℕ → List Key
keys_of_events i n = flat_map event_keys (range_with_len i n)

abbrev pub events_from : Data → ℕ → ℕ → List EventSpecValue
events_from tree i n = map (event_at tree) (range_with_len i n)

one_more : (i n : ℕ) → i < n → n - i ≡ suc (n - (i + 1))
one_more i n h = omega arith

or_or : (a b c : Option ManifestFault) → option_or a (option_or b c) ≡ option_or (option_or a b) c
or_or None b c = refl
or_or (Some x) b c = refl

pub params_fault : (tree : Data) (i n : ℕ) → i < n
    → first_fault tree (keys_of_params i (n - i))
    ≡ option_or (fault_at tree (Param i)) (first_fault tree (keys_of_params (i + 1) (n - (i + 1))))
params_fault tree i n h = rw (one_more i n h)

-- the value of number i, and of those after it
pub values_step : {X : Type 0} (value : ℕ → X) (i n : ℕ) → i < n
    → map value (range_with_len i (n - i)) ≡ value i ∷ map value (range_with_len (i + 1) (n - (i + 1)))
values_step value i n h = rw (one_more i n h)

-- the values so far, and one more
pub values_more : {X : Type 0} (value : ℕ → X) (i n : ℕ) (done more : List X) (x : X)
    → i < n → x ≡ value i → more ≡ done ++ x ∷ []
    → done ++ map value (range_with_len i (n - i)) ≡ more ++ map value (range_with_len (i + 1) (n - (i + 1)))
values_more value i n done more x h e pushed = rw (pushed, append_assoc, values_step value i n h, e)

-- past a parameter without a fault
pub params_past : (tree : Data) (i n : ℕ) → i < n → fault_at tree (Param i) ≡ None
    → first_fault tree (keys_of_params i (n - i)) ≡ first_fault tree (keys_of_params (i + 1) (n - (i + 1)))
params_past tree i n h good = params_fault tree i n h ∙ rw good

-- the first fault of some keys and then of more
pub first_append : (tree : Data) (ks ls : List Key)
    → first_fault tree (ks ++ ls) ≡ option_or (first_fault tree ks) (first_fault tree ls)
first_append tree [] ls = refl
first_append tree (k ∷ ks) ls = ap (option_or (fault_at tree k)) (first_append tree ks ls) ∙ or_or (fault_at tree k) _ _

pub events_fault : (tree : Data) (i n : ℕ) → i < n
    → first_fault tree (keys_of_events i (n - i))
    ≡ option_or (first_fault tree (event_keys i)) (first_fault tree (keys_of_events (i + 1) (n - (i + 1))))
events_fault tree i n h = rw (one_more i n h) (first_append tree (event_keys i) (keys_of_events (i + 1) (n - (i + 1))))

-- past an event without a fault
pub events_past : (tree : Data) (i n : ℕ) → i < n → first_fault tree (event_keys i) ≡ None
    → first_fault tree (keys_of_events i (n - i)) ≡ first_fault tree (keys_of_events (i + 1) (n - (i + 1)))
events_past tree i n h good = events_fault tree i n h ∙ rw good

-- whether an event repeats an earlier one, and those after it
pub duplicate_step : (events : List EventSpecValue) (i : ℕ) (d : EventSpecValue) → i < length events
    → duplicate_after (take i events) i (drop i events)
    ≡ (if list_any (λ e. bytes_eq e.name (get_or events i d).name) (take i events) then Some i else duplicate_after (take (i + 1) events)
    (i + 1) (drop (i + 1) events))
duplicate_step events i d h = rw (drop_more events i d h, take_more events i d h)

-- whether event i is found to be one
pub duplicate_at : (events : List EventSpecValue) (i : ℕ) (d : EventSpecValue) (repeats : Bool) → d ≡ get_or events i d → i < length events
    → list_any (λ e. bytes_eq e.name d.name) (take i events) ≡ repeats
    → duplicate_after (take i events) i (drop i events)
    ≡ (if repeats then Some i else duplicate_after (take (i + 1) events) (i + 1) (drop (i + 1) events))
duplicate_at events i d repeats e h is = rw (drop_more events i d h, take_more events i d h, ← e, is)

-- a fact of each event so far, and of one more
pub all_more : (P : EventSpecValue → Type 0) (done more : List EventSpecValue) (x : EventSpecValue)
    → All P done → P x → more ≡ done ++ x ∷ [] → All P more
all_more P done more x before here pushed = rw pushed (All-append P done (x ∷ []) before (All-cons P x [] here (All-nil P)))
