-- What the keys of a manifest without a fault hold.
use Rattle.std.proofs.Common.{◌≡◌, ℕ, zero, suc, ◌+◌, ◌^◌, ◌-◌, ◌≤◌, pos, negsuc, List, ◌∷◌, ◌++◌, length, Bool, true, false, Option, Some}
use Rattle.std.proofs.Common.{None, refl, sym, ap, ◌∙◌, arith}
use Rattle.std.specs.Prelude.{nat_le, ◌&&◌}
use Rattle.std.specs.List.{All}
use Rattle.std.specs.Option.{option_or}
use Rattle.std.proofs.lemmas.Bool.{leb-true, and_parts}
use Rattle.std.proofs.lemmas.List.Elements.{All-nil, All-cons}
use Rattle.det_values.specs.Limits.{IsCycleTime, is_event_name}
use Rattle.toml.specs.Data.{Data, string, integer, float, boolean, datetime, array, table}
use Rattle.record_grammar.specs.Spelling.{IsEvent}
use Rattle.manifest.specs.Tree.{count_of, number_of, text_of, length_of_items}
use Rattle.manifest.specs.Keys.{text, whole, array_up_to, found, keys}
use Rattle.manifest.specs.Groups.{params_keys, events_keys, last_keys}
use Rattle.manifest.specs.Faults.{unless, value_fault, fault_by, fault_at, first_fault}
use Rattle.manifest.specs.Meaning.{params_of, event_at, events_of}
use Rattle.manifest.specs.declared.key.Key.{Key}
use Rattle.manifest.specs.declared.key.Key.TheVariants.{Job, CycleTime, Workers, Params, Event, EventItem, EventName, EventCapacity}
use Rattle.manifest.specs.declared.key.Key.TheVariants.{EventPolicy}
use Rattle.manifest.specs.declared.manifest_fault.ManifestFault.{ManifestFault}
use Rattle.manifest.specs.declared.manifest_fault.ManifestFault.TheVariants.{OutOfRange}
use Rattle.manifest.proofs.Steps.{first_append, keys_of_events, params_from, events_from}

-- ---- one key

holds : (t : Bool) (fault : ManifestFault) → unless t fault ≡ None → t ≡ true
holds true fault e = refl
holds false fault e = absurd cc

within : (key : Key) (least most n : ℕ) → unless (nat_le least n && nat_le n most) (OutOfRange key) ≡ None → (least ≤ n) × (n ≤ most)
within key least most n e =
    let t = and_parts (nat_le least n) (nat_le n most) (holds (nat_le least n && nat_le n most) (OutOfRange key) e) in
    (leb-true least n t.0, leb-true n most t.1)

whole_value : (key : Key) (least most : ℕ) (value : Data) → value_fault key (whole least most) value ≡ None
    → (least ≤ number_of (Some value)) × (number_of (Some value) ≤ most)
whole_value key least most (integer (pos n)) e = within key least most n e
whole_value key least most (integer (negsuc n)) e = absurd cc
whole_value key least most value e = absurd cc

whole_in : (key : Key) (least most : ℕ) (place : Option Data) → fault_by key true (whole least most) place ≡ None
    → (least ≤ number_of place) × (number_of place ≤ most)
whole_in key least most None e = absurd cc
whole_in key least most (Some value) e = whole_value key least most value e

text_value : (key : Key) (fits : List ℕ → Bool) (value : Data) → value_fault key (text fits) value ≡ None
    → fits (text_of (Some value)) ≡ true
text_value key fits (string s) e = holds (fits s) (OutOfRange key) e
text_value key fits value e = absurd cc

text_in : (key : Key) (fits : List ℕ → Bool) (place : Option Data) → fault_by key true (text fits) place ≡ None
    → fits (text_of place) ≡ true
text_in key fits None e = absurd cc
text_in key fits (Some value) e = text_value key fits value e

array_value : (key : Key) (most : ℕ) (value : Data) → value_fault key (array_up_to most) value ≡ None → count_of (Some value) ≤ most
array_value key most (array ds) e = leb-true (length_of_items ds) most (holds (nat_le (length_of_items ds) most) (OutOfRange key) e)
array_value key most value e = absurd cc

array_in : (key : Key) (most : ℕ) (place : Option Data) → fault_by key false (array_up_to most) place ≡ None → count_of place ≤ most
array_in key most None e = omega arith
array_in key most (Some value) e = array_value key most value e

-- ---- keys one after another

parted : (a b : Option ManifestFault) → option_or a b ≡ None → (a ≡ None) × (b ≡ None)
parted None b e = (refl, e)
parted (Some fault) b e = absurd cc

module _ (tree : Data) where
  first_part : (ks ls : List Key) → first_fault tree (ks ++ ls) ≡ None → (first_fault tree ks ≡ None) × (first_fault tree ls ≡ None)
  first_part ks ls e = parted (first_fault tree ks) (first_fault tree ls) (sym (first_append tree ks ls) ∙ e)

  one : (k : Key) (ks : List Key) → first_fault tree (k ∷ ks) ≡ None → (fault_at tree k ≡ None) × (first_fault tree ks ≡ None)
  one k ks e = parted (fault_at tree k) (first_fault tree ks) e

  length-params : (i n : ℕ) → length (params_from tree i n) ≡ n
  length-params i zero = refl
  length-params i (suc n) = ap suc (length-params (i + 1) n)

  length-events : (i n : ℕ) → length (events_from tree i n) ≡ n
  length-events i zero = refl
  length-events i (suc n) = ap suc (length-events (i + 1) n)

  events_in : (i n : ℕ) → first_fault tree (keys_of_events i n) ≡ None → All IsEvent (events_from tree i n)
  events_in i zero e = All-nil IsEvent
  events_in i (suc n) e =
      let a = one (EventItem i) (EventName i ∷ EventCapacity i ∷ EventPolicy i ∷ keys_of_events (i + 1) n) e in
      let b = one (EventName i) (EventCapacity i ∷ EventPolicy i ∷ keys_of_events (i + 1) n) a.1 in
      let c = one (EventCapacity i) (EventPolicy i ∷ keys_of_events (i + 1) n) b.1 in
      let d = one (EventPolicy i) (keys_of_events (i + 1) n) c.1 in
      All-cons IsEvent (event_at tree i) (events_from tree (i + 1) n) (
        whole_in (EventCapacity i) 1 1024 (found tree (EventCapacity i)) c.0,
        text_in (EventName i) is_event_name (found tree (EventName i)) b.0,
      )
      (events_in (i + 1) n d.1)

  -- the ranges of what a header takes from a tree
  pub record AreGood : Type 0 where
    pub cycle_time : IsCycleTime (number_of (found tree CycleTime))
    pub few_params : length (params_of tree) ≤ 16
    pub few_events : length (events_of tree) ≤ 256
    pub events : All IsEvent (events_of tree)

  pub are_good : first_fault tree (keys tree) ≡ None → AreGood
  are_good e =
      let job = one Job (CycleTime ∷ Workers ∷ (params_keys tree ++ (events_keys tree ++ last_keys))) e in
      let time = one CycleTime (Workers ∷ (params_keys tree ++ (events_keys tree ++ last_keys))) job.1 in
      let workers = one Workers (params_keys tree ++ (events_keys tree ++ last_keys)) time.1 in
      let params = first_part (params_keys tree) (events_keys tree ++ last_keys) workers.1 in
      let events = first_part (events_keys tree) last_keys params.1 in
      let some_params = one Params _ params.0 in
      let some_events = one Event _ events.0 in
      let in_time = whole_in CycleTime 1 (2 ^ 63 - 1) (found tree CycleTime) time.0 in
      let few_params = array_in Params 16 (found tree Params) some_params.0 in
      let few_events = array_in Event 256 (found tree Event) some_events.0 in
      record {
        cycle_time = (in_time.0, omega (arith, in_time.1));
        few_params = omega (arith, length-params 0 (count_of (found tree Params)), few_params);
        few_events = omega (arith, length-events 0 (count_of (found tree Event)), few_events);
        events = events_in 0 (count_of (found tree Event)) some_events.1;
      }
