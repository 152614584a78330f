-- The manifest that a text means.
use Rattle.std.specs.Prelude.{ℕ, ℤ, nat_le, not, Bool, List, map, length, Option, Some, None}
use Rattle.std.specs.Prelude.{option_map, Result, Ok, Err, ok_or, if◌then◌else◌, codes, bytes_eq}
use Rattle.std.specs.Option.{option_map_or}
use Rattle.std.specs.Str.{is_utf8}
use Rattle.det_values.specs.Jobs.{kind_of_name}
use Rattle.det_values.specs.Values.{EventSpecValue}
use Rattle.det_values.specs.declared.event.Policy.{Policy}
use Rattle.det_values.specs.declared.event.Policy.TheVariants.{Last, Fresh}
use Rattle.det_values.specs.declared.job_kind.JobKind.{JobKind}
use Rattle.toml.specs.Data.{Data, table}
use Rattle.toml.specs.Parse.{parse_document}
use Rattle.manifest.specs.Tree.{count_of, whole_of, number_of, text_of}
use Rattle.manifest.specs.Keys.{found, keys, items_of}
use Rattle.manifest.specs.Faults.{first_fault, first_duplicate}
use Rattle.manifest.specs.Unknown.{first_unknown}
use Rattle.manifest.specs.Values.{ManifestValue, NamedValue, with_kind}
use Rattle.manifest.specs.declared.key.NeedKey.{NeedKey}
use Rattle.manifest.specs.declared.key.NeedKey.TheVariants.{Instructions, SequentialBegin}
use Rattle.manifest.specs.declared.key.NeedKey.TheVariants.{SequentialEnd, Speedup}
use Rattle.manifest.specs.declared.key.Key.{Key}
use Rattle.manifest.specs.declared.key.Key.TheVariants.{Job, CycleTime, Workers, Params, Param}
use Rattle.manifest.specs.declared.key.Key.TheVariants.{Event, EventName, EventCapacity}
use Rattle.manifest.specs.declared.key.Key.TheVariants.{EventPolicy, Platform, InitNeeds, InitNeed}
use Rattle.manifest.specs.declared.key.Key.TheVariants.{RunNeeds, RunNeed}
use Rattle.manifest.specs.declared.manifest_fault.ManifestFault.{ManifestFault}
use Rattle.manifest.specs.declared.manifest_fault.ManifestFault.TheVariants.{TooLong, NotToml}
use Rattle.manifest.specs.declared.manifest_fault.ManifestFault.TheVariants.{UnknownKey}
use Rattle.manifest.specs.declared.manifest_fault.ManifestFault.TheVariants.{DuplicateEvent}
use Rattle.manifest.specs.declared.manifest_fault.ManifestFault.TheVariants.{UnknownJob}
use Rattle.manifest.specs.declared.manifest_fault.ManifestError.{ManifestError}
use Rattle.manifest.specs.declared.manifest_fault.ManifestError.TheVariants.{Fault, OutOfMemory}
use Rattle.manifest.specs.declared.needs.Needs.{Needs}

-- none if the key is absent
abbrev pub params_of : Data → List ℤ
params_of tree = map (λ i. whole_of (found tree (Param i))) (items_of tree Params)

-- a policy is `last` unless the manifest says `fresh`
abbrev pub policy_of : List ℕ → Policy
policy_of word = if bytes_eq word (codes "fresh") then Fresh else Last

abbrev pub event_at : Data → ℕ → EventSpecValue
event_at tree i = record {
  capacity = number_of (found tree (EventCapacity i));
  name = text_of (found tree (EventName i));
  policy = policy_of (text_of (found tree (EventPolicy i)));
}

abbrev pub events_of : Data → List EventSpecValue
events_of tree = map (event_at tree) (items_of tree Event)

-- none exactly if the key of the table is absent
abbrev pub needs_of : Data → Key → (NeedKey → Key) → Option Needs
needs_of tree needs need = option_map (λ _. record {
  instructions = number_of (found tree (need Instructions));
  sequential_begin = number_of (found tree (need SequentialBegin));
  sequential_end = number_of (found tree (need SequentialEnd));
  speedup = number_of (found tree (need Speedup));
}) (found tree needs)

-- the content of a tree without a fault, for a job; no platform exactly if its key is absent
abbrev pub tree_manifest : Data → JobKind → ManifestValue
tree_manifest tree kind = record {
  kind = kind;
  cycle_time = number_of (found tree CycleTime);
  workers = number_of (found tree Workers);
  params = params_of tree;
  events = events_of tree;
  platform = option_map (λ d. text_of (Some d)) (found tree Platform);
  init_needs = needs_of tree InitNeeds InitNeed;
  run_needs = needs_of tree RunNeeds RunNeed;
}

-- the first repeated name of an event is a fault, and after it an unknown name of the job
abbrev pub by_names : Data → Result ManifestValue ManifestFault
by_names tree =
    option_map_or Err (option_map DuplicateEvent (first_duplicate (events_of tree)))
    (ok_or (option_map (tree_manifest tree) (kind_of_name (text_of (found tree Job)))) UnknownJob)

-- the first unknown key, if such keys are a fault
abbrev pub unknown_fault : Bool → Data → Option ManifestFault
unknown_fault strict tree =
    if strict then option_map UnknownKey
    (first_unknown tree (count_of (found tree Event))) else None

-- first the keys of the tables, then unknown keys, then the names
abbrev pub manifest_in : (strict : Bool) → Data → Result ManifestValue ManifestFault
manifest_in strict tree =
    option_map_or Err (first_fault tree (keys tree))
    (option_map_or Err (unknown_fault strict tree) (by_names tree))

-- the tree of a document, none if the text isn't TOML
abbrev pub document_of : List ℕ → Option Data
document_of text = option_map table (parse_document text)

-- the manifest that a text means, or its first fault; strictly, an unknown key is one
abbrev pub manifest_of : (strict : Bool) → List ℕ → Result ManifestValue ManifestFault
manifest_of strict bytes =
    if not (nat_le (length bytes) 65536) then Err TooLong
    else if is_utf8 bytes then option_map_or (manifest_in strict) (document_of bytes) (Err NotToml)
    else Err NotToml

-- ---- the same up to the name of the job, which an application knows

-- the content of a tree without a fault; no platform exactly if its key is absent
abbrev pub named_tree : Data → NamedValue
named_tree tree = record {
  job = text_of (found tree Job);
  cycle_time = number_of (found tree CycleTime);
  workers = number_of (found tree Workers);
  params = params_of tree;
  events = events_of tree;
  platform = option_map (λ d. text_of (Some d)) (found tree Platform);
  init_needs = needs_of tree InitNeeds InitNeed;
  run_needs = needs_of tree RunNeeds RunNeed;
}

-- the first repeated name of an event is a fault
abbrev pub by_event_names : Data → Result NamedValue ManifestFault
by_event_names tree =
    option_map_or Err (option_map DuplicateEvent (first_duplicate (events_of tree)))
    (Ok (named_tree tree))

-- first the keys of the tables, then unknown keys, then the names of the events
abbrev pub named_in : (strict : Bool) → Data → Result NamedValue ManifestFault
named_in strict tree =
    option_map_or Err (first_fault tree (keys tree))
    (option_map_or Err (unknown_fault strict tree) (by_event_names tree))

abbrev pub named_manifest_of : (strict : Bool) → List ℕ → Result NamedValue ManifestFault
named_manifest_of strict bytes =
    if not (nat_le (length bytes) 65536) then Err TooLong
    else if is_utf8 bytes then option_map_or (named_in strict) (document_of bytes) (Err NotToml)
    else Err NotToml

-- last comes the name of the job
abbrev pub by_job : Result NamedValue ManifestFault → Result ManifestValue ManifestFault
by_job (Ok m) = ok_or (option_map (with_kind m) (kind_of_name m.job)) UnknownJob
by_job (Err fault) = Err fault

-- ---- want of memory

-- a fact of the fault of an error, and nothing if memory ran out
abbrev pub IfFault : ManifestError → (ManifestFault → Type 0) → Type 0
IfFault (Fault fault) P = P fault
IfFault OutOfMemory P = Unit {0}
