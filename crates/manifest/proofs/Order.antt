-- The first fault by the groups of keys.
use Rattle.std.proofs.Common.{◌≡◌, ◌∙◌, ◌++◌, ap}
use Rattle.std.specs.Prelude.{Option, Some, None, Result, Err}
use Rattle.std.specs.Option.{option_or, option_map_or}
use Rattle.toml.specs.Data.{Data}
use Rattle.manifest.specs.Keys.{keys, needs_keys}
use Rattle.manifest.specs.Groups.{first_keys, params_keys, events_keys, last_keys}
use Rattle.manifest.specs.Faults.{first_fault, fault_at}
use Rattle.manifest.specs.KeyReaders.{IsRead, Agrees}
use Rattle.manifest.specs.Values.{NamedValue}
use Rattle.manifest.specs.declared.manifest_fault.ManifestError.{ManifestError}
use Rattle.manifest.specs.declared.manifest_fault.ManifestError.TheVariants.{Fault, OutOfMemory}
use Rattle.manifest.specs.declared.manifest_fault.ManifestFault.{ManifestFault}
use Rattle.manifest.specs.declared.key.Key.TheVariants.{Platform, InitNeeds, InitNeed, RunNeeds, RunNeed}
use Rattle.manifest.proofs.Steps.{first_append}

-- a fault if there is one, otherwise the result
abbrev pub or_fault : {M : Type 0} → Option ManifestFault → Result M ManifestFault → Result M ManifestFault
or_fault fault answer = option_map_or Err fault answer

pub last_fault : (tree : Data) → first_fault tree last_keys
    ≡ option_or (fault_at tree Platform)
    (option_or (first_fault tree (needs_keys InitNeeds InitNeed)) (first_fault tree (needs_keys RunNeeds RunNeed)))
last_fault tree =
    ap (option_or (fault_at tree Platform)) (first_append tree (needs_keys InitNeeds InitNeed) (needs_keys RunNeeds RunNeed))

-- the first of two faults, where it is there and where it isn't
first_of : (f : ManifestFault) (a more : Option ManifestFault) → a ≡ Some f → option_or a more ≡ Some f
first_of f a more is = rw is

past : (o : Option ManifestFault) (a more : Option ManifestFault) → a ≡ None → more ≡ o → option_or a more ≡ o
past o a more none is = rw none is

-- What a tree means: the fault of the first group of keys that has one, or else `rest`.
module _ (tree : Data) (rest : Result NamedValue ManifestFault) where
  groups : first_fault tree (keys tree)
      ≡ option_or (first_fault tree first_keys) (option_or (first_fault tree (params_keys tree))
      (option_or (first_fault tree (events_keys tree)) (first_fault tree last_keys)))
  groups =
      first_append tree first_keys (params_keys tree ++ (events_keys tree ++ last_keys))
      ∙ ap (option_or (first_fault tree first_keys))
      (first_append tree (params_keys tree) (events_keys tree ++ last_keys)
      ∙ ap (option_or (first_fault tree (params_keys tree))) (first_append tree (events_keys tree) last_keys))

  by : (o : Option ManifestFault) → option_or (first_fault tree first_keys) (option_or (first_fault tree (params_keys tree))
      (option_or (first_fault tree (events_keys tree)) (first_fault tree last_keys))) ≡ o
      → or_fault (first_fault tree (keys tree)) rest ≡ or_fault o rest
  by o is = ap (λ (first : Option ManifestFault). or_fault first rest) (groups ∙ is)

  pub at_work : (f : ManifestFault) → first_fault tree first_keys ≡ Some f → or_fault (first_fault tree (keys tree)) rest ≡ Err f
  at_work f work = by (Some f) (first_of f (first_fault tree first_keys) _ work)

  module _ (work : first_fault tree first_keys ≡ None) where
    pub at_params : (f : ManifestFault) → first_fault tree (params_keys tree) ≡ Some f
        → or_fault (first_fault tree (keys tree)) rest ≡ Err f
    at_params f params =
        by (Some f) (past (Some f) (first_fault tree first_keys) _ work (first_of f (first_fault tree (params_keys tree)) _ params))

    module _ (params : first_fault tree (params_keys tree) ≡ None) where
      pub at_events : (f : ManifestFault) → first_fault tree (events_keys tree) ≡ Some f
          → or_fault (first_fault tree (keys tree)) rest ≡ Err f
      at_events f events =
          by (Some f) (past (Some f) (first_fault tree first_keys) _ work (past (Some f) (first_fault tree (params_keys tree)) _ params
          (first_of f (first_fault tree (events_keys tree)) _ events)))

      module _ (events : first_fault tree (events_keys tree) ≡ None) where
        past_events : (o : Option ManifestFault) → first_fault tree last_keys ≡ o
            → or_fault (first_fault tree (keys tree)) rest ≡ or_fault o rest
        past_events o last =
            by o (past o (first_fault tree first_keys) _ work (past o (first_fault tree (params_keys tree)) _ params
            (past o (first_fault tree (events_keys tree)) _ events last)))

        pub at_hardware : (f : ManifestFault) → first_fault tree last_keys ≡ Some f
            → or_fault (first_fault tree (keys tree)) rest ≡ Err f
        at_hardware f last = past_events (Some f) last

        pub past_keys : first_fault tree last_keys ≡ None → or_fault (first_fault tree (keys tree)) rest ≡ rest
        past_keys last = past_events None last

-- a result that was read from a group agrees with what the tree means, if that has the group's
-- fault
pub agrees-read : {A : Type 0} (e : ManifestError) (fault : Option ManifestFault) (x : A) (meant : Result NamedValue ManifestFault)
    → IsRead {T = A} (Err e) fault x → ((f : ManifestFault) → fault ≡ Some f → meant ≡ Err f)
    → Agrees {T = NamedValue} (Err e) meant
agrees-read (Fault f) fault x meant read at = at f read
agrees-read OutOfMemory fault x meant read at = tt
