-- The results of the readers: of single keys, of groups of keys and of the whole.
use Rattle.std.specs.Prelude.{◌≡◌, Option, Some, None, Result, Ok, Err, option_map, List, ℕ}
use Rattle.std.specs.Prelude.{Bool, ◌||◌, ◌-◌, ◌^◌, ◌++◌, length, drop, replicate, bytes_eq, codes}
use Rattle.std.specs.Borrow.{Bor}
use Rattle.toml.specs.Data.{Data}
use Rattle.toml.specs.View.{view}
use Rattle.toml.specs.declared.value.Value.{Value}
use Rattle.manifest.specs.Meaning.{named_manifest_of, named_in}
use Rattle.manifest.specs.declared.key.Key.{Key}
use Rattle.manifest.specs.declared.key.Key.TheVariants.{InitNeeds, InitNeed, RunNeeds, RunNeed}
use Rattle.manifest.specs.declared.key.NeedKey.{NeedKey}
use Rattle.manifest.specs.declared.key.NeedKey.TheVariants.{Speedup}
use Rattle.manifest.specs.declared.stage.Stage.{Stage}
use Rattle.manifest.specs.declared.stage.Stage.TheVariants.{Init, Run}
use Rattle.manifest.specs.declared.manifest_fault.ManifestFault.{ManifestFault}
use Rattle.manifest.specs.declared.manifest_fault.ManifestFault.TheVariants.{NotToml}
use Rattle.manifest.specs.declared.manifest_fault.ManifestError.{ManifestError}
use Rattle.manifest.specs.declared.manifest_fault.ManifestError.TheVariants.{Fault, OutOfMemory}

-- what a look-up found, as data
abbrev pub seen : Option (Bor Value) → Option Data
seen found = option_map (λ v. view v.now) found

abbrev pub section_key : Stage → Key
section_key Init = InitNeeds
section_key Run = RunNeeds

abbrev pub need_key : Stage → NeedKey → Key
need_key Init need = InitNeed need
need_key Run need = RunNeed need

-- the least and the greatest number at a key of a table of needs
abbrev pub need_least : NeedKey → ℕ
need_least Speedup = 1
need_least _ = 0

abbrev pub need_most : NeedKey → ℕ
need_most Speedup = 1000000
need_most _ = 2 ^ 63 - 1

-- the names of the keys that a table knows, level by level
abbrev pub is_top_word : List ℕ → Bool
is_top_word key =
    bytes_eq key (codes "job") || bytes_eq key (codes "cycle_time_ns")
    || bytes_eq key (codes "workers") || bytes_eq key (codes "params")
    || bytes_eq key (codes "event") || bytes_eq key (codes "platform")
    || bytes_eq key (codes "init_needs") || bytes_eq key (codes "run_needs")

abbrev pub is_event_word : List ℕ → Bool
is_event_word key =
    bytes_eq key (codes "name") || bytes_eq key (codes "capacity") || bytes_eq key (codes "policy")

abbrev pub is_need_word : List ℕ → Bool
is_need_word key =
    bytes_eq key (codes "instructions") || bytes_eq key (codes "sequential_begin")
    || bytes_eq key (codes "sequential_end") || bytes_eq key (codes "speedup_thousandths")

-- these bytes, and then zeros, 64 in all
abbrev pub with_zeros : List ℕ → List ℕ
with_zeros bytes = bytes ++ drop (length bytes) (replicate 64 0)

-- the result is this fault, or there is no fault and the result is the value that is meant
abbrev pub IsJudged : {T : Type 0} → Result T ManifestFault → Option ManifestFault → T → Type 0
IsJudged (Ok x) fault meant = (fault ≡ None) × (x ≡ meant)
IsJudged (Err f) fault meant = fault ≡ Some f

-- the same, unless memory ran out
abbrev pub IsRead : {T : Type 0} → Result T ManifestError → Option ManifestFault → T → Type 0
IsRead (Ok x) fault meant = (fault ≡ None) × (x ≡ meant)
IsRead (Err (Fault f)) fault meant = fault ≡ Some f
IsRead (Err OutOfMemory) fault meant = Unit {0}

-- the result is the one that is meant, unless memory ran out
abbrev pub Agrees : {T : Type 0} → Result T ManifestError → Result T ManifestFault → Type 0
Agrees (Ok x) meant = meant ≡ Ok x
Agrees (Err (Fault fault)) meant = meant ≡ Err fault
Agrees (Err OutOfMemory) meant = Unit {0}

-- the tree is that of a text, to be read strictly or not
abbrev pub IsDocument : Result Value ManifestError → List ℕ → Type 0
IsDocument (Ok v) bytes = (strict : Bool) → named_manifest_of strict bytes ≡ named_in strict (view v)
IsDocument (Err (Fault fault)) bytes = (strict : Bool) → named_manifest_of strict bytes ≡ Err fault
IsDocument (Err OutOfMemory) bytes = Unit {0}

-- the value is the document of a text, unless memory ran out
abbrev pub IsParsed : Result Value ManifestError → Option Data → Type 0
IsParsed (Ok v) document = document ≡ Some (view v)
IsParsed (Err (Fault fault)) document = (fault ≡ NotToml) × (document ≡ None)
IsParsed (Err OutOfMemory) document = Unit {0}
