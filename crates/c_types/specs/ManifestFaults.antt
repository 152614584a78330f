-- The needs and the faults of a manifest that structs of C stand for, by C's numbers.
use Rattle.std.specs.Prelude.{ℕ, ◌==◌, Option, Some, None, if◌then◌else◌, option_map}
use Rattle.manifest.specs.declared.needs.Needs.{Needs}
use Rattle.manifest.specs.declared.key.NeedKey.TheVariants.{Instructions, SequentialBegin}
use Rattle.manifest.specs.declared.key.NeedKey.TheVariants.{SequentialEnd, Speedup}
use Rattle.manifest.specs.declared.key.Key.{Key}
use Rattle.manifest.specs.declared.key.Key.TheVariants as keys
use Rattle.manifest.specs.declared.unknown_key.KeyTable.{KeyTable}
use Rattle.manifest.specs.declared.unknown_key.KeyTable.TheVariants as tables
use Rattle.manifest.specs.declared.unknown_key.UnknownKey.{UnknownKey}
use Rattle.manifest.specs.declared.manifest_fault.ManifestFault.{ManifestFault}
use Rattle.manifest.specs.declared.manifest_fault.ManifestFault.TheVariants as faults
use Rattle.c_types.specs.declared.det_manifest.DetNeeds.{DetNeeds}
use Rattle.c_types.specs.declared.det_manifest.DetManifestFault.{DetManifestFault}

abbrev pub needs_in : DetNeeds → Needs
needs_in n = record {
  instructions = n.instructions;
  sequential_begin = n.sequential_begin;
  sequential_end = n.sequential_end;
  speedup = n.speedup;
}

abbrev pub needs_of : DetNeeds → Option Needs
needs_of n = if n.there then Some (needs_in n) else None

-- The key of a number, and the number of its event or parameter. A key of needs comes after that
-- of its table.
abbrev pub key_of : ℕ → ℕ → Option Key
key_of n item =
    if n == 1 then Some keys.Job
    else if n == 2 then Some keys.CycleTime
    else if n == 3 then Some keys.Workers
    else if n == 4 then Some keys.Params
    else if n == 5 then Some (keys.Param item)
    else if n == 6 then Some keys.Event
    else if n == 7 then Some (keys.EventItem item)
    else if n == 8 then Some (keys.EventName item)
    else if n == 9 then Some (keys.EventCapacity item)
    else if n == 10 then Some (keys.EventPolicy item)
    else if n == 11 then Some keys.Platform
    else if n == 12 then Some keys.InitNeeds
    else if n == 13 then Some (keys.InitNeed Instructions)
    else if n == 14 then Some (keys.InitNeed SequentialBegin)
    else if n == 15 then Some (keys.InitNeed SequentialEnd)
    else if n == 16 then Some (keys.InitNeed Speedup)
    else if n == 17 then Some keys.RunNeeds
    else if n == 18 then Some (keys.RunNeed Instructions)
    else if n == 19 then Some (keys.RunNeed SequentialBegin)
    else if n == 20 then Some (keys.RunNeed SequentialEnd)
    else if n == 21 then Some (keys.RunNeed Speedup)
    else None

-- the table of an unknown key: the top, or the table at a key
abbrev pub table_of : ℕ → ℕ → Option KeyTable
table_of n item =
    if n == 0 then Some tables.Top
    else if n == 7 then Some (tables.Event item)
    else if n == 12 then Some tables.InitNeeds
    else if n == 17 then Some tables.RunNeeds
    else None

abbrev pub unknown_key_of : DetManifestFault → Option UnknownKey
unknown_key_of f =
    option_map (λ table. record { table = table; bytes = f.text; len = f.text_len })
    (table_of f.key f.number)

-- the fault by its reason; 9 is none of the manifest's own
abbrev pub fault_of : DetManifestFault → Option ManifestFault
fault_of f =
    if f.reason == 1 then Some faults.TooLong
    else if f.reason == 2 then Some faults.NotToml
    else if f.reason == 3 then option_map faults.Missing (key_of f.key f.number)
    else if f.reason == 4 then option_map faults.WrongKind (key_of f.key f.number)
    else if f.reason == 5 then option_map faults.OutOfRange (key_of f.key f.number)
    else if f.reason == 6 then option_map faults.UnknownKey (unknown_key_of f)
    else if f.reason == 7 then Some (faults.DuplicateEvent f.number)
    else if f.reason == 8 then Some faults.UnknownJob
    else None
