-- The manifest that a struct of C stands for.
use Rattle.std.specs.Prelude.{◌≡◌, ℕ, ◌<◌, ◌==◌, ◌⊎◌, List, length, map, take, Option, Some, None}
use Rattle.std.specs.Prelude.{Result, Ok, Err, if◌then◌else◌}
use Rattle.c_types.specs.CValues.{event_of}
use Rattle.c_types.specs.ManifestFaults.{needs_of, fault_of}
use Rattle.c_types.specs.declared.det_manifest.DetManifest.{DetManifest}
use Rattle.c_types.specs.declared.det_manifest.DetManifestFault.{DetManifestFault}
use Rattle.manifest.specs.Values.{NamedValue}
use Rattle.manifest.specs.declared.manifest_fault.ManifestFault.{ManifestFault}

-- the first bytes are a text, unless that has more than 64 bytes
abbrev pub HasText : ℕ → List ℕ → List ℕ → Type 0
HasText len bytes text =
    ((len ≡ length text) × (take len bytes ≡ text)) ⊎ ((len ≡ 65) × (64 < length text))

-- the first bytes are a name, if there are some
abbrev pub platform_in : ℕ → List ℕ → Option (List ℕ)
platform_in len bytes = if len == 0 then None else Some (take len bytes)

pub record StandsFor (m : DetManifest) (meant : NamedValue) : Type 0 where
  pub job : HasText m.job_len m.job meant.job
  pub cycle_time : m.cycle_time ≡ meant.cycle_time
  pub workers : m.workers ≡ meant.workers
  pub params : take m.param_count m.params ≡ meant.params
  pub events : map event_of (take m.event_count m.events) ≡ meant.events
  pub platform : platform_in m.platform_len m.platform ≡ meant.platform
  pub init_needs : needs_of m.init_needs ≡ meant.init_needs
  pub run_needs : needs_of m.run_needs ≡ meant.run_needs

-- a text means the manifest of this struct
abbrev pub IsManifest : DetManifest → Result NamedValue ManifestFault → Type 0
IsManifest m (Ok meant) = StandsFor m meant
IsManifest m (Err fault) = ⊥

-- a text has the fault of this struct
abbrev pub IsFault : DetManifestFault → Result NamedValue ManifestFault → Type 0
IsFault f (Ok meant) = ⊥
IsFault f (Err fault) = fault_of f ≡ Some fault
