-- The profile of a manifest.
use Rattle.std.specs.Prelude.{ℕ}
use Rattle.det_values.specs.Jobs.{number_of_kind}
use Rattle.det_values.specs.Values.{ProfileValue}
use Rattle.det_values.specs.declared.format.Format.TheVariants.{Two}
use Rattle.manifest.specs.Values.{ManifestValue}

abbrev pub profile_of : ManifestValue → ℕ → ProfileValue
profile_of m seed = record {
  format = Two;
  job = number_of_kind m.kind;
  seed = seed;
  cycle_time = m.cycle_time;
  params = m.params;
  events = m.events;
}
