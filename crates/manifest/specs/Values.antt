-- What contracts see of a manifest: its content, without the ranges.
use Rattle.std.specs.Prelude.{ℕ, ℤ, List, Option}
use Rattle.det_values.specs.Values.{EventSpecValue}
use Rattle.det_values.specs.declared.job_kind.JobKind.{JobKind}
use Rattle.manifest.specs.declared.needs.Needs.{Needs}

pub record ManifestValue : Type 0 where
  pub kind : JobKind
  pub cycle_time : ℕ
  pub workers : ℕ
  pub params : List ℤ
  pub events : List EventSpecValue
  pub platform : Option (List ℕ)
  pub init_needs : Option Needs
  pub run_needs : Option Needs

-- the content of a manifest whose job is a name, which may be no job's
pub record NamedValue : Type 0 where
  pub job : List ℕ
  pub cycle_time : ℕ
  pub workers : ℕ
  pub params : List ℤ
  pub events : List EventSpecValue
  pub platform : Option (List ℕ)
  pub init_needs : Option Needs
  pub run_needs : Option Needs

-- the content for the job of its name
abbrev pub with_kind : NamedValue → JobKind → ManifestValue
with_kind m kind = record {
  kind = kind;
  cycle_time = m.cycle_time;
  workers = m.workers;
  params = m.params;
  events = m.events;
  platform = m.platform;
  init_needs = m.init_needs;
  run_needs = m.run_needs;
}
