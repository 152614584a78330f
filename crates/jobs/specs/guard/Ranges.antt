-- The guard's own channels, its fit plans, and the channels that a part covers.
use Rattle.std.specs.Prelude.{◌≡◌, ℕ, ◌<◌, ◌≤◌, List, length}
use Rattle.det_values.specs.Limits.{IsSampleValue}
use Rattle.job_shared.specs.Samples.{AreSamples}
use Rattle.jobs.specs.declared.guard.guard.Guard.{Guard}
use Rattle.jobs.specs.declared.guard.channel.Channel.{Channel}
use Rattle.jobs.specs.declared.guard.guard_job.Plan.{Plan}
use Rattle.jobs.specs.guard.Meaning.{event_of}

pub record Own (j : Guard) (e : Channel) : Type 0 where
  pub number : e.number < j.channels
  pub event : e.event ≡ event_of j e.number
  pub held : IsSampleValue e.held
  pub streak : e.streak < j.limit

abbrev pub Fit : Guard → Plan → Type 0
Fit j plan = AreSamples j.events plan.samples

-- a list of corrections may come from n channels
pub record IsPartOf (part : List ℕ) (n : ℕ) : Type 0 where
  pub most : length part ≤ n
  pub few : n ≤ 65536

abbrev pub Covers : Guard → List ℕ → ℕ → Type 0
Covers j part n = IsPartOf part n
