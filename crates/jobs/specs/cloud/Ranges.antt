-- The cloud's own particles, its fit plans, and the particles that a part covers.
use Rattle.std.specs.Prelude.{ℕ, ℤ, ◌<◌, ◌≤◌, Option}
use Rattle.det_values.specs.Limits.{IsSampleValue}
use Rattle.job_shared.specs.Parts.{covers_by}
use Rattle.jobs.specs.declared.cloud.cloud.Cloud.{Cloud}
use Rattle.jobs.specs.declared.cloud.particle.Particle.{Particle}
use Rattle.jobs.specs.declared.cloud.particle.Target.{Target}
use Rattle.jobs.specs.declared.cloud.best.Best.{Best}

-- coordinates from -10^12 to 10^12
pub record IsPlace (x y : ℤ) : Type 0 where
  pub x_range : IsSampleValue x
  pub y_range : IsSampleValue y

pub record Own (j : Cloud) (e : Particle) : Type 0 where
  pub number : e.number < j.particles
  pub place : IsPlace e.x e.y

abbrev pub Fit : Cloud → Target → Type 0
Fit j plan = IsPlace plan.tx plan.ty

-- a best particle may be that of n, at least one
pub record IsBestOf (b : Best) (n : ℕ) : Type 0 where
  pub some : 1 ≤ n
  pub few : n ≤ 65536
  pub near : b.distance ≤ 4000000000000
  pub place : IsPlace b.x b.y

abbrev pub Covers : Cloud → Option Best → ℕ → Type 0
Covers j part n = covers_by IsBestOf part n
