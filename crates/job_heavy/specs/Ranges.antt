-- The heavy job's own elements, its fit plans, and the elements that a part covers.
use Rattle.std.specs.Prelude.{◌≡◌, ℕ, ◌^◌, ◌<◌, ◌≤◌}
use Rattle.job_heavy.specs.declared.heavy.Heavy.{Heavy}
use Rattle.job_heavy.specs.declared.state.State.{State}
use Rattle.job_heavy.specs.declared.heavy_job.NoPlan.{NoPlan}

abbrev pub Own : Heavy → State → Type 0
Own j e = e.folded < 2 ^ 64

abbrev pub Fit : Heavy → NoPlan → Type 0
Fit j plan = Unit {0}

-- a count of n elements
pub record IsCountOf (count n : ℕ) : Type 0 where
  pub is : count ≡ n
  pub few : n ≤ 65536

abbrev pub Covers : Heavy → ℕ → ℕ → Type 0
Covers j part n = IsCountOf part n
