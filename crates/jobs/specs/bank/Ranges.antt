-- The bank's own channels, its fit plans, and the channels that a part covers.
use Rattle.std.specs.Prelude.{ℕ, ℤ, pos, neg_ℤ, ◌*◌, ◌<◌, ◌≤◌, ◌≤ℤ◌, List, max, Option}
use Rattle.det_values.specs.Limits.{IsSampleValue}
use Rattle.job_shared.specs.Parts.{covers_by}
use Rattle.job_shared.specs.Samples.{AreSamples}
use Rattle.jobs.specs.declared.bank.bank.Bank.{Bank}
use Rattle.jobs.specs.declared.bank.channel.Channel.{Channel}
use Rattle.jobs.specs.declared.bank.summary.Summary.{Summary}

pub record Own (j : Bank) (e : Channel) : Type 0 where
  pub event : e.event < max 1 j.events
  pub level : IsSampleValue e.level

abbrev pub Fit : Bank → List (Option ℤ) → Type 0
Fit j plan = AreSamples j.events plan

-- a summary may come from n channels, at least one
pub record IsSummaryOf (s : Summary) (n : ℕ) : Type 0 where
  pub some : 1 ≤ n
  pub few : n ≤ 65536
  pub sum_least : neg_ℤ (pos (n * 1000000000000)) ≤ℤ s.sum
  pub sum_most : s.sum ≤ℤ pos (n * 1000000000000)
  pub least : IsSampleValue s.least
  pub greatest : IsSampleValue s.greatest

abbrev pub Covers : Bank → Option Summary → ℕ → Type 0
Covers j part n = covers_by IsSummaryOf part n
