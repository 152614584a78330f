-- Natural parameters are in their ranges.
use Rattle.std.proofs.Common.{ℕ, ℤ, ◌≤◌, List, arith}
use Rattle.std.specs.Prelude.{unsigned_abs}
use Rattle.job_shared.specs.Params.{param, clamped, natural_param, few_events}

clamped_least : (low high n : ℕ) → low ≤ clamped low high n
clamped_least low high n = omega arith

clamped_most : (low high n : ℕ) → low ≤ high → clamped low high n ≤ high
clamped_most low high n h = omega arith

pub natural_least : (ps : List ℤ) (i low high : ℕ) → low ≤ natural_param ps i low high
natural_least ps i low high = clamped_least low high (unsigned_abs (param ps i))

pub natural_most : (ps : List ℤ) (i low high : ℕ) → low ≤ high → natural_param ps i low high ≤ high
natural_most ps i low high h = clamped_most low high (unsigned_abs (param ps i)) h

pub events_few : (n : ℕ) → few_events n ≤ 65535
events_few n = omega arith
