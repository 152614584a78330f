-- The range of samples that a guard's channels accept.
use Rattle.std.specs.Prelude.{ℤ, Bool, ◌&&◌, int_le}
use Rattle.jobs.specs.declared.guard.bounds.Bounds.{Bounds}

abbrev pub contains : Bounds → ℤ → Bool
contains b value = int_le b.low value && int_le value b.high
