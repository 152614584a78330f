use Rattle.std.proofs.Common.{◌≡◌, take, drop}
use Rattle.manifest.specs.Faults.{duplicate_after, first_duplicate}
use Rattle.manifest.proofs.events.duplicate_event.Given as goal

abbrev pub invariant-loop-i : goal.invariant-loop-i
invariant-loop-i l = first_duplicate l.events ≡ duplicate_after (take l.i l.events) l.i (drop l.i l.events)
