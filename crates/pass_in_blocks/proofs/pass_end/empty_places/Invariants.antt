use Rattle.std.proofs.Common.{◌≡◌, ◌≤◌, ◌-◌, None, length, replicate, vec_len}
use Rattle.pass_in_blocks.proofs.pass_end.empty_places.Given as goal

abbrev pub invariant-fill : goal.invariant-fill
invariant-fill g l = (l.places.items ≡ replicate (length l.places.items) None) × (length l.places.items ≤ l.count)

abbrev pub decreases-fill : goal.decreases-fill
decreases-fill g l = l.count - vec_len l.places
