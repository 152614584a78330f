-- The ranges of the values in a manifest.
use Rattle.std.specs.Prelude.{◌≡◌, ℕ, ◌^◌, ◌<◌, ◌≤◌, true, Bool, ◌&&◌, ◌||◌, nat_le, List, length}
use Rattle.std.specs.Prelude.{codes, bytes_eq}
use Rattle.std.specs.List.{list_all}
use Rattle.det_values.specs.Limits.{IsCapacity, is_event_name}
use Rattle.det_values.specs.Values.{EventSpecValue}
use Rattle.manifest.specs.declared.needs.Needs.{Needs}

-- from the blank to `~`
abbrev pub is_printable : ℕ → Bool
is_printable b = nat_le 0x20 b && nat_le b 0x7e

-- 1 to 64 such bytes
abbrev pub is_platform_name : List ℕ → Bool
is_platform_name bytes =
    (nat_le 1 (length bytes) && nat_le (length bytes) 64) && list_all is_printable bytes

abbrev pub is_policy : List ℕ → Bool
is_policy word = bytes_eq word (codes "last") || bytes_eq word (codes "fresh")

abbrev pub IsWorkers : ℕ → Type 0
IsWorkers n = (1 ≤ n) × (n ≤ 64)

-- what holds of the events of a profile: a capacity from 1 to 1,024 samples, and a name
abbrev pub IsEvent : EventSpecValue → Type 0
IsEvent e = IsCapacity e.capacity × (is_event_name e.name ≡ true)

-- the speedup is in thousandths
abbrev pub IsNeeds : Needs → Type 0
IsNeeds n =
    (n.instructions < 2 ^ 63) × (n.sequential_begin < 2 ^ 63) × (n.sequential_end < 2 ^ 63)
    × (1 ≤ n.speedup) × (n.speedup ≤ 1000000)
