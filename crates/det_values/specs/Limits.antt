-- The ranges of the values that clients exchange and that records hold.
use Rattle.std.specs.Prelude.{◌≡◌, ℕ, ℤ, ◌^◌, ◌<◌, ◌≤◌, ◌≤ℤ◌, pos, negsuc, Bool, ◌&&◌, ◌||◌, ◌==◌}
use Rattle.std.specs.Prelude.{nat_le, List, length}
use Rattle.std.specs.List.{list_all, All}
use Rattle.det_values.specs.declared.format.Format.{Format}
use Rattle.det_values.specs.declared.format.Format.TheVariants as formats
use Rattle.det_values.specs.declared.event.Policy.TheVariants as policies
use Rattle.det_values.specs.declared.refused_at.Phase.{Phase}
use Rattle.det_values.specs.declared.refused_at.Phase.TheVariants as phases
use Rattle.det_values.specs.Values.{EventSpecValue}

-- from -10^12 to 10^12
abbrev pub IsSampleValue : ℤ → Type 0
IsSampleValue v = (negsuc 999999999999 ≤ℤ v) × (v ≤ℤ pos 1000000000000)

-- 1 to 1,024 samples
abbrev pub IsCapacity : ℕ → Type 0
IsCapacity n = (1 ≤ n) × (n ≤ 1024)

-- in nanoseconds, 1 to 2^63 - 1
abbrev pub IsCycleTime : ℕ → Type 0
IsCycleTime t = (1 ≤ t) × (t < 2 ^ 63)

-- `a` to `z`, `0` to `9`, `_`
abbrev pub allowed_in_name : ℕ → Bool
allowed_in_name b = ((nat_le 97 b && nat_le b 122) || (nat_le 48 b && nat_le b 57)) || b == 95

-- 1 to 32 bytes that a name may have
abbrev pub is_event_name : List ℕ → Bool
is_event_name bytes = (nat_le 1 (length bytes) && nat_le (length bytes) 32)
    && list_all allowed_in_name bytes

-- in the pool a pass below 8 and an element below 65,536; elsewhere both are 0
abbrev pub IsPlace : Phase → ℕ → ℕ → Type 0
IsPlace phases.Prepare pass element = (pass ≤ 0) × (element ≤ 0)
IsPlace phases.Pool pass element = (pass < 8) × (element < 65536)
IsPlace phases.Conclude pass element = (pass ≤ 0) × (element ≤ 0)

-- format One has only the policy Last
abbrev pub KnowsPolicies : Format → List EventSpecValue → Type 0
KnowsPolicies formats.One events = All (λ e. e.policy ≡ policies.Last) events
KnowsPolicies formats.Two events = Unit {0}
