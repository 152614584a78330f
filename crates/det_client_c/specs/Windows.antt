-- The window of one event in C's memory.
use Rattle.std.specs.Prelude.{ℕ, ◌*◌, ◌≤◌, ◌==◌, ℤ, List, [], ◌∷◌, length, take, drop}
use Rattle.std.specs.Prelude.{if◌then◌else◌}
use Rattle.det_values.specs.Limits.{IsCapacity}
use Rattle.det_values.specs.Values.{SampleValue, EventSpecValue}
use Rattle.det_values.specs.declared.event.Policy.{Policy}
use Rattle.det_values.specs.declared.event.Policy.TheVariants.{Last, Fresh}
use Rattle.job.specs.event_cache.Rings.{Rings}
use Rattle.job.specs.event_cache.Windows.{HasSeen}
use Rattle.det_client_c.specs.declared.window.DetWindow.{DetWindow}

-- the policy of a number
abbrev pub policy_of : ℕ → Policy
policy_of n = if n == 0 then Last else Fresh

-- the window that C keeps, and what arrived since the last turn
abbrev pub rings_of : DetWindow → List ℤ → Rings
rings_of w places = record {
  policy = policy_of w.policy;
  capacity = w.capacity;
  seen = take w.seen places;
  arriving = take w.arriving (drop w.capacity places);
}

-- the numbers of a window are in their ranges, and its values have room in this array
pub record FitsIn (places : List ℤ) (w : DetWindow) : Type 0 where
  pub capacity : IsCapacity w.capacity
  pub seen : w.seen ≤ w.capacity
  pub arriving : w.arriving ≤ w.capacity
  pub policy : w.policy ≤ 1
  pub room : 2 * w.capacity ≤ length places

-- A window of this event, whose number is 0, received the samples of these rounds, each before a
-- turn. Since the last turn it received the samples that arrived.
abbrev pub WasGiven : DetWindow → List ℤ → EventSpecValue → List (List SampleValue)
    → List SampleValue → Type 0
WasGiven w places spec rounds arrived = HasSeen (rings_of w places ∷ []) (spec ∷ []) rounds arrived
