-- The values that the window of an event holds after some rounds of samples, by the event's policy.
-- A round is the samples that arrived before one turn.
use Rattle.std.specs.Prelude.{◌≡◌, ℕ, suc, ℤ, ◌==◌, List, [], ◌∷◌, ◌++◌, length, slice_index_or}
use Rattle.std.specs.Prelude.{if◌then◌else◌}
use Rattle.std.specs.List.{All}
use Rattle.circular_buffer.specs.Buffer.{keep_last}
use Rattle.det_values.specs.Limits.{IsSampleValue}
use Rattle.det_values.specs.Values.{SampleValue, EventSpecValue}
use Rattle.det_values.specs.declared.event.Policy.{Policy}
use Rattle.det_values.specs.declared.event.Policy.TheVariants.{Last, Fresh}
use Rattle.job.specs.event_cache.Rings.{Rings}

-- the values of one event, in order
unfoldable pub values_of : ℕ → List SampleValue → List ℤ
values_of event [] = []
values_of event (s ∷ ss) =
    if event == s.event then s.value ∷ values_of event ss else values_of event ss

-- the samples of all rounds, in order
unfoldable pub all_of : List (List SampleValue) → List SampleValue
all_of [] = []
all_of (round ∷ rounds) = round ++ all_of rounds

-- the samples of the last round, or none if there is no round
unfoldable pub last_of : List (List SampleValue) → List SampleValue
last_of [] = []
last_of (round ∷ []) = round
last_of (round ∷ next ∷ rounds) = last_of (next ∷ rounds)

-- the samples that a policy looks at: Last at all rounds, Fresh at the last one
abbrev pub looked_at : Policy → List (List SampleValue) → List SampleValue
looked_at Last rounds = all_of rounds
looked_at Fresh rounds = last_of rounds

-- the window of an event: the last values of it, as many as its capacity, among those that its
-- policy looks at
abbrev pub window : EventSpecValue → ℕ → List (List SampleValue) → List ℤ
window spec event rounds = keep_last spec.capacity (values_of event (looked_at spec.policy rounds))

-- the windows of these events, where the first event has this number
unfoldable pub windows_from : ℕ → List EventSpecValue → List (List SampleValue) → List (List ℤ)
windows_from event [] rounds = []
windows_from event (spec ∷ specs) rounds =
    window spec event rounds ∷ windows_from (suc event) specs rounds

-- the windows of a profile's events after these rounds
abbrev pub windows_after : List EventSpecValue → List (List SampleValue) → List (List ℤ)
windows_after specs rounds = windows_from 0 specs rounds

-- the window of one event among all; empty if there is no such event
abbrev pub window_of : List (List ℤ) → ℕ → List ℤ
window_of windows event = slice_index_or windows event []

-- the part of an old window that stays
abbrev pub staying : Policy → List ℤ → List ℤ
staying Last old = old
staying Fresh old = []

-- the window of an event after a further round: the last values of the old window's staying part
-- and then of the round
abbrev pub next_window : EventSpecValue → ℕ → List ℤ → List SampleValue → List ℤ
next_window spec event old round =
    keep_last spec.capacity (staying spec.policy old ++ values_of event round)

-- the windows of these events after a further round, where the first event has this number
unfoldable pub next_windows_from : ℕ → List EventSpecValue → List (List ℤ) → List SampleValue
    → List (List ℤ)
next_windows_from event [] olds round = []
next_windows_from event (spec ∷ specs) [] round = []
next_windows_from event (spec ∷ specs) (old ∷ olds) round =
    next_window spec event old round ∷ next_windows_from (suc event) specs olds round

-- the windows of a profile's events after a further round
abbrev pub next_windows : List EventSpecValue → List (List ℤ) → List SampleValue → List (List ℤ)
next_windows specs olds round = next_windows_from 0 specs olds round

-- the rings of these events, where the first event has this number
unfoldable pub rings_from : ℕ → List EventSpecValue → List (List SampleValue) → List SampleValue
    → List Rings
rings_from event [] rounds arrived = []
rings_from event (spec ∷ specs) rounds arrived =
    record {
      policy = spec.policy;
      capacity = spec.capacity;
      seen = window spec event rounds;
      arriving = keep_last spec.capacity (values_of event arrived);
    } ∷ rings_from (suc event) specs rounds arrived

-- A cache of these events got the samples of these rounds, each before a turn, and since then those
-- that arrived.
pub record HasSeen (cache : List Rings) (specs : List EventSpecValue)
    (rounds : List (List SampleValue)) (arrived : List SampleValue)
    : Type 0 where
  pub rings : cache ≡ rings_from 0 specs rounds arrived

-- `events` windows, all of whose values are values of samples
pub record AreWindows (events : ℕ) (windows : List (List ℤ)) : Type 0 where
  pub count : length windows ≡ events
  pub values : All (All IsSampleValue) windows
