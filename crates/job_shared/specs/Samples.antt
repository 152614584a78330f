-- The newest samples of events.
use Rattle.std.specs.Prelude.{◌≡◌, ℕ, ℤ, ◌-◌, List, [], length, map, Option, None, Some, slice_get}
use Rattle.std.specs.Prelude.{slice_index_or}
use Rattle.std.specs.List.{All}
use Rattle.det_values.specs.Limits.{IsSampleValue}

-- the newest sample in a window: its last one, or none if it is empty
abbrev pub newest_in : List ℤ → Option ℤ
newest_in window = slice_get window (length window - 1)

-- the newest sample of an event; none if its window is empty or there is no such event
abbrev pub newest_sample : List (List ℤ) → ℕ → Option ℤ
newest_sample windows event = newest_in (slice_index_or windows event [])

-- the newest sample of each event
abbrev pub all_newest : List (List ℤ) → List (Option ℤ)
all_newest windows = map newest_in windows

-- the sample of an event among these; none if there is no such event
abbrev pub sample_of : List (Option ℤ) → ℕ → Option ℤ
sample_of samples event = slice_index_or samples event None

-- absent, or a value that a sample may have
abbrev pub IsSample : Option ℤ → Type 0
IsSample None = Unit {0}
IsSample (Some v) = IsSampleValue v

-- one for each of `events` events
pub record AreSamples (events : ℕ) (samples : List (Option ℤ)) : Type 0 where
  pub count : length samples ≡ events
  pub values : All IsSample samples
