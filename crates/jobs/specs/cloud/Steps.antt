-- Random steps inside a circle, by rejection: tries are drawn from the square around it until one
-- lands inside.
use Rattle.std.specs.Prelude.{ℕ, ℤ, zero, suc, pos, ◌+◌, ◌*◌, ◌%◌, ◌≤◌, ◌+ℤ◌, ◌-ℤ◌, ◌*ℤ◌, Bool}
use Rattle.std.specs.Prelude.{Option, None, Some, if◌then◌else◌, int_le, unsigned_abs}
use Rattle.det_client.specs.element_random.RandomStreams.{word}
use Rattle.jobs.specs.declared.cloud.steps.Step.{Step}

-- a number from -spread to spread, from a random number of 64 bits
abbrev pub offset : ℕ → ℕ → ℤ
offset spread w = pos (w % (2 * spread + 1)) -ℤ pos spread

-- the try that begins with the random number of index n of a key
abbrev pub try_of : ℕ → ℕ → ℕ → Step
try_of spread key n = record {
  dx = offset spread (word key n);
  dy = offset spread (word key (n + 1));
}

-- a step ends inside the circle
abbrev pub lands : ℕ → Step → Bool
lands spread s = int_le (s.dx *ℤ s.dx +ℤ s.dy *ℤ s.dy) (pos spread *ℤ pos spread)

-- the first try that lands among `tries` tries from number i on; none if none lands
unfoldable pub landing_from : ℕ → ℕ → ℕ → ℕ → Option ℕ
landing_from spread key i zero = None
landing_from spread key i (suc tries) =
    if lands spread (try_of spread key (2 * i)) then Some i
    else landing_from spread key (i + 1) tries

-- the first of 8 tries that lands
abbrev pub landing : ℕ → ℕ → Option ℕ
landing spread key = landing_from spread key 0 8

-- the try that landed, or no step
abbrev pub step_of : ℕ → ℕ → Option ℕ → Step
step_of spread key None = record { dx = pos 0; dy = pos 0 }
step_of spread key (Some i) = try_of spread key (2 * i)

-- two random numbers for each try up to the one that landed, or for all 8
abbrev pub words_drawn : Option ℕ → ℕ
words_drawn None = 16
words_drawn (Some i) = 2 * i + 2

-- no step is longer than the greatest spread
pub record IsStep (s : Step) : Type 0 where
  pub dx : unsigned_abs s.dx ≤ 1000000
  pub dy : unsigned_abs s.dy ≤ 1000000
