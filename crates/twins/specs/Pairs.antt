-- Lists that are related place by place.
use Rattle.std.specs.Prelude.{◌≡◌, ℕ, ◌<◌, List, length, slice_index_or}

-- two lists of the same length, related place by place
pub record EachPair {X Y : Type 0} (R : X → Y → Type 0) (xs : List X) (ys : List Y) : Type 0 where
  pub count : length xs ≡ length ys
  pub each : (k : ℕ) (x : X) (y : Y) → k < length ys
      → R (slice_index_or xs k x) (slice_index_or ys k y)
