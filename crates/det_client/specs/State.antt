-- The state of a client.
use Rattle.std.specs.Prelude.{◌≡◌, ℕ, ◌+◌, ◌-◌, ◌^◌, Option, None, Some, if◌then◌else◌, nat_le}
use Rattle.det_client.specs.element_random.RandomStreams.{StreamState, StandsFor, key, state_at}
use Rattle.det_client.specs.declared.activation.Activation.{Activation}

-- the last activation, the time of the cycle that it began, the number of that cycle, and the own
-- stream
pub record State : Type 0 where
  pub cycle_time : ℕ
  pub last : Option Activation
  pub time : Option ℕ
  pub seed : ℕ
  pub cycle : ℕ
  pub own : StreamState

-- a time plus the cycle time, if the time is known and the sum fits in a u64
abbrev pub next_time : ℕ → Option ℕ → Option ℕ
next_time cycle_time None = None
next_time cycle_time (Some t) =
    if nat_le (t + cycle_time) (2 ^ 64 - 1) then Some (t + cycle_time) else None

-- the stream of a key at its beginning
abbrev pub beginning : ℕ → StreamState
beginning k = record { state = state_at k 0; draws = 0 }

-- the own stream in a cycle under a seed, which is at its beginning before a number is drawn
abbrev pub own_place : Option StreamState → ℕ → ℕ → StreamState
own_place None seed cycle = beginning (key seed cycle 255 0)
own_place (Some place) seed cycle = place

-- the key of a client's own stream
abbrev pub own_key : State → ℕ
own_key c = key c.seed c.cycle 255 0

-- `drawn` numbers of the own stream were drawn
abbrev pub OwnAt : State → ℕ → Type 0
OwnAt c drawn = StandsFor c.own (own_key c) drawn

-- only the seed and the own stream may differ
pub record SameButSeed (before after : State) : Type 0 where
  pub cycle_time : after.cycle_time ≡ before.cycle_time
  pub last : after.last ≡ before.last
  pub time : after.time ≡ before.time
  pub cycle : after.cycle ≡ before.cycle
