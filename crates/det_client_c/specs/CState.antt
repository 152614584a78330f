-- The meaning of C's numbers.
use Rattle.std.specs.Prelude.{ℕ, ◌==◌, Option, None, Some, Bool, if◌then◌else◌}
use Rattle.det_client.specs.element_random.RandomStreams.{StreamState}
use Rattle.det_client.specs.declared.element_random.PassKeys.{PassKeys}
use Rattle.det_client.specs.State.{State}
use Rattle.det_client.specs.declared.activation.Activation.{Activation}
use Rattle.det_client.specs.declared.activation.Activation.TheVariants.{RegisterServices}
use Rattle.det_client.specs.declared.activation.Activation.TheVariants.{ServiceDiscovery, Init, Run}
use Rattle.det_client.specs.declared.activation.Activation.TheVariants.{Terminate}
use Rattle.det_client.specs.declared.activation.Next.{Next}
use Rattle.det_client.specs.declared.activation.Next.TheVariants.{Go, Stop}
use Rattle.det_client_c.specs.declared.c_state.DetClient.{DetClient}
use Rattle.det_client_c.specs.declared.c_state.DetRandom.{DetRandom}
use Rattle.det_client_c.specs.declared.c_state.DetPassKeys.{DetPassKeys}

-- the number of an activation
abbrev pub number_of : Activation → ℕ
number_of RegisterServices = 0
number_of ServiceDiscovery = 1
number_of Init = 2
number_of Run = 3
number_of Terminate = 4

-- The last activation from its number. 5 is none, and any other number that isn't listed is
-- Terminate.
abbrev pub last_of_number : ℕ → Option Activation
last_of_number n =
    if n == 0 then Some RegisterServices
    else if n == 1 then Some ServiceDiscovery
    else if n == 2 then Some Init
    else if n == 3 then Some Run
    else if n == 5 then None
    else Some Terminate

-- a time, if it is known
abbrev pub time_of_parts : Bool → ℕ → Option ℕ
time_of_parts known time = if known then Some time else None

-- the request that is made by these arguments
abbrev pub next_of : Bool → Bool → ℕ → Next
next_of stop has_time time = if stop then Stop else Go (time_of_parts has_time time)

-- the stream that C keeps
abbrev pub place_of : DetRandom → StreamState
place_of r = record { state = r.state; draws = r.draws }

-- the keys of a pass that C keeps
abbrev pub keys_of : DetPassKeys → PassKeys
keys_of k = record { shared = k.shared; pass = k.pass }

-- the client that C keeps
abbrev pub state_of : DetClient → State
state_of c = record {
  cycle_time = c.cycle_time;
  last = last_of_number c.last;
  time = time_of_parts c.has_time c.time;
  seed = c.seed;
  cycle = c.cycle;
  own = place_of c.own;
}
