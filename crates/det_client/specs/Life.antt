-- The activations that answer a list of requests, after the activation sequence of the
-- deterministic client of the AUTOSAR Adaptive Platform. That a stop ends the sequence at any point
-- is this project's own rule.
use Rattle.std.specs.Prelude.{◌≡◌, ℕ, zero, suc, ◌+◌, List, [], ◌∷◌, ◌++◌, Option, None, Some, Bool}
use Rattle.std.specs.Prelude.{true, false, if◌then◌else◌, ◌||◌, length}
use Rattle.det_client.specs.declared.activation.Activation.{Activation}
use Rattle.det_client.specs.declared.activation.Activation.TheVariants.{RegisterServices}
use Rattle.det_client.specs.declared.activation.Activation.TheVariants.{ServiceDiscovery, Init, Run}
use Rattle.det_client.specs.declared.activation.Activation.TheVariants.{Terminate}
use Rattle.det_client.specs.declared.activation.Next.{Next}
use Rattle.det_client.specs.declared.activation.Next.TheVariants.{Go, Stop}
use Rattle.det_client.specs.State.{State}

abbrev pub is_stop : Next → Bool
is_stop Stop = true
is_stop (Go t) = false

-- whether a list contains a stop
abbrev pub has_stop : List Next → Bool
has_stop [] = false
has_stop (x ∷ xs) = is_stop x || has_stop xs

-- activation number n, counted from 1, if nothing stops the process
abbrev pub activation : ℕ → Activation
activation zero = RegisterServices
activation (suc zero) = RegisterServices
activation (suc (suc zero)) = ServiceDiscovery
activation (suc (suc (suc zero))) = Init
activation (suc (suc (suc (suc n)))) = Run

-- the answer to the last request of a list
abbrev pub answer : List Next → Activation
answer given = if has_stop given then Terminate else activation (length given)

abbrev pub is_run : Activation → Bool
is_run Run = true
is_run RegisterServices = false
is_run ServiceDiscovery = false
is_run Init = false
is_run Terminate = false

-- the number of Runs among the answers to the requests of a list that comes after `before`
abbrev pub runs_after : List Next → List Next → ℕ
runs_after before [] = 0
runs_after before (x ∷ xs) =
    (if is_run (answer (before ++ x ∷ [])) then 1 else 0) + runs_after (before ++ x ∷ []) xs

-- the number of the present cycle: the number of Runs among the answers
abbrev pub cycle_of : List Next → ℕ
cycle_of given = runs_after [] given

-- the last answer
abbrev pub last_of : List Next → Option Activation
last_of [] = None
last_of (x ∷ xs) = Some (answer (x ∷ xs))

-- the time that a request carries
abbrev pub go_time : Next → Option ℕ
go_time (Go t) = t
go_time Stop = None

-- the time of the last request
abbrev pub last_time : List Next → Option ℕ
last_time [] = None
last_time (x ∷ []) = go_time x
last_time (x ∷ y ∷ ys) = last_time (y ∷ ys)

-- the time of the present cycle
abbrev pub time_of : List Next → Option ℕ
time_of given = if is_run (answer given) then last_time given else None

-- a client is in the state that these requests lead to
pub record Life (c : State) (given : List Next) : Type 0 where
  pub last : c.last ≡ last_of given
  pub cycle : c.cycle ≡ cycle_of given
  pub time : c.time ≡ time_of given

-- the activation after the last one, if nothing stops the process
abbrev pub successor : Option Activation → Activation
successor None = RegisterServices
successor (Some RegisterServices) = ServiceDiscovery
successor (Some ServiceDiscovery) = Init
successor (Some Init) = Run
successor (Some Run) = Run
successor (Some Terminate) = Terminate

-- the activation that answers a request after the last one
abbrev pub next_activation : Option Activation → Next → Activation
next_activation last Stop = Terminate
next_activation last (Go t) = successor last

-- Init and Run restart the own stream
abbrev pub begins : Activation → Bool
begins Init = true
begins Run = true
begins RegisterServices = false
begins ServiceDiscovery = false
begins Terminate = false
