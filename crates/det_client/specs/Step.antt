-- The effect of one request on a client's state.
use Rattle.std.specs.Prelude.{◌≡◌, ◌+◌, None, Some, true, false, if◌then◌else◌}
use Rattle.det_client.specs.declared.activation.Activation.{Activation}
use Rattle.det_client.specs.declared.activation.Next.{Next}
use Rattle.det_client.specs.State.{State, OwnAt}
use Rattle.det_client.specs.Life.{next_activation, is_run, go_time, begins}

-- the client before a request, the answer, and the client after it
pub record Stepped
    (before : State) (next : Next) (result : Activation) (after : State) : Type 0 where
  pub result_is : result ≡ next_activation before.last next
  pub cycle_time : after.cycle_time ≡ before.cycle_time
  pub seed : after.seed ≡ before.seed
  pub last : after.last ≡ Some result
  pub cycle : after.cycle ≡ before.cycle + (if is_run result then 1 else 0)
  pub time : after.time ≡ (if is_run result then go_time next else None)
  pub begun : begins result ≡ true → OwnAt after 0
  pub goes_on : begins result ≡ false → after.own ≡ before.own
