use Rattle.std.proofs.Common.{arith}
use Rattle.det_client_c.proofs.random.random_of_key.Goals as goal

pub returns : goal.returns
returns c = record { state = c.stream_state_of_key.ensures; draws = omega arith }
