-- The reader of a header, from each field on.
use Rattle.std.specs.Prelude.{ℕ, ℤ, List}
use Rattle.det_values.specs.declared.format.Format.{Format}
use Rattle.det_values.specs.Values.{ProfileValue, EventSpecValue}
use Rattle.record_grammar.specs.Read.{Read, Got, ◌>>=◌}
use Rattle.record_grammar.specs.Numbers.{number}
use Rattle.record_grammar.specs.Grammar.{version_at, params_at, events_at}

abbrev pub a_profile : Format → ℕ → ℕ → ℕ → List ℤ → List EventSpecValue → ProfileValue
a_profile format job seed cycle params events =
    record { format = format; job = job; seed = seed; cycle_time = cycle; params = params; events = events }

abbrev pub from_events : Format → ℕ → ℕ → ℕ → List ℤ → List ℕ → Read ProfileValue
from_events format job seed cycle params bytes =
    events_at format bytes >>= λ events. Got (a_profile format job seed cycle params events.0, events.1)

abbrev pub from_params : Format → ℕ → ℕ → ℕ → List ℕ → Read ProfileValue
from_params format job seed cycle bytes = params_at bytes >>= λ params. from_events format job seed cycle params.0 params.1

abbrev pub from_cycle : Format → ℕ → ℕ → List ℕ → Read ProfileValue
from_cycle format job seed bytes = number 8 1 9223372036854775807 bytes >>= λ cycle. from_params format job seed cycle.0 cycle.1

abbrev pub from_seed : Format → ℕ → List ℕ → Read ProfileValue
from_seed format job bytes = number 8 0 18446744073709551615 bytes >>= λ seed. from_cycle format job seed.0 seed.1

abbrev pub from_job : Format → List ℕ → Read ProfileValue
from_job format bytes = number 2 0 65535 bytes >>= λ job. from_seed format job.0 job.1

abbrev pub from_version : ℕ → List ℕ → Read ProfileValue
from_version last bytes = version_at bytes >>= λ format. from_job format.0 format.1
