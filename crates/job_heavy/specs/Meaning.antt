-- The heavy job: each element folds 64 random numbers into its state.
use Rattle.std.specs.Prelude.{ℕ, ℤ, pos, zero, suc, ◌+◌, List, length, map, Option, None, Some, Ok}
use Rattle.std.specs.Prelude.{not, if◌then◌else◌, nat_lt, bit_xor}
use Rattle.std.proofs.Common.{lit≤}
use Rattle.std.specs.List.{range_with_len}
use Rattle.std.specs.Int.{w64, rotate_left}
use Rattle.det_client.specs.element_random.RandomStreams.{word}
use Rattle.job.specs.Meaning.{Meaning, ElementResult}
use Rattle.job_shared.specs.Params.{is_param, natural_param, few_events}
use Rattle.job_shared.proofs.Clamps.{natural_most, events_few}
use Rattle.job_shared.specs.Bytes.{u64_bytes}
use Rattle.job_heavy.specs.declared.heavy.Heavy.{Heavy}
use Rattle.job_heavy.specs.declared.state.State.{State}
use Rattle.job_heavy.specs.declared.heavy_job.NoGlobals.{NoGlobals}
use Rattle.job_heavy.specs.declared.heavy_job.NoPlan.{NoPlan}

-- parameters: 0 elements, 1 to 65,536
abbrev pub bad_param : List ℤ → ℕ → Option ℕ
bad_param ps events =
    if not (is_param ps 0 (pos 1) (pos 65536)) then Some 0
    else if nat_lt 1 (length ps) then Some 1
    else None

abbrev pub made : List ℤ → ℕ → Heavy
made ps events = record {
  elements = natural_param ps 0 1 65536;
  events = few_events events;
  few = natural_most ps 0 1 65536 (lit≤ tt);
  short = events_few events;
}

-- element i starts as i
abbrev pub first_state : ℕ → State
first_state i = record { folded = i }

abbrev pub first_states : Heavy → List State
first_states j = map first_state (range_with_len 0 j.elements)

-- a state after the first n random numbers of a key are folded into it
unfoldable pub folded : ℕ → ℕ → ℕ → ℕ
folded state key zero = state
folded state key (suc n) = bit_xor (rotate_left w64 (folded state key n) 5) (word key n)

abbrev pub worked : State → ℕ → ElementResult State ℕ
worked e key = record { element = record { folded = folded e.folded key 64 }; part = 1 }

abbrev pub output : ℕ → List ℕ
output count = u64_bytes count

abbrev pub shown : State → List ℕ
shown e = u64_bytes e.folded

abbrev pub meaning : Meaning Heavy NoGlobals State NoPlan ℕ
meaning = record {
  bad_param = bad_param;
  made = made;
  events = λ j. j.events;
  started = λ j seed. record { globals = record {}; elements = first_states j; seed = seed };
  prepared = λ j globals es windows seed cycle time next.
      Ok (record { plan = record {}; seed = seed });
  passes_of = λ j plan. 1;
  unit_part = λ j. 0;
  worked = λ j plan carry pass e key. Ok (worked e key);
  drawn = λ j plan carry pass e key. 64;
  joined = λ j left right. left + right;
  concluded = λ j globals plan part. Ok (record { globals = record {}; output = output part });
  shown = λ j e. shown e;
}
