-- What contracts know of processes: how many were started, which of them were given to `finish` and
-- for which that failed, how often another call failed, and how one ended.
use Rattle.std.specs.Prelude.{ℕ, ℤ, List, Bool, false, Option, None, length, slice_index_or}
use Rattle.std.specs.Prelude.{option_and_then}
use Rattle.std.specs.Process.{child_status, exit_code}
use Rattle.std.specs.declared.process.child.Child.{Child}
use Rattle.lane.specs.child_processes.Spawners.{SpawnerState}

-- a spawner whose arguments, bytes and exit statuses aren't known
abbrev pub opaque_state : (finished lost : List Bool) → ℕ → SpawnerState
opaque_state finished lost faults = record {
  children = length finished;
  faults = faults;
  words = λ child. None;
  finished = λ child. slice_index_or finished child false;
  lost = λ child. slice_index_or lost child false;
  asked = None;
  gives = λ words. None;
  ends = λ words. None;
  left = λ child. None;
}

-- the exit status of a process that was waited for, if it has one
abbrev pub code_of : {P I O E : Type 0} → Child P I O E → Option ℤ
code_of process = option_and_then exit_code (child_status process)
