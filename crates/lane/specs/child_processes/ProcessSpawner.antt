-- What contracts see of a spawner of processes.
use Rattle.std.specs.Prelude.{◌≡◌, ℕ, ◌<◌, pos, List, Bool, Some, slice_get, option_and_then}
use Rattle.std.specs.Prelude.{vec_len, vec_capacity}
use Rattle.std.specs.declared.io.traits.Read.{Ghosts as ReadGhosts}
use Rattle.std.specs.declared.io.traits.Write.{Ghosts as WriteGhosts}
use Rattle.std.specs.declared.process.pipes.ChildStdin.{ChildStdin}
use Rattle.std.specs.declared.process.pipes.ChildStdout.{ChildStdout}
use Rattle.std.specs.declared.process.pipes.ChildStderr.{ChildStderr}
use Rattle.lane.specs.child_processes.Spawners.{SpawnerState}
use Rattle.lane.specs.child_processes.Processes.{opaque_state, code_of}
use Rattle.lane.specs.declared.child_processes.process_spawner.ProcessSpawner.{ProcessSpawner}

-- for each child, whether it was given to `finish`
abbrev pub finished_of : {R : Type 0} {w : WriteGhosts ChildStdin} {r : ReadGhosts ChildStdout}
    {e : ReadGhosts ChildStderr} → ProcessSpawner R w r e → List Bool
finished_of s = s.finished.items

-- for each child, whether its `finish` failed
abbrev pub lost_of : {R : Type 0} {w : WriteGhosts ChildStdin} {r : ReadGhosts ChildStdout}
    {e : ReadGhosts ChildStderr} → ProcessSpawner R w r e → List Bool
lost_of s = s.lost.items

abbrev pub process_state : {R : Type 0} {w : WriteGhosts ChildStdin} {r : ReadGhosts ChildStdout}
    {e : ReadGhosts ChildStderr} → ProcessSpawner R w r e → SpawnerState
process_state s = opaque_state s.finished.items s.lost.items s.faults

-- a child's process was waited for, and ended with this exit status
abbrev pub EndedWith : {R : Type 0} {w : WriteGhosts ChildStdin} {r : ReadGhosts ChildStdout}
    {e : ReadGhosts ChildStderr} → ProcessSpawner R w r e → ℕ → ℕ → Type 0
EndedWith s child status =
    option_and_then code_of (slice_get s.children.items child) ≡ Some (pos status)

-- there is room for one more child
pub record HasRoom {R : Type 0} {w : WriteGhosts ChildStdin} {r : ReadGhosts ChildStdout}
    {e : ReadGhosts ChildStderr} (s : ProcessSpawner R w r e) : Type 0 where
  pub children : vec_len s.children < vec_capacity s.children
  pub outputs : vec_len s.outputs < vec_capacity s.outputs
  pub at_end : vec_len s.at_end < vec_capacity s.at_end
  pub finished : vec_len s.finished < vec_capacity s.finished
  pub lost : vec_len s.lost < vec_capacity s.lost
