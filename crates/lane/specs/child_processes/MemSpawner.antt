-- What contracts see of a spawner in memory, and when its next call fails.
use Rattle.std.specs.Prelude.{◌≡◌, ℕ, ◌+◌, List, [], map, length, Bool, false, cond, nat_eq, not}
use Rattle.std.specs.Prelude.{◌||◌, ◌&&◌, is_some, Option, Some, None, unwrap_or, slice_get}
use Rattle.det_io.specs.PlannedCalls.{is_listed}
use Rattle.lane.specs.child_processes.Spawners.{SpawnerState, Words}
use Rattle.lane.specs.child_processes.Scripts.{words_at, bytes_under, status_under, rest_of}
use Rattle.lane.specs.declared.child_processes.mem_spawner.Script.{Script}
use Rattle.lane.specs.declared.child_processes.mem_spawner.running_child.RunningChild.{RunningChild}
use Rattle.lane.specs.declared.child_processes.mem_spawner.MemSpawner.{MemSpawner}

abbrev pub asked_in : Bool → List Script → List ℕ → Option (List Words)
asked_in told scripts asked = cond told (Some (map (words_at scripts) asked)) None

abbrev pub state_of : List Script → List RunningChild → Bool → List ℕ → ℕ → SpawnerState
state_of scripts children told asked faults = record {
  children = length children;
  faults = faults;
  words = slice_get (map (λ (child : RunningChild). words_at scripts child.script) children);
  finished = λ k. unwrap_or
      (slice_get (map (λ (child : RunningChild). child.is_finished) children) k) false;
  lost = λ k. unwrap_or
      (slice_get (map (λ (child : RunningChild). child.is_lost) children) k) false;
  asked = asked_in told scripts asked;
  gives = bytes_under scripts;
  ends = status_under scripts;
  left = slice_get (map (rest_of scripts) children);
}

-- its state: all that its children do, and the calls of `start` as long as they are known
abbrev pub mem_spawner_state : MemSpawner → SpawnerState
mem_spawner_state s = state_of s.scripts s.children.items s.knows_asked s.asked.items s.faults

-- what a spawner was made from, which no call changes
pub record MemSpawnerSetup : Type 0 where
  pub scripts : List Script
  -- the numbers of the calls that fail
  pub fails : List ℕ

abbrev pub setup_of : MemSpawner → MemSpawnerSetup
setup_of s = record { scripts = s.scripts; fails = s.calls.fails }

-- the number of calls so far
abbrev pub calls_of : MemSpawner → ℕ
calls_of s = s.calls.made

-- the number of calls of `start` that took room
abbrev pub starts_of : MemSpawner → ℕ
starts_of s = s.starts

-- a new spawner: no call was made, it has no children, and it is known that `start` wasn't called
pub record IsNewMemSpawner (s : MemSpawner) (made_of : MemSpawnerSetup) : Type 0 where
  pub setup : setup_of s ≡ made_of
  pub calls : calls_of s ≡ 0
  pub starts : starts_of s ≡ 0
  pub state : mem_spawner_state s ≡ record {
    children = 0;
    faults = 0;
    words = λ child. None;
    finished = λ child. false;
    lost = λ child. false;
    asked = Some [];
    gives = bytes_under made_of.scripts;
    ends = status_under made_of.scripts;
    left = λ child. None;
  }

-- a start with these arguments finds room and a script, whether it fails or not
abbrev pub has_room_for : MemSpawner → Words → Bool
has_room_for s words = not (nat_eq (starts_of s) 64)
    && is_some (bytes_under (setup_of s).scripts words)

-- the next call fails
abbrev pub call_fails : MemSpawner → Bool
call_fails s = is_listed (setup_of s).fails (calls_of s + 1)

-- a start with these arguments fails as the next call: it is listed, or there is no script or no
-- room for it
abbrev pub start_fails : MemSpawner → Words → Bool
start_fails s words = call_fails s || not (has_room_for s words)

-- what a child has left
abbrev pub rest_in : MemSpawner → ℕ → List ℕ
rest_in s child = unwrap_or ((mem_spawner_state s).left child) []
