-- What a lane asks of its spawner, and how it leaves its children.
use Rattle.std.specs.Prelude.{◌≡◌, ℕ, ◌<◌, true, false, List, Some, IfSome, Option, None}
use Rattle.std.specs.Prelude.{slice_index_or}
use Rattle.det_io.specs.Prefix.{IsPrefix}
use Rattle.lane.specs.child_processes.Spawners.{SpawnerState, Words, Asks, StatusIs}

-- the calls of `start` had a prefix of these lists of arguments, if the calls are known afterwards
abbrev pub AsksPrefix : SpawnerState → SpawnerState → List Words → Type 0
AsksPrefix before after lists =
    (front : List Words) × IsPrefix front lists × Asks before after front

-- every child is running
abbrev pub AllRun : SpawnerState → Type 0
AllRun s = (k : ℕ) → k < s.children → s.finished k ≡ false

-- every child was given to `finish`
abbrev pub AllFinished : SpawnerState → Type 0
AllFinished s = (k : ℕ) → k < s.children → s.finished k ≡ true

-- if the output for these arguments is known, the child that was started with them has all of it
-- left
abbrev pub HasAll : SpawnerState → Words → ℕ → Type 0
HasAll s words k =
    IfSome (s.gives words) (λ bytes. (s.left k ≡ Some bytes) × (s.words k ≡ Some words))

-- the exit statuses; each is known if its child's `finish` didn't fail
abbrev pub StatusesAre : SpawnerState → List (Option ℕ) → Type 0
StatusesAre s ends = (k : ℕ) → k < s.children → IfSome (slice_index_or ends k None) (StatusIs s k)
