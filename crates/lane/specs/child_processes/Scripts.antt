-- What a child that keeps to a script writes, and how it ends.
use Rattle.std.specs.Prelude.{◌≡◌, ℕ, List, [], map, drop, Bool, cond, Option, Some, position}
use Rattle.std.specs.Prelude.{slice_index_or}
use Rattle.std.specs.Option.{option_map}
use Rattle.std.specs.Str.{bytes_eq}
use Rattle.std.specs.Cmp.Lexicographic.{pointwise}
use Rattle.lane.specs.child_processes.Spawners.{Words, words_of}
use Rattle.lane.specs.declared.child_processes.mem_spawner.Script.{Script}
use Rattle.lane.specs.declared.child_processes.mem_spawner.running_child.RunningChild.{RunningChild}

abbrev pub same_words : Words → Words → Bool
same_words a b = pointwise bytes_eq a b

abbrev pub words_in : Script → Words
words_in script = words_of script.words.items

-- the index of the first script with these arguments
abbrev pub index_of : List Script → Words → Option ℕ
index_of scripts words = position (λ script. same_words (words_in script) words) scripts

abbrev pub words_at : List Script → ℕ → Words
words_at scripts index = slice_index_or (map words_in scripts) index []

abbrev pub bytes_at : List Script → ℕ → List ℕ
bytes_at scripts index = slice_index_or (map (λ (s : Script). s.bytes.items) scripts) index []

abbrev pub status_at : List Script → ℕ → ℕ
status_at scripts index = slice_index_or (map (λ (s : Script). s.status) scripts) index 0

-- the bytes of the first script with these arguments
abbrev pub bytes_under : List Script → Words → Option (List ℕ)
bytes_under scripts words = option_map (bytes_at scripts) (index_of scripts words)

-- the exit status of the first script with these arguments
abbrev pub status_under : List Script → Words → Option ℕ
status_under scripts words = option_map (status_at scripts) (index_of scripts words)

-- what a child has left
abbrev pub rest_of : List Script → RunningChild → List ℕ
rest_of scripts child = cond child.is_finished [] (drop child.at (bytes_at scripts child.script))

-- a child keeps to the first script with its arguments
abbrev pub KeepsToFirst : List Script → RunningChild → Type 0
KeepsToFirst scripts child = index_of scripts (words_at scripts child.script) ≡ Some child.script
