-- What contracts see of a spawner and its children, and how its calls change it.
use Rattle.std.specs.Prelude.{◌≡◌, ◌≢◌, ℕ, ◌+◌, Bool, true, false, List, [], ◌++◌, map, take}
use Rattle.std.specs.Prelude.{String, string_bytes, Option, Some, IfSome, Result, Ok, Err}
use Rattle.std.specs.Option.{option_map}
use Rattle.lane.specs.declared.child_processes.spawn_failed.SpawnFailed.{SpawnFailed}

abbrev pub Words : Type 0
Words = List (List ℕ)

abbrev pub words_of : {A : Type 0} → List (String A) → Words
words_of words = map string_bytes words

pub record SpawnerState : Type 0 where
  -- how many children were started
  pub children : ℕ
  -- the number of calls of `start` and `read` that failed so far
  pub faults : ℕ
  -- the arguments with which a child was started, if they are known
  pub words : ℕ → Option Words
  -- whether a child was given to `finish`
  pub finished : ℕ → Bool
  -- whether a child's `finish` failed
  pub lost : ℕ → Bool
  -- the lists of arguments with which `start` was called, if they are known
  pub asked : Option (List Words)
  -- the output of a child that is started with these arguments, if it is known
  pub gives : Words → Option (List ℕ)
  -- the exit status of a child that is started with these arguments, if it is known
  pub ends : Words → Option ℕ
  -- the output of a child that wasn't read yet, if it is known
  pub left : ℕ → Option (List ℕ)

-- the bytes that a read copied into the buffer
abbrev pub moved : Result ℕ SpawnFailed → List ℕ → List ℕ
moved (Ok n) buf = take n buf
moved (Err e) buf = []

-- only the count of faults and what children have left may differ
pub record Stays (before after : SpawnerState) : Type 0 where
  pub children : after.children ≡ before.children
  pub words : after.words ≡ before.words
  pub finished : after.finished ≡ before.finished
  pub asked : after.asked ≡ before.asked
  pub gives : after.gives ≡ before.gives
  pub ends : after.ends ≡ before.ends

-- a child gave these bytes, if they are known, and nothing else happened
pub record ReadsChild (before after : SpawnerState) (child : ℕ) (bytes : List ℕ) : Type 0 where
  pub stays : Stays before after
  pub left : before.left child ≡ option_map (λ rest. bytes ++ rest) (after.left child)
  pub others : (k : ℕ) → k ≢ child → after.left k ≡ before.left k

-- nothing is left of a child, if what is left is known
abbrev pub IsAtEnd : SpawnerState → ℕ → Type 0
IsAtEnd state child = IfSome (state.left child) (λ rest. rest ≡ [])

-- what no call changes
pub record Fixed (before after : SpawnerState) : Type 0 where
  pub gives : after.gives ≡ before.gives
  pub ends : after.ends ≡ before.ends

-- A child was started with these arguments. If its output is known, so are its arguments.
pub record Starts (before after : SpawnerState) (words : Words) (child : ℕ) : Type 0 where
  pub number : child ≡ before.children
  pub children : after.children ≡ before.children + 1
  pub running : after.finished child ≡ false
  pub left : IfSome (before.gives words)
      (λ bytes. (after.left child ≡ Some bytes) × (after.words child ≡ Some words))
  pub other_left : (k : ℕ) → k ≢ child → after.left k ≡ before.left k
  pub other_words : (k : ℕ) → k ≢ child → after.words k ≡ before.words k
  pub other_finished : (k : ℕ) → k ≢ child → after.finished k ≡ before.finished k

-- no child was started, and all are as before
pub record ChildrenStay (before after : SpawnerState) : Type 0 where
  pub children : after.children ≡ before.children
  pub left : after.left ≡ before.left
  pub words : after.words ≡ before.words
  pub finished : after.finished ≡ before.finished

-- `start` was called with these lists of arguments, if the calls are known afterwards
pub record Asks (before after : SpawnerState) (lists : List Words) : Type 0 where
  pub told : (all : List Words) → after.asked ≡ Some all
      → (earlier : List Words) × (before.asked ≡ Some earlier) × (earlier ++ lists ≡ all)

-- a child was given to `finish`
pub record Finishes (before after : SpawnerState) (child : ℕ) : Type 0 where
  pub children : after.children ≡ before.children
  pub faults : after.faults ≡ before.faults
  pub words : after.words ≡ before.words
  pub asked : after.asked ≡ before.asked
  pub finished : after.finished child ≡ true
  pub other_finished : (k : ℕ) → k ≢ child → after.finished k ≡ before.finished k
  pub other_lost : (k : ℕ) → k ≢ child → after.lost k ≡ before.lost k
  pub none_left : IsAtEnd after child
  pub other_left : (k : ℕ) → k ≢ child → after.left k ≡ before.left k

-- If all of the output was read, and the exit status for the child's arguments is known, it is that
-- one.
abbrev pub StatusIs : SpawnerState → ℕ → ℕ → Type 0
StatusIs before child status =
    (words : Words) (end : ℕ) → before.words child ≡ Some words → before.left child ≡ Some []
    → before.ends words ≡ Some end → status ≡ end
