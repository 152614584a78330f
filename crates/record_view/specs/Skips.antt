-- Values that are read but not kept.
use Rattle.std.specs.Prelude.{◌≡◌, ℕ, ◌≤◌, List, [], ◌++◌, length, drop, Option, Some, None}
use Rattle.std.specs.Prelude.{Result, Ok, Err}
use Rattle.record_grammar.specs.Read.{Read, Got, many, with_front}
use Rattle.record_view.specs.declared.stop.Stop.{Stop}
use Rattle.record_view.specs.declared.skip.Skip.{Skip}
use Rattle.record_view.specs.Gives.{Stops}

-- some value was read, and `rest` is left
abbrev pub SkipsTo : {X Y : Type 0} → (X → List ℕ) → Result X Stop → Read Y → Type 0
SkipsTo {Y = Y} rest (Ok x) read = (y : Y) × (read ≡ Got (y, rest x))
SkipsTo rest (Err stop) read = Stops stop read

-- `count` values were read, and `rest` is left
abbrev pub SkipsMany : {X Y : Type 0} → (X → List ℕ) → ℕ → Result X Stop → Read (List Y) → Type 0
SkipsMany {Y = Y} rest count (Ok x) read =
    (ys : List Y) × (read ≡ Got (ys, rest x)) × (length ys ≡ count)
SkipsMany rest count (Err stop) read = Stops stop read

-- a value was read; `view` shows a part of it, and the rest
abbrev pub SkipsAs : {X Y Z : Type 0} → (Y → Z) → (X → Z × List ℕ) → Result X Stop → Read Y → Type 0
SkipsAs {Y = Y} of view (Ok x) read = (y : Y) × (read ≡ Got (y, (view x).1)) × (of y ≡ (view x).0)
SkipsAs of view (Err stop) read = Stops stop read

-- reading on from here gives the same list, whatever bytes come after
pub record Continues {A : Type 0} (item : List ℕ → Read A) (front : List A) (left read : ℕ)
    (start : List A) (count : ℕ) (bytes : List ℕ) : Type 0 where
  pub in_range : read ≤ length bytes
  pub same : (tail : List ℕ) → with_front front (many item left (drop read bytes ++ tail))
      ≡ with_front start (many item count (bytes ++ tail))

-- all were read, or the next one can't be read
abbrev pub Ended : {A : Type 0} → (List ℕ → Read A) → Option Stop → ℕ → List ℕ → Type 0
Ended item None left rest = left ≡ 0
Ended item (Some stop) left rest = Stops stop (many item left rest)

-- some elements were skipped, and the others are left
pub record IsSkip {A : Type 0} (item : List ℕ → Read A) (most : ℕ) (skip : Skip)
    (bytes : List ℕ) : Type 0 where
  pub done : List A
  pub continues : Continues item done skip.left skip.read [] most bytes
  pub ended : Ended item skip.stop skip.left (drop skip.read bytes)
