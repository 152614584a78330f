-- A sample and an element of a frame.
use Rattle.std.specs.Prelude.{◌≡◌, ◌↔◌, ℕ, ◌<◌, ◌≤◌, List, length, drop, Option, Some, None, IsTrue}
use Rattle.std.specs.Prelude.{slice_get, true, false, Bool}
use Rattle.std.specs.Bool.{OnTrue}
use Rattle.det_values.specs.Values.{SampleValue}
use Rattle.det_values.specs.declared.frames.DrawnElement.{DrawnElement}
use Rattle.det_values.specs.declared.format.Format.{Format}
use Rattle.record_grammar.specs.Read.{Read, Got}
use Rattle.record_grammar.specs.Grammar.{sample_at, drawn_at}
use Rattle.c_types.specs.declared.cycle.DetSample.{DetSample}
use Rattle.c_types.specs.declared.cycle.DetElement.{DetElement}
use Rattle.c_types.specs.CValues.{sample_of, drawn_of}

-- the sample that the grammar reads there, if it reads one
abbrev pub IsFirstSample : Option DetSample → List ℕ → Type 0
IsFirstSample (Some s) bytes = (events : ℕ) (value : SampleValue) (rest : List ℕ)
    → sample_at events bytes ≡ Got (value, rest) → sample_of s ≡ value
IsFirstSample None bytes = (events : ℕ) (value : SampleValue) (rest : List ℕ)
    → sample_at events bytes ≡ Got (value, rest) → ⊥

-- the sample of this number, if there is one
pub record IsSampleIn (found : Bool) (number : ℕ) (samples : List SampleValue) (s : DetSample)
    : Type 0 where
  pub there : IsTrue found ↔ (number < length samples)
  pub sample : OnTrue found (slice_get samples number ≡ Some (sample_of s))

-- a value and the rest of the bytes, if the grammar reads one
abbrev pub IsFirst : {X Y : Type 0} → (X → Y × List ℕ) → Option X → Read Y → Type 0
IsFirst view (Some x) read = read ≡ Got (view x)
IsFirst {Y = Y} view None read = (y : Y × List ℕ) → read ≡ Got y → ⊥

-- the bytes after the first value, if the grammar reads one
abbrev pub IsAfterFirst : {X Y : Type 0} → (X → List ℕ) → Option X → Read Y → Type 0
IsAfterFirst {Y = Y} rest (Some x) read = (y : Y) × (read ≡ Got (y, rest x))
IsAfterFirst {Y = Y} rest None read = (y : Y × List ℕ) → read ≡ Got y → ⊥

-- what C lends to a call that reads an element: the offset and the element
pub record ElementCall : Type 0 where
  pub at : ℕ
  pub element : DetElement

abbrev pub element_call : ℕ → DetElement → ElementCall
element_call at element = record { at = at; element = element }

-- an element is there, and the offset is the one after it; or none is there, and nothing changes
abbrev pub IsElementAnswer : Bool → Format → List ℕ → ElementCall → ElementCall → Type 0
IsElementAnswer true format bytes old new =
    (drawn_at format (drop old.at bytes) ≡ Got (drawn_of new.element, drop new.at bytes))
    × (new.at ≤ length bytes)
IsElementAnswer false format bytes old new =
    ((x : DrawnElement × List ℕ) → drawn_at format (drop old.at bytes) ≡ Got x → ⊥) × (new ≡ old)
