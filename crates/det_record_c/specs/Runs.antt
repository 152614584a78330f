-- A Run frame that is written in several calls: opened, then element by element, then closed.
use Rattle.std.specs.Prelude.{◌≡◌, ℕ, ◌+◌, ◌<◌, ◌≤◌, List, [], ◌∷◌, ◌++◌, length, take}
use Rattle.std.specs.List.{All, flat_map}
use Rattle.det_values.specs.declared.frames.CycleInput.{CycleInput}
use Rattle.det_values.specs.declared.frames.DrawnElement.{DrawnElement}
use Rattle.det_values.specs.declared.frames.Frame.TheVariants as frames
use Rattle.det_values.specs.declared.frames.RunFrame.{RunFrame}
use Rattle.det_values.specs.Spelling.{spelled_u32}
use Rattle.record_grammar.specs.declared.place.Place.{Place}
use Rattle.record_grammar.specs.declared.place.Place.TheVariants as places
use Rattle.record_grammar.specs.declared.item.Item.{Item}
use Rattle.record_grammar.specs.declared.item.Item.TheVariants as items
use Rattle.record_grammar.specs.Places.{after}
use Rattle.record_grammar.specs.Spelling.{spelled_input, spelled_drawn, IsInput, IsDrawn}
use Rattle.c_types.specs.declared.record.DetRecord.{DetRecord}
use Rattle.c_types.specs.declared.cycle.DetSample.{DetSample}
use Rattle.c_types.specs.Places.{format_of, place_of}
use Rattle.c_types.specs.Ranges.{AreSoundSamples}
use Rattle.c_types.specs.Elements.{SpellElements}
use Rattle.det_record_c.specs.declared.run.DetRun.{DetRun}
use Rattle.det_record_c.specs.Items.{cycle_in}
use Rattle.det_record_c.specs.Parts.{Written, CallState, PutsFront}

-- the bytes of a finished cycle before its elements, of which there are `count`, and after them
abbrev pub opening_of : CycleInput → ℕ → List ℕ
opening_of input count = 4 ∷ (spelled_input input ++ (0 ∷ spelled_u32 count))

abbrev pub closing_of : List ℕ → List ℕ
closing_of output = spelled_u32 (length output) ++ output

-- a cycle may come
abbrev pub IsBeforeCycle : Place → Type 0
IsBeforeCycle (places.Runs layout before) = before < 1000000
IsBeforeCycle place = ⊥

abbrev pub TakesCycle : DetRecord → Type 0
TakesCycle r = IsBeforeCycle (place_of r)

-- a cycle with this input was opened, and these elements were put, all as these bytes
pub record Opened (run : DetRun) (input : CycleInput) (elements : List DrawnElement)
    (bytes : List ℕ) : Type 0 where
  pub follows : TakesCycle run.state
  pub input_fields : IsInput run.state.events input
  pub few : length elements + run.left ≤ 65536
  pub element_fields : All (IsDrawn (format_of run.state.format)) elements
  pub spelling : bytes ≡ opening_of input (length elements + run.left)
      ++ flat_map (spelled_drawn (format_of run.state.format)) elements

-- what C lends to a call that opens a cycle or puts an element
pub record RunState : Type 0 where
  pub run : DetRun
  pub out : List ℕ
  pub written : ℕ

abbrev pub run_state : DetRun → List ℕ → ℕ → RunState
run_state run out written = record { run = run; out = out; written = written }

abbrev pub IsSoundOpening : ℕ → List DetSample → ℕ → Type 0
IsSoundOpening events samples count = AreSoundSamples events samples × (count ≤ 65536)

-- a cycle of this many elements was opened
pub record IsOpened (r : DetRecord) (input : CycleInput) (count : ℕ) (old new : RunState)
    : Type 0 where
  pub opened : Opened new.run input [] (take new.written new.out)
  pub at_state : new.run.state ≡ r
  pub left : new.run.left ≡ count
  pub spelling : PutsFront (opening_of input count) old.out new.out new.written

-- an element was put after those before it
pub record IsElementPut (element : DrawnElement) (old new : RunState) : Type 0 where
  pub opened : (input : CycleInput) (elements : List DrawnElement) (bytes : List ℕ)
      → Opened old.run input elements bytes
      → Opened new.run input (elements ++ element ∷ []) (bytes ++ take new.written new.out)
  pub at_state : new.run.state ≡ old.run.state
  pub left : new.run.left + 1 ≡ old.run.left
  pub spelling : PutsFront (spelled_drawn (format_of old.run.state.format) element) old.out
      new.out new.written

-- C put `count` elements itself, as these bytes, after those before them
pub record AreElementsPut (count : ℕ) (old new : DetRun) : Type 0 where
  pub opened : (input : CycleInput) (elements more : List DrawnElement) (bytes spelled : List ℕ)
      → Opened old input elements bytes → length more ≡ count
      → SpellElements (format_of old.state.format) more spelled
      → Opened new input (elements ++ more) (bytes ++ spelled)
  pub at_state : new.state ≡ old.state
  pub left : new.left + count ≡ old.left

-- a cycle may come, all elements are put, and the record is as it was when the cycle was opened
pub record CanClose (run : DetRun) (r : DetRecord) : Type 0 where
  pub follows : TakesCycle r
  pub same : run.state ≡ r
  pub none_left : run.left ≡ 0

-- the cycle was written after the items before it
pub record IsClosed (run : DetRun) (output : List ℕ) (old new : CallState) : Type 0 where
  pub written : (input : CycleInput) (elements : List DrawnElement) (begun : List ℕ)
      → Opened run input elements begun → (items : List Item) (bytes : List ℕ)
      → Written old.state items bytes
      → Written new.state (items ++ cycle_in input elements output ∷ [])
      (bytes ++ (begun ++ take new.written new.out))
  pub place : (any : RunFrame)
      → place_of new.state ≡ after (place_of old.state) (items.Frame (frames.Run any))
  pub spelling : PutsFront (closing_of output) old.out new.out new.written
