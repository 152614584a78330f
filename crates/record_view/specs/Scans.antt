-- What a scan says of an item whose first bytes were read: numbers, and no values.
use Rattle.std.specs.Prelude.{◌≡◌, ℕ, ◌≤◌, List, [], ◌++◌, length, drop, Result, Ok, Err}
use Rattle.det_values.specs.declared.frames.CycleInput.{CycleInput}
use Rattle.record_grammar.specs.declared.place.Place.{Place}
use Rattle.record_grammar.specs.declared.item.Item.{Item}
use Rattle.record_grammar.specs.Read.{Read, Got, More, Bad, many, with_front}
use Rattle.record_grammar.specs.Grammar.{element_at, drawn_at, item_at}
use Rattle.record_grammar.specs.Grammar.{init_from, finished_from, input_at}
use Rattle.record_grammar.specs.Places.{format_of}
use Rattle.record_view.specs.declared.stop.Stop.{Stop}
use Rattle.record_view.specs.declared.stop.Stop.TheVariants as stops
use Rattle.record_view.specs.declared.view.ItemSpan.{ItemSpan}
use Rattle.record_view.specs.declared.view.InputView.{InputView}
use Rattle.record_view.specs.declared.opening.Opening.{Opening}
use Rattle.record_view.specs.declared.opening.Opening.TheVariants as opening
use Rattle.record_view.specs.declared.partial.PartialRun.{PartialRun}
use Rattle.record_view.specs.declared.partial.Partial.{Partial}
use Rattle.record_view.specs.declared.partial.Partial.TheVariants as partials
use Rattle.record_view.specs.declared.partial.Scan.{Scan}
use Rattle.record_view.specs.declared.partial.Step.{Step}
use Rattle.record_view.specs.Gives.{Stops}
use Rattle.record_view.specs.Opening.{OpeningValue, ready, init_of, run_of, framed}
use Rattle.record_view.specs.Shows.{ShowsInput, ShowsParts, Shows, events_of}

-- ---- the first part

-- the opening of the item is this, and `rest` follows it
abbrev pub ShowsOpening : Place → Opening → List ℕ → OpeningValue → List ℕ → Type 0
ShowsOpening place (opening.Ready kind) bytes (ready item) rest =
    (len : ℕ) × (len ≤ length bytes) × (rest ≡ drop len bytes)
    × ShowsParts place kind len bytes item
ShowsOpening place (opening.Init count) bytes (init_of done left) rest =
    (done ≡ []) × (left ≡ count) × (5 ≤ length bytes) × (rest ≡ drop 5 bytes)
ShowsOpening place (opening.Run input count at) bytes (run_of format given done left) rest =
    (format ≡ format_of place) × (done ≡ []) × (left ≡ count) × (at ≤ length bytes)
    × (rest ≡ drop at bytes) × ShowsInput (events_of place) input bytes given
    × (input.outcome_at ≤ at)
ShowsOpening place b bytes value rest = ⊥

abbrev pub OpensTo : {X : Type 0} → Place → (X → Opening × List ℕ) → Result X Stop → List ℕ
    → Read OpeningValue → Type 0
OpensTo place view (Ok x) bytes read = (value : OpeningValue) × (read ≡ Got (value, (view x).1))
    × ShowsOpening place (view x).0 bytes value (view x).1
OpensTo place view (Err stop) bytes read = Stops stop read

-- the input of a Run frame, whose bytes begin with its tag
abbrev pub ShowsInputOf : {X : Type 0} → ℕ → (X → InputView × List ℕ) → Result X Stop → List ℕ
    → Type 0
ShowsInputOf events view (Ok x) bytes = (input : CycleInput)
    × (input_at events (drop 1 bytes) ≡ Got (input, (view x).1))
    × ShowsInput events (view x).0 bytes input × ((view x).1 ≡ drop (view x).0.outcome_at bytes)
ShowsInputOf events view (Err stop) bytes = Stops stop (input_at events (drop 1 bytes))

-- ---- elements

-- Of `count` values from offset `at` on, those before offset `read` were read, and `left` are left.
pub record ElementScan {A : Type 0} (item : List ℕ → Read A) (count at left read : ℕ)
    (bytes : List ℕ) : Type 0 where
  pub done : List A
  pub order : at ≤ read
  pub in_range : read ≤ length bytes
  pub same : (tail : List ℕ) → with_front done (many item left (drop read bytes ++ tail))
      ≡ many item count (drop at bytes ++ tail)

pub record InitScan (place : Place) (count left read : ℕ) (bytes : List ℕ) : Type 0 where
  pub reading : (tail : List ℕ) → item_at place (bytes ++ tail)
      ≡ framed (init_from [] count (drop 5 bytes ++ tail))
  pub goes : ElementScan element_at count 5 left read bytes

pub record RunScan (place : Place) (run : PartialRun) (read : ℕ) (bytes : List ℕ) : Type 0 where
  pub input : CycleInput
  pub shows : ShowsInput (events_of place) run.input bytes input
  pub order : run.input.outcome_at ≤ run.elements_at
  pub reading : (tail : List ℕ) → item_at place (bytes ++ tail)
      ≡ framed (finished_from (format_of place) input [] run.elements
      (drop run.elements_at bytes ++ tail))
  pub goes : ElementScan (drawn_at (format_of place)) run.elements run.elements_at run.left
      read bytes

abbrev pub IsPartialScan : Place → Partial → ℕ → List ℕ → Type 0
IsPartialScan place partials.Nothing read bytes = read ≡ 0
IsPartialScan place (partials.Init count left) read bytes = InitScan place count left read bytes
IsPartialScan place (partials.Run run) read bytes = RunScan place run read bytes

-- the scan is right for the item that comes in a place and begins with these bytes
abbrev pub IsScan : Place → Scan → List ℕ → Type 0
IsScan place scan bytes = IsPartialScan place scan.partial scan.read bytes

-- ---- the result

abbrev pub IsAnswer : Place → Result ItemSpan Stop → Scan → List ℕ → Type 0
IsAnswer place (Ok span) scan bytes = (item : Item) × Shows place span bytes item
IsAnswer place (Err stops.More) scan bytes = (item_at place bytes ≡ More) × IsScan place scan bytes
IsAnswer place (Err (stops.Bad reason left)) scan bytes = item_at place bytes ≡ Bad reason left

-- a whole item and its view, or a scan of an item that goes on, or a fault
abbrev pub IsStep : Place → Step → List ℕ → Type 0
IsStep place step bytes = IsAnswer place step.answer step.scan bytes

-- ---- no offset is beyond the bytes

abbrev pub FitsAs : Result ItemSpan Stop → Scan → ℕ → Type 0
FitsAs (Ok span) scan len = span.len ≤ len
FitsAs (Err stops.More) scan len = scan.read ≤ len
FitsAs (Err (stops.Bad reason left)) scan len = left ≤ len

abbrev pub Fits : Step → ℕ → Type 0
Fits step len = FitsAs step.answer step.scan len
