-- How two frames are compared.
use Rattle.std.specs.Prelude.{◌≡◌, ◌≢◌, ◌↔◌, ℕ, ◌-◌, ◌==◌, List, [], Option, Some, None}
use Rattle.std.specs.Prelude.{if◌then◌else◌}
use Rattle.det_values.specs.declared.frames.Frame.{Frame}
use Rattle.record_grammar.specs.declared.place.Layout.{Layout}
use Rattle.record_grammar.specs.declared.place.Place.{Place}
use Rattle.record_grammar.specs.declared.place.Place.TheVariants as places
use Rattle.record_grammar.specs.declared.item.Item.TheVariants as items
use Rattle.record_grammar.specs.Read.{Got}
use Rattle.record_grammar.specs.Grammar.{item_at}
use Rattle.record_view.specs.declared.view.FrameView.{FrameView}
use Rattle.record_view.specs.Shows.{IsFrameSpelling}
use Rattle.copies.specs.declared.difference.Difference.{Difference}
use Rattle.copies.specs.declared.difference.Difference.TheVariants as differences
use Rattle.copies.specs.FirstDifference.{frame_difference}
use Rattle.c_types.specs.declared.frame.DetPlace.{DetPlace}
use Rattle.c_types.specs.Places.{format_of}

abbrev pub layout_with : ℕ → ℕ → Layout
layout_with format events = record { format = format_of format; events = events }

-- the place of the frame of a number
abbrev pub frame_place : Layout → ℕ → Place
frame_place layout number =
    if number == 0 then places.Register layout
    else if number == 1 then places.Discover layout
    else if number == 2 then places.Init layout
    else places.Runs layout (number - 3)

-- these are exactly the bytes of the frame
abbrev pub IsFrameOf : Place → List ℕ → Frame → Type 0
IsFrameOf place bytes frame = item_at place bytes ≡ Got (items.Frame frame, [])

abbrev pub IsWholeFrame : Option FrameView → Place → List ℕ → Type 0
IsWholeFrame (Some view) place bytes =
    (frame : Frame) × IsFrameSpelling view frame bytes × (view.place ≡ place)
IsWholeFrame None place bytes = (frame : Frame) → IsFrameOf place bytes frame → ⊥

-- the struct of a difference
abbrev pub IsPlaceOf : Difference → DetPlace → Type 0
IsPlaceOf differences.Header p = p.what ≡ 0
IsPlaceOf (differences.Kind number) p = (p.what ≡ 1) × (p.number ≡ number)
IsPlaceOf (differences.Time cycle) p = (p.what ≡ 2) × (p.number ≡ cycle)
IsPlaceOf (differences.Samples cycle) p = (p.what ≡ 3) × (p.number ≡ cycle)
IsPlaceOf (differences.Result cycle) p = (p.what ≡ 4) × (p.number ≡ cycle)
IsPlaceOf (differences.Element cycle element) p = (p.what ≡ 5) × (p.number ≡ cycle)
    × (p.element ≡ element)
IsPlaceOf (differences.Output cycle) p = (p.what ≡ 6) × (p.number ≡ cycle)

-- 0 if there is no difference, 1 with the first one
abbrev pub IsDifferenceAnswer : ℕ → Option Difference → DetPlace → Type 0
IsDifferenceAnswer answer None p = answer ≡ 0
IsDifferenceAnswer answer (Some difference) p = (answer ≡ 1) × IsPlaceOf difference p

-- the result of comparing what may be two frames in one place
pub record ComparesFrames (answer : ℕ) (place : Place) (number : ℕ) (left right : List ℕ)
    (old new : DetPlace) : Type 0 where
  pub compared : (a b : Frame) → IsFrameOf place left a → IsFrameOf place right b
      → IsDifferenceAnswer answer (frame_difference number a b) new
  pub none : (answer ≡ 2)
      ↔ ((a b : Frame) → IsFrameOf place left a → IsFrameOf place right b → ⊥)
  pub kept : answer ≢ 1 → new ≡ old
