-- The meaning of a view: at each offset is exactly the part that the grammar reads there.
use Rattle.std.specs.Prelude.{◌≡◌, ℕ, ◌+◌, ◌≤◌, List, length, drop}
use Rattle.det_values.specs.declared.format.Format.{Format}
use Rattle.det_values.specs.declared.frames.CycleInput.{CycleInput}
use Rattle.det_values.specs.declared.frames.Outcome.{Outcome}
use Rattle.det_values.specs.declared.frames.Outcome.TheVariants as outcomes
use Rattle.det_values.specs.declared.frames.Frame.{Frame}
use Rattle.det_values.specs.declared.frames.Frame.TheVariants as frames
use Rattle.det_values.specs.Values.{RefusedAtValue}
use Rattle.record_grammar.specs.declared.place.Place.{Place}
use Rattle.record_grammar.specs.declared.place.Place.TheVariants as places
use Rattle.record_grammar.specs.declared.item.Item.{Item}
use Rattle.record_grammar.specs.declared.item.Item.TheVariants as items
use Rattle.record_grammar.specs.Read.{Got, many}
use Rattle.record_grammar.specs.Grammar.{refusal_at, sample_at, element_at}
use Rattle.record_grammar.specs.Grammar.{drawn_at, string_at, item_at}
use Rattle.record_grammar.specs.Places.{layout_of, format_of}
use Rattle.record_view.specs.declared.view.InputView.{InputView}
use Rattle.record_view.specs.declared.view.OutcomeView.{OutcomeView}
use Rattle.record_view.specs.declared.view.OutcomeView.TheVariants as ends
use Rattle.record_view.specs.declared.view.FrameKind.{FrameKind}
use Rattle.record_view.specs.declared.view.FrameKind.TheVariants as frame_kinds
use Rattle.record_view.specs.declared.view.FrameView.{FrameView}
use Rattle.record_view.specs.declared.view.ItemKind.{ItemKind}
use Rattle.record_view.specs.declared.view.ItemKind.TheVariants as kinds
use Rattle.record_view.specs.declared.view.ItemSpan.{ItemSpan}
use Rattle.record_view.specs.declared.view.ItemView.{ItemView}

-- the number of events of the frames from a place on
abbrev pub events_of : Place → ℕ
events_of (places.Register layout) = layout.events
events_of (places.Discover layout) = layout.events
events_of (places.Init layout) = layout.events
events_of (places.Runs layout before) = layout.events
events_of places.Header = 0
events_of places.End = 0

-- a cycle's input is at these offsets of a frame's bytes
pub record ShowsInput (events : ℕ) (p : InputView) (bytes : List ℕ) (input : CycleInput)
    : Type 0 where
  pub time : input.time ≡ p.time
  pub samples : many (sample_at events) p.samples (drop p.samples_at bytes)
      ≡ Got (input.samples, drop p.outcome_at bytes)
  pub few : p.samples ≤ 4096
  pub order : p.samples_at ≤ p.outcome_at
  pub within : p.outcome_at ≤ length bytes

-- the elements and the output are at these offsets
pub record ShowsFinished (format : Format) (count at output_at len : ℕ) (bytes : List ℕ)
    (outcome : Outcome) : Type 0 where
  pub elements : List _
  pub output : List ℕ
  pub is : outcome ≡ outcomes.Finished elements output
  pub elements_read : many (drawn_at format) count (drop at bytes)
      ≡ Got (elements, drop output_at bytes)
  pub output_read : string_at 4 1048576 (drop output_at bytes) ≡ Got (output, drop len bytes)
  pub order : at ≤ output_at
  pub counted : output_at + 4 + length output ≡ len
  pub within : len ≤ length bytes

-- the refusal is at this offset
pub record ShowsRefused (at len : ℕ) (bytes : List ℕ) (outcome : Outcome) : Type 0 where
  pub place : RefusedAtValue
  pub is : outcome ≡ outcomes.Refused place
  pub place_read : refusal_at (drop at bytes) ≡ Got (place, drop len bytes)
  pub order : at ≤ len
  pub within : len ≤ length bytes

abbrev pub ShowsOutcome : Format → OutcomeView → ℕ → List ℕ → Outcome → Type 0
ShowsOutcome format (ends.Finished count at output_at) len bytes outcome =
    ShowsFinished format count at output_at len bytes outcome
ShowsOutcome format (ends.Refused at) len bytes outcome = ShowsRefused at len bytes outcome

-- the offset of the outcome's elements or of its refusal
abbrev pub first_of : OutcomeView → ℕ
first_of (ends.Finished count at output_at) = at
first_of (ends.Refused at) = at

-- the parts of a frame are at these offsets
abbrev pub ShowsFrame : Place → FrameKind → ℕ → List ℕ → Frame → Type 0
ShowsFrame place frame_kinds.Register len bytes frames.Register = Unit {0}
ShowsFrame place frame_kinds.Discover len bytes frames.Discover = Unit {0}
ShowsFrame place (frame_kinds.Init count) len bytes (frames.Init elements) =
    (many element_at count (drop 5 bytes) ≡ Got (elements, drop len bytes)) × (5 ≤ len)
ShowsFrame place (frame_kinds.Run input outcome) len bytes (frames.Run r) =
    ShowsInput (events_of place) input bytes r.input
    × ShowsOutcome (format_of place) outcome len bytes r.outcome
    × (input.outcome_at ≤ first_of outcome)
ShowsFrame place frame_kinds.Terminate len bytes frames.Terminate = Unit {0}
ShowsFrame place kind len bytes frame = ⊥

abbrev pub ShowsParts : Place → ItemKind → ℕ → List ℕ → Item → Type 0
ShowsParts place (kinds.Header layout) len bytes (items.Header p) = layout_of p ≡ layout
ShowsParts place (kinds.Frame kind) len bytes (items.Frame frame) =
    ShowsFrame place kind len bytes frame
ShowsParts place kind len bytes item = ⊥

-- The item comes first in these bytes, in this place of a record, and its parts are at the view's
-- offsets.
pub record Shows (place : Place) (span : ItemSpan) (bytes : List ℕ) (item : Item) : Type 0 where
  pub read : item_at place bytes ≡ Got (item, drop span.len bytes)
  pub within : span.len ≤ length bytes
  pub parts : ShowsParts place span.kind span.len bytes item

-- these are exactly the item's bytes, and the view is of it
pub record IsSpelling (view : ItemView) (item : Item) (bytes : List ℕ) : Type 0 where
  pub shows : Shows view.place view.span bytes item
  pub exact : length bytes ≡ view.span.len

-- ---- frames

-- a view of a frame as a view of an item
abbrev pub item_view : FrameView → ItemView
item_view view = record {
  place = view.place;
  span = record { kind = kinds.Frame view.kind; len = view.len };
}

-- these are exactly the frame's bytes, and the view is of it
abbrev pub IsFrameSpelling : FrameView → Frame → List ℕ → Type 0
IsFrameSpelling view frame bytes = IsSpelling (item_view view) (items.Frame frame) bytes
