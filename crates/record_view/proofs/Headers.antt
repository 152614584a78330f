-- A header comes in its own place, and a frame in any other.
use Rattle.std.proofs.Common.{◌≡◌, ◌≢◌, ℕ, List, drop, refl, ap, subst}
use Rattle.det_values.specs.Values.{ProfileValue}
use Rattle.det_values.specs.declared.frames.Frame.{Frame}
use Rattle.record_grammar.specs.declared.place.Place.{Place}
use Rattle.record_grammar.specs.declared.place.Place.TheVariants as places
use Rattle.record_grammar.specs.declared.item.Item.{Item}
use Rattle.record_grammar.specs.declared.item.Item.TheVariants as items
use Rattle.record_grammar.specs.Read.{Read, Got, ◌>>=◌}
use Rattle.record_grammar.specs.Grammar.{item_at, frame_at}
use Rattle.record_grammar.proofs.Steady.{bind_got, got_is}
use Rattle.record_view.specs.declared.view.FrameKind.{FrameKind}
use Rattle.record_view.specs.declared.view.ItemKind.{ItemKind}
use Rattle.record_view.specs.declared.view.ItemKind.TheVariants as kinds
use Rattle.record_view.specs.declared.view.ItemSpan.{ItemSpan}
use Rattle.record_view.specs.Shows.{Shows, ShowsParts}

frame_is_none : (p : ProfileValue) (rest : List ℕ) (r : Read Frame)
    → (r >>= λ f. Got (items.Frame f.0, f.1)) ≡ Got (items.Header p, rest) → ⊥
frame_is_none p rest r e =
    let b = bind_got r (λ f. Got (items.Frame f.0, f.1)) (items.Header p, rest) e in
    let is : items.Frame b.0.0 ≡ items.Header p = ap (λ (x : Item × List ℕ). x.0) (got_is {A = Item} (items.Frame b.0.0, b.0.1)
    (items.Header p, rest) b.2) in
    absurd cc

-- a header is read only in its own place
pub header_place : (place : Place) (bytes : List ℕ) (p : ProfileValue) (rest : List ℕ) → item_at place bytes ≡ Got (items.Header p, rest)
    → place ≡ places.Header
unfolding item_at
header_place places.Header bytes p rest e = refl
header_place (places.Register layout) bytes p rest e = absurd (frame_is_none p rest (frame_at (places.Register layout) bytes) e)
header_place (places.Discover layout) bytes p rest e = absurd (frame_is_none p rest (frame_at (places.Discover layout) bytes) e)
header_place (places.Init layout) bytes p rest e = absurd (frame_is_none p rest (frame_at (places.Init layout) bytes) e)
header_place (places.Runs layout before) bytes p rest e = absurd (frame_is_none p rest (frame_at (places.Runs layout before) bytes) e)
header_place places.End bytes p rest e = absurd (frame_is_none p rest (frame_at places.End bytes) e)

-- what is shown in another place is a frame
pub record IsOfFrame (span : ItemSpan) (item : Item) : Type 0 where
  pub kind : FrameKind
  pub frame : Frame
  pub shown : span.kind ≡ kinds.Frame kind
  pub is : item ≡ items.Frame frame

parts_of_frame : (place : Place) (span : ItemSpan) (kind : ItemKind) (bytes : List ℕ) (item : Item) → span.kind ≡ kind
    → ((p : ProfileValue) → item ≡ items.Header p → ⊥) → ShowsParts place kind span.len bytes item → IsOfFrame span item
parts_of_frame place span (kinds.Frame kind) bytes (items.Frame frame) is absent h =
    record { kind = kind; frame = frame; shown = is; is = refl }
parts_of_frame place span (kinds.Frame kind) bytes (items.Header p) is absent h = absurd h
parts_of_frame place span (kinds.Header layout) bytes (items.Header p) is absent h = absurd (absent p refl)
parts_of_frame place span (kinds.Header layout) bytes (items.Frame frame) is absent h = absurd h

pub frame_there : (place : Place) (span : ItemSpan) (bytes : List ℕ) (item : Item) → place ≢ places.Header → Shows place span bytes item
    → IsOfFrame span item
frame_there place span bytes item other h = parts_of_frame place span span.kind bytes item refl
    (λ p e. other (header_place place bytes p (drop span.len bytes)
    (subst (λ (x : Item). item_at place bytes ≡ Got (x, drop span.len bytes)) e h.read))) h.parts
