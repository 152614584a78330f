-- Frames that are all of some bytes.
use Rattle.std.proofs.Common.{◌≡◌, ◌≢◌, ℕ, List, [], length, drop, Result, Err, Option, Some, None, sym, ap, subst, ◌∙◌, arith, length-drop}
use Rattle.std.proofs.lemmas.List.{drop_all}
use Rattle.det_values.specs.declared.frames.Frame.{Frame}
use Rattle.record_grammar.specs.declared.place.Place.{Place}
use Rattle.record_grammar.specs.declared.item.Item.{Item}
use Rattle.record_grammar.specs.declared.item.Item.TheVariants as items
use Rattle.record_grammar.specs.Read.{Read, Got, More, Bad}
use Rattle.record_grammar.specs.Grammar.{item_at}
use Rattle.record_grammar.proofs.Steady.{got_is}
use Rattle.record_view.specs.declared.view.FrameView.{FrameView}
use Rattle.record_view.specs.declared.view.ItemSpan.{ItemSpan}
use Rattle.record_view.specs.declared.view.ItemView.{ItemView}
use Rattle.record_view.specs.declared.view.ItemKind.{ItemKind}
use Rattle.record_view.specs.declared.view.ItemKind.TheVariants as kinds
use Rattle.record_view.specs.declared.stop.Stop.{Stop}
use Rattle.record_view.specs.declared.stop.Stop.TheVariants as stops
use Rattle.record_view.specs.declared.partial.Scan.{Scan}
use Rattle.record_view.specs.declared.partial.Step.{Step}
use Rattle.record_view.specs.Scans.{IsStep, IsAnswer}
use Rattle.record_view.specs.Shows.{Shows, ShowsParts, IsSpelling, IsFrameSpelling, item_view}
use Rattle.record_grammar.specs.declared.place.Layout.{Layout}
use Rattle.copies.specs.declared.difference.Difference.{Difference}
use Rattle.copies.specs.FirstDifference.{frame_difference}
use Rattle.c_types.specs.declared.frame.DetPlace.{DetPlace}
use Rattle.det_reading_c.specs.Comparisons.{IsFrameOf, IsWholeFrame, IsDifferenceAnswer, ComparesFrames}

abbrev got_frame : Frame → List ℕ → Read Item
got_frame frame rest = Got (items.Frame frame, rest)

pub whole_is : (view : FrameView) (place : Place) (frame : Frame) (bytes : List ℕ) → IsFrameSpelling view frame bytes → view.place ≡ place
    → IsFrameOf place bytes frame
whole_is view place frame bytes h at =
    ap (λ (p : Place). item_at p bytes) (sym at) ∙ h.shows.read
    ∙ ap (got_frame frame) (drop_all view.len bytes (omega (arith, h.exact)))

same_frame : (a b : Frame) → items.Frame a ≡ items.Frame b → a ≡ b
same_frame a b e = cc

pub one_frame : (place : Place) (bytes : List ℕ) (a b : Frame) → IsFrameOf place bytes a → IsFrameOf place bytes b → a ≡ b
one_frame place bytes a b x y =
    same_frame a b (ap (λ (z : Item × List ℕ). z.0) (got_is {A = Item} (items.Frame a, []) (items.Frame b, []) (sym x ∙ y)))

-- the view is of that frame
pub spelled_as : (view : FrameView) (place : Place) (bytes : List ℕ) (a b : Frame) → IsFrameSpelling view a bytes → view.place ≡ place
    → IsFrameOf place bytes b → IsFrameSpelling view b bytes
spelled_as view place bytes a b h at is =
    subst (λ (f : Frame). IsFrameSpelling view f bytes) (one_frame place bytes a b (whole_is view place a bytes h at) is) h

-- ---- by a step that starts at the first byte

no_frame_at_stop : (place : Place) (stop : Stop) (scan : Scan) (bytes : List ℕ) → IsAnswer place (Err stop) scan bytes → IsWholeFrame None place bytes
no_frame_at_stop place stops.More scan bytes h frame e = let e' : More ≡ Got (items.Frame frame, []) = sym h.0 ∙ e in absurd cc
no_frame_at_stop place (stops.Bad reason left) scan bytes h frame e = let e' : Bad reason left ≡ Got (items.Frame frame, []) = sym h ∙ e in absurd cc

pub no_frame : (place : Place) (step : Step) (stop : Stop) (bytes : List ℕ) → step.answer ≡ Err stop → IsStep place step bytes
    → IsWholeFrame None place bytes
no_frame place step stop bytes is h =
    no_frame_at_stop place stop step.scan bytes (subst (λ (a : Result ItemSpan Stop). IsAnswer place a step.scan bytes) is h)

-- bytes of a frame have its length
pub exact : (place : Place) (span : ItemSpan) (bytes : List ℕ) (item : Item) (frame : Frame) → Shows place span bytes item
    → IsFrameOf place bytes frame → (items.Frame frame ≡ item) × (span.len ≡ length bytes)
exact place span bytes item frame h is =
    let p = got_is {A = Item} (items.Frame frame, []) (item, drop span.len bytes) (sym is ∙ h.read) in
    let l : length (drop span.len bytes) ≡ 0 = sym (ap (λ (z : Item × List ℕ). length z.1) p) in
    (ap (λ (z : Item × List ℕ). z.0) p, omega (arith, l, length-drop span.len bytes, h.within))

pub no_header : (place : Place) (span : ItemSpan) (bytes : List ℕ) (item : Item) (layout : Layout) → Shows place span bytes item
    → span.kind ≡ kinds.Header layout → IsWholeFrame None place bytes
no_header place span bytes item layout h kind frame is =
    let same = (exact place span bytes item frame h is).0 in
    let parts : ShowsParts place span.kind span.len bytes (items.Frame frame) =
    subst (λ (x : Item). ShowsParts place span.kind span.len bytes x) (sym same) h.parts in
    subst (λ (k : ItemKind). ShowsParts place k span.len bytes (items.Frame frame)) kind parts

framed_spelling : (view : FrameView) (item : Item) (bytes : List ℕ) → IsSpelling (item_view view) item bytes
    → (frame : Frame) × IsFrameSpelling view frame bytes
framed_spelling view (items.Frame frame) bytes h = (frame, h)
framed_spelling view (items.Header p) bytes h = absurd h.shows.parts

abbrev pub a_view : Place → ItemSpan → ItemView
a_view place span = record { place = place; span = span }

pub whole : (place : Place) (span : ItemSpan) (bytes : List ℕ) (item : Item) (view : FrameView) → Shows place span bytes item
    → span.len ≡ length bytes → item_view view ≡ a_view place span → IsWholeFrame (Some view) place bytes
whole place span bytes item view h len e =
    let s : IsSpelling (a_view place span) item bytes = record { shows = h; exact = sym len } in
    let f = framed_spelling view item bytes (subst (λ (v : ItemView). IsSpelling v item bytes) (sym e) s) in
    (f.0, f.1, ap (λ (v : ItemView). v.place) e)

-- ---- two frames

in_place : (at place : Place) (bytes : List ℕ) (view : FrameView) → at ≡ place → IsWholeFrame (Some view) at bytes
    → IsWholeFrame (Some view) place bytes
in_place at place bytes view same w = subst (λ (p : Place). IsWholeFrame (Some view) p bytes) same w

pub compares : (answer : ℕ) (at place : Place) (number : ℕ) (left right : List ℕ) (one other : FrameView) (found : Option Difference)
    (old new : DetPlace) → at ≡ place → IsWholeFrame (Some one) at left → IsWholeFrame (Some other) at right
    → ((a b : Frame) → IsFrameSpelling one a left → IsFrameSpelling other b right → found ≡ frame_difference number a b)
    → IsDifferenceAnswer answer found new → (answer ≡ 2 → ⊥) → (answer ≢ 1 → new ≡ old)
    → ComparesFrames answer place number left right old new
compares answer at place number left right one other found old new same w v is said whole kept =
    let x = in_place at place left one same w in
    let y = in_place at place right other same v in
    record {
      compared = λ a b p q.
          subst (λ (d : Option Difference). IsDifferenceAnswer answer d new)
          (is a b (spelled_as one place left x.0 a x.1 x.2 p) (spelled_as other place right y.0 b y.1 y.2 q)) said;
      none = (λ e. absurd (whole e), λ no. absurd (no x.0 y.0 (whole_is one place x.0 left x.1 x.2) (whole_is other place y.0 right y.1 y.2)));
      kept = kept;
    }
