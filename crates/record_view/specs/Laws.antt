-- The laws of views.
use Rattle.std.specs.Prelude.{◌≡◌, ℕ, ◌≤◌, ◌↔◌, List, ◌++◌, take}
use Rattle.record_grammar.specs.declared.place.Place.{Place}
use Rattle.record_grammar.specs.declared.item.Item.{Item}
use Rattle.record_grammar.specs.Spelling.{AreBytes}
use Rattle.record_grammar.specs.Laws.{MayStand, item_spelling}
use Rattle.record_view.specs.declared.view.ItemSpan.{ItemSpan}
use Rattle.record_view.specs.declared.partial.Scan.{Scan}
use Rattle.record_view.specs.Shows.{Shows, events_of}
use Rattle.record_view.specs.Scans.{IsScan}

-- `events_of place ≤ 65536` holds after every header, whose field for it has two bytes
abbrev pub SpanIsSpelling : Type 0
SpanIsSpelling =
    (place : Place) (span : ItemSpan) (bytes : List ℕ) (item : Item) → events_of place ≤ 65536
    → AreBytes bytes → Shows place span bytes item
    → MayStand place item × (take span.len bytes ≡ item_spelling place item)

-- a view also holds of the item's own bytes, without those after them
abbrev pub CutShows : Type 0
CutShows =
    (place : Place) (span : ItemSpan) (bytes : List ℕ) (item : Item) → events_of place ≤ 65536
    → AreBytes bytes → Shows place span bytes item → Shows place span (take span.len bytes) item

abbrev pub EqualItems : Type 0
EqualItems =
    (place : Place) (one other : ItemSpan) (xs ys : List ℕ) (x y : Item) → events_of place ≤ 65536
    → AreBytes xs → AreBytes ys → Shows place one xs x → Shows place other ys y
    → (x ≡ y) ↔ (take one.len xs ≡ take other.len ys)

abbrev pub ScanStays : Type 0
ScanStays =
    (place : Place) (scan : Scan) (bytes more : List ℕ) → IsScan place scan bytes
    → IsScan place scan (bytes ++ more)
