-- The results of a reader of items, as those of a reader of frames.
use Rattle.std.proofs.Common.{◌≡◌, ◌≢◌, ℕ, List, [], ◌∷◌, ◌++◌, Option, Some, None, Ok, Err, true, sym, ap, subst, ◌∙◌}
use Rattle.std.specs.List.{list_any}
use Rattle.det_values.specs.Values.{ProfileValue}
use Rattle.det_io.specs.Shelf.{ShelfState, Reads, IsAtEnd}
use Rattle.det_io.specs.Traffic.{failure_in}
use Rattle.det_io.specs.declared.failure.Failure.TheVariants.{Read, Write, OutOfMemory}
use Rattle.det_io.specs.declared.failure.Stopped.{Stopped}
use Rattle.det_io.specs.declared.failure.Stopped.TheVariants.{Refused, Failed}
use Rattle.record_grammar.specs.declared.record_fault.RecordFault.{RecordFault}
use Rattle.record_grammar.specs.declared.place.Place.{Place}
use Rattle.record_grammar.specs.declared.place.Place.TheVariants as places
use Rattle.record_grammar.specs.declared.item.Item.{Item}
use Rattle.record_grammar.specs.declared.item.Item.TheVariants as items
use Rattle.record_grammar.specs.Leads.{Leads}
use Rattle.record_grammar.specs.Places.{layout_of}
use Rattle.record_grammar.specs.Record.{items as items_in}
use Rattle.record_view.specs.declared.view.FrameView.{FrameView}
use Rattle.record_view.specs.declared.view.ItemView.{ItemView}
use Rattle.record_view.specs.Shows.{item_view}
use Rattle.record_view.proofs.Headers.{IsOfFrame, frame_there}
use Rattle.record_reader.specs.declared.item_reader.reader.ItemReader.{ItemReader}
use Rattle.record_reader.specs.item_reader.StandsFor as inner
use Rattle.record_reader.specs.item_reader.Held.{held}
use Rattle.record_reader.specs.declared.frame_reader.FrameReader.{FrameReader}
use Rattle.record_reader.specs.declared.frame_reader.OpenRecord.{OpenRecord}
use Rattle.record_reader.specs.Frames.{StandsFor, HasRead, GaveFrame, IsHeader, HeaderIs, HasOpened}
use Rattle.record_reader.specs.Salvaged.{is_init}
use Rattle.record_reader.specs.ItemTaker.{AreFirst}
use Rattle.record_reader.proofs.Items.{HasLayout, header_first as header_first_of, next_is, whole_has_init}
use Rattle.record_reader.proofs.Items.{are_first as first_of, more_items as more_of}

-- ---- the header

-- a reader gave the header first
pub record GaveHeader (view : ItemView) (r : ItemReader) (read : List ℕ) : Type 0 where
  pub profile : ProfileValue
  pub holds : inner.Holds r view (items.Header profile)
  pub stands : inner.StandsFor r read (items.Header profile ∷ [])

header_by : (view : ItemView) (r : ItemReader) (read : List ℕ) (item : Item) → inner.Holds r view item
    → inner.StandsFor r read (item ∷ []) → GaveHeader view r read
header_by view r read (items.Header p) holds stands = record { profile = p; holds = holds; stands = stands }
header_by view r read (items.Frame f) holds stands = absurd (next_is [] (items.Frame f) (record {
  bytes = read;
  place = inner.place_of r;
  rest = inner.unread r;
  leads = stands.leads;
}))

header_first : (first : Option ItemView) (r : ItemReader) (at_end : Type 0) (read : List ℕ) → inner.ItemIs (Ok first) r at_end read []
    → IsHeader first
header_first (Some view) r at_end read h = tt
header_first None r at_end read h =
    no_init (subst (λ (xs : List Item). list_any is_init xs ≡ true) h.2 (whole_has_init read h.3))
  where
    no_init : list_any is_init [] ≡ true → ⊥
    no_init e = cc

not_opened : (new : ItemReader) (stop : Stopped RecordFault) (slot : ℕ) (at_end : Type 0) (read : List ℕ)
    → inner.ItemIs (Err stop) new at_end read [] → HeaderIs (Err stop) slot at_end read
not_opened new (Refused fault) slot at_end read h = h.0
not_opened new (Failed Read) slot at_end read h = (h.1, h.2)
not_opened new (Failed Write) slot at_end read h = h
not_opened new (Failed OutOfMemory) slot at_end read h = tt

module _ {before after : ShelfState} {old : ItemReader} (new : ItemReader) (fresh : inner.StandsFor old [] []) where
  -- the first item of a record is its header
  pub is_header : (first : Option ItemView) → inner.HasRead before after old (inner.ItemIs (Ok first) new
      (IsAtEnd after (inner.slot_of old))) → IsHeader first
  is_header first h = header_first first new (IsAtEnd after (inner.slot_of old)) h.0 (h.2 [] [] fresh).1

  pub header_given : (view : ItemView) (h : inner.HasRead before after old (inner.ItemIs (Ok (Some view)) new
      (IsAtEnd after (inner.slot_of old)))) → GaveHeader view new h.0
  header_given view h = let g = (h.2 [] [] fresh).1 in header_by view new h.0 g.item g.holds g.stands

  -- the header was read
  pub opened : (view : ItemView) (slot : ℕ) (made : OpenRecord) → inner.slot_of old ≡ slot → inner.slot_of new ≡ inner.slot_of old
      → (h : inner.HasRead before after old (inner.ItemIs (Ok (Some view)) new (IsAtEnd after (inner.slot_of old))))
      → made.frames.items ≡ new → made.profile ≡ (header_given view h).profile → HasOpened before after slot (Ok made)
  opened view slot made same kept h reader profile = record {
    read = h.0;
    reads = subst (λ (s : ℕ). Reads before after s h.0) same h.1;
    needed = (h.2 [] [] fresh).0;
    is = (
      subst (λ (r : ItemReader). inner.StandsFor r h.0 (items_of made.profile)) (sym reader)
          (subst (λ (p : ProfileValue). inner.StandsFor new h.0 (items_of p)) (sym profile) (header_given view h).stands),
      ap inner.slot_of reader ∙ kept ∙ same,
    );
  }
    where
      items_of : ProfileValue → List Item
      items_of p = items.Header p ∷ []

  -- the header wasn't read
  pub stopped : (stop : Stopped RecordFault) (slot : ℕ) → inner.slot_of old ≡ slot
      → inner.HasRead before after old (inner.ItemIs (Err stop) new (IsAtEnd after (inner.slot_of old)))
      → HasOpened before after slot (Err stop)
  stopped stop slot same h = record {
    read = h.0;
    reads = subst (λ (s : ℕ). Reads before after s h.0) same h.1;
    needed = (h.2 [] [] fresh).0;
    is = subst (λ (s : ℕ). HeaderIs (Err stop) slot (IsAtEnd after s) h.0) same
        (not_opened new stop slot (IsAtEnd after (inner.slot_of old)) h.0 (h.2 [] [] fresh).1);
  }

  -- nothing is written
  pub writes_nothing : (stop : Stopped RecordFault)
      → inner.HasRead before after old (inner.ItemIs (Err stop) new (IsAtEnd after (inner.slot_of old)))
      → failure_in {A = OpenRecord} (Err stop) ≡ Some Write → ⊥
  writes_nothing (Refused fault) h e = cc
  writes_nothing (Failed Read) h e = cc
  writes_nothing (Failed Write) h e = (h.2 [] [] fresh).1
  writes_nothing (Failed OutOfMemory) h e = cc

  -- there was no memory for the profile
  pub no_memory : (first : Option ItemView) (slot : ℕ) → inner.slot_of old ≡ slot
      → inner.HasRead before after old (inner.ItemIs (Ok first) new (IsAtEnd after (inner.slot_of old)))
      → HasOpened before after slot (Err (Failed OutOfMemory))
  no_memory first slot same h = record {
    read = h.0;
    reads = subst (λ (s : ℕ). Reads before after s h.0) same h.1;
    needed = (h.2 [] [] fresh).0;
    is = tt;
  }

-- ---- frames

-- after a header and frames no header comes
not_first : (place : Place) (rest : List ℕ) (read : List ℕ) (p : ProfileValue) (behind : List Item)
    → Leads places.Header read (items.Header p ∷ behind) place rest → place ≢ places.Header
not_first place rest read p behind l e = subst (HasLayout (layout_of p)) e (header_first_of p behind place read rest l)

pub frame_given : (item : ItemView) (r : ItemReader) (p : ProfileValue) (read : List ℕ) (behind : List Item)
    → (g : inner.GaveItem item r read (items.Header p ∷ behind)) → IsOfFrame item.span g.item
frame_given item r p read behind g =
    frame_there item.place item.span (held r.window) g.item (not_first item.place g.behind.0 read p behind g.behind.1) g.holds.shows

pub gave_frame : (item : ItemView) (view : FrameView) (r : FrameReader) (p : ProfileValue) (read : List ℕ) (behind : List Item)
    → item_view view ≡ item → inner.GaveItem item r.items read (items.Header p ∷ behind)
    → GaveFrame view r read (items.Header p ∷ behind)
gave_frame item view r p read behind same g =
    let f = frame_given item r.items p read behind g in
    let given : List Item = items.Header p ∷ behind in
    record {
      frame = f.frame;
      before = subst (λ (v : ItemView). (rest : List ℕ) × Leads places.Header read given v.place rest) (sym same) g.behind;
      holds = subst (λ (v : ItemView). inner.Holds r.items v (items.Frame f.frame)) (sym same)
          (subst (λ (x : Item). inner.Holds r.items item x) f.is g.holds);
      stands = subst (λ (x : Item). inner.StandsFor r.items read (given ++ x ∷ [])) f.is g.stands;
      others = g.others;
      is = g.is ∙ ap (λ (x : Item). given ++ x ∷ g.others) f.is;
    }

pub has_read : {before after : ShelfState} (old : FrameReader) (One Other : List ℕ → List Item → Type 0)
    → ((p : ProfileValue) (read : List ℕ) (behind : List Item) → One read (items.Header p ∷ behind)
    → Other read (items.Header p ∷ behind)) → inner.HasRead before after old.items One → HasRead before after old Other
has_read old One Other by h = (
  h.0,
  h.1,
  λ p read behind s.
      let x = h.2 read (items.Header p ∷ behind) s in (x.0, by p (read ++ h.0) behind x.1),
)

-- a frame is held, since what was read before is known
pub held_frame : {before after : ShelfState} (old : FrameReader) (new : ItemReader) (item : ItemView) (at_end : Type 0)
    (p : ProfileValue) (read : List ℕ) (behind : List Item) → StandsFor old read (items.Header p ∷ behind)
    → (h : inner.HasRead before after old.items (inner.ItemIs (Ok (Some item)) new at_end))
    → (x : Item) × IsOfFrame item.span x × inner.Holds new item x
held_frame old new item at_end p read behind stands h =
    let g = (h.2 read (items.Header p ∷ behind) stands).1 in
    (g.item, frame_given item new p (read ++ h.0) behind g, g.holds)

-- ---- what comes first

-- the returned items come first in a record
pub are_first : (r : FrameReader) (read : List ℕ) (given : List Item) → StandsFor r read given → AreFirst given
are_first r = first_of r.items

-- the returned items are the first of all, whatever comes after
pub more_items : (r : FrameReader) (read : List ℕ) (given : List Item) → StandsFor r read given → (tail : List ℕ) → (others : List Item)
    × (items_in (read ++ tail) ≡ given ++ others)
more_items r = more_of r.items
