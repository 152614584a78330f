-- The spelling of the first items of a record, and of a whole one.
use Rattle.std.proofs.Common.{◌≡◌, ◌-◌, ℕ, List, [], ◌∷◌, ◌++◌, length, None, refl, sym, ap, subst, ◌∙◌, append-nil}
use Rattle.std.specs.List.{flat_map}
use Rattle.std.proofs.lemmas.List.Concat.{flat_map-cons}
use Rattle.det_io.specs.Prefix.{IsPrefix}
use Rattle.det_io.proofs.Prefixes.{prefix-none}
use Rattle.det_values.specs.declared.frames.Frame.{Frame}
use Rattle.record_grammar.specs.declared.place.Layout.{Layout}
use Rattle.record_grammar.specs.declared.place.Place.{Place}
use Rattle.record_grammar.specs.declared.place.Place.TheVariants as places
use Rattle.record_grammar.specs.declared.item.Item.{Item}
use Rattle.record_grammar.specs.declared.item.Item.TheVariants as items
use Rattle.record_grammar.specs.Leads.{Leads}
use Rattle.record_grammar.specs.Places.{after, layout_of}
use Rattle.record_grammar.specs.Laws.{IsWhole, MayStand, AreItems, item_spelling, items_spelling}
use Rattle.record_grammar.specs.Read.{Read}
use Rattle.record_grammar.specs.Record.{Decoded, decoded, with_next, items as items_in, fault as fault_in}
use Rattle.record_grammar.specs.Spelling.{AreBytes, spelled, spelled_header, spelled_frame}
use Rattle.record_grammar.proofs.Leads.{all_leads}
use Rattle.record_grammar.proofs.lemmas.record_laws.AfterHeader.{HasLayout, keeps_layout, layout_along, no_header, can_stand}
use Rattle.record_grammar.proofs.lemmas.record_laws.Whole.{nil_more, all_leads_on, decoded_is}
use Rattle.record_reader.specs.ItemTaker.{AreFirst}
use Rattle.cmd_records.specs.voter.Majority.{spelled_items}
use Rattle.record_reader.specs.InItems.{frame_in}
use Rattle.record_reader.proofs.Items.{first_is_header}
use Rattle.record_reader.proofs.Pieces.{spelled_append}
use Rattle.cmd_records.specs.voter.Rows.{place_after, place_behind}

-- ---- lists of items

pub spelled-prefix : (a b : List Item) → IsPrefix a b → IsPrefix (spelled_items a) (spelled_items b)
spelled-prefix [] b p = prefix-none (spelled_items b)
spelled-prefix (items.Frame f ∷ a) b p = prefix-none (spelled_items b)
spelled-prefix (items.Header h ∷ a) b p =
    subst (λ xs. IsPrefix (spelled_items (items.Header h ∷ a)) (spelled_items xs)) p.1
    (flat_map (spelled_frame h.format) (flat_map frame_in p.0), sym (spelled_append frame_in h a p.0))

-- ---- one item

one-spelled : (layout : Layout) (place : Place) (f : Frame) → MayStand place (items.Frame f) → HasLayout layout place
    → item_spelling place (items.Frame f) ≡ spelled_frame layout.format f
one-spelled layout places.Header f h b = absurd b
one-spelled layout (places.Register other) f h b = ap (λ (l : Layout). spelled_frame l.format f) b
one-spelled layout (places.Discover other) f h b = ap (λ (l : Layout). spelled_frame l.format f) b
one-spelled layout (places.Init other) f h b = ap (λ (l : Layout). spelled_frame l.format f) b
one-spelled layout (places.Runs other before) f h b = ap (λ (l : Layout). spelled_frame l.format f) b
one-spelled layout places.End f h b = elim h [ ]

-- ---- one item more

pub leads-place : (given : List Item) (place to : Place) (bytes rest : List ℕ) → Leads place bytes given to rest
    → place_after place given ≡ to
leads-place [] place to bytes rest h = h.0
leads-place (x ∷ given) place to bytes rest h = leads-place given (after place x) to h.0 rest h.2

all-behind : (layout : Layout) (xs : List Item) (place to : Place) (bytes rest : List ℕ) → Leads place bytes xs to rest
    → HasLayout layout place → HasLayout layout (place_after place xs)
all-behind layout xs place to bytes rest leads h =
    subst (HasLayout layout) (sym (leads-place xs place to bytes rest leads)) (layout_along layout xs place to bytes rest leads h)

-- an item is spelled after the given ones
pub spelled-next : (given : List Item) (x : Item) → AreFirst given → MayStand (place_behind given) x
    → spelled_items (given ++ x ∷ []) ≡ spelled_items given ++ item_spelling (place_behind given) x
spelled-next [] (items.Header p) h may = append-nil (spelled_header p)
spelled-next [] (items.Frame f) h may = elim (can_stand places.Header (items.Frame f) may) [ ]
spelled-next (items.Frame f ∷ xs) x h may = absurd (first_is_header f xs h.place h.bytes h.rest h.leads)
spelled-next (items.Header p ∷ xs) (items.Header q) h may =
    let place = place_after (places.Register (layout_of p)) xs in
    absurd (no_header (layout_of p) place q
    (all-behind (layout_of p) xs (places.Register (layout_of p)) h.place h.leads.0 h.rest h.leads.2 refl)
    (can_stand place (items.Header q) may))
spelled-next (items.Header p ∷ xs) (items.Frame f) h may =
    spelled_append frame_in p xs (items.Frame f ∷ [])
    ∙ ap (λ (bytes : List ℕ). spelled p (flat_map frame_in xs) ++ bytes) (append-nil (spelled_frame p.format f)
    ∙ sym (one-spelled (layout_of p) (place_after (places.Register (layout_of p)) xs) f may
    (all-behind (layout_of p) xs (places.Register (layout_of p)) h.place h.leads.0 h.rest h.leads.2 refl)))

-- ---- a whole record

frames-spelled : (layout : Layout) (xs : List Item) (place to : Place) → AreItems place xs to → HasLayout layout place
    → items_spelling place xs ≡ flat_map (spelled_frame layout.format) (flat_map frame_in xs)
frames-spelled layout [] place to h b = refl
frames-spelled layout (items.Header p ∷ xs) place to h b = absurd (no_header layout place p b (can_stand place (items.Header p) h.0))
frames-spelled layout (items.Frame f ∷ xs) place to h b =
    let rest = items_spelling (after place (items.Frame f)) xs in
    ap (λ (bytes : List ℕ). bytes ++ rest) (one-spelled layout place f h.0 b)
    ∙ ap (λ (bytes : List ℕ). spelled_frame layout.format f ++ bytes) (frames-spelled layout xs (after place (items.Frame f)) to h.1
    (keeps_layout layout place (items.Frame f) (can_stand place (items.Frame f) h.0) b))
    ∙ sym (flat_map-cons (spelled_frame layout.format) f (flat_map frame_in xs))
    ∙ ap (flat_map (spelled_frame layout.format)) (sym (flat_map-cons frame_in (items.Frame f) xs))

spelling-is : (xs : List Item) (to : Place) → AreItems places.Header xs to → items_spelling places.Header xs ≡ spelled_items xs
spelling-is [] to h = refl
spelling-is (items.Frame f ∷ xs) to h = elim (can_stand places.Header (items.Frame f) h.0) [ ]
spelling-is (items.Header p ∷ xs) to h =
    ap (λ (bytes : List ℕ). spelled_header p ++ bytes)
    (frames-spelled (layout_of p) xs (places.Register (layout_of p)) to h.1 refl)

-- a whole record is the spelling of its items
pub whole-spelled : (bytes : List ℕ) → AreBytes bytes → fault_in bytes ≡ None → bytes ≡ spelled_items (items_in bytes)
whole-spelled bytes are none = by ((decoded_is bytes are).whole none)
  where
    by : IsWhole bytes → bytes ≡ spelled_items (items_in bytes)
    by (xs, h, spelled) =
        let d = all_leads xs places.End bytes [] (all_leads_on xs places.End bytes h spelled) in
        let is : items_in bytes ≡ xs = ap (λ (x : Decoded). x.items) d
        ∙ ap (λ (r : Read Item). xs ++ (with_next places.End r (decoded (length bytes - length xs))).items) (nil_more places.End)
        ∙ append-nil xs in
        spelled ∙ spelling-is xs places.End h ∙ ap spelled_items (sym is)
