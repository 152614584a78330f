-- The items that a reader gives, one after another.
use Rattle.std.proofs.Common.{◌≡◌, ◌≤◌, ◌+◌, ℕ, zero, true, List, [], ◌∷◌, ◌++◌, length, None, refl, sym, ap, subst, ◌∙◌, arith}
use Rattle.std.specs.List.{list_any}
use Rattle.det_values.specs.declared.frames.Frame.{Frame}
use Rattle.det_values.specs.declared.frames.Frame.TheVariants.{Register, Discover, Init, Run, Terminate}
use Rattle.det_values.specs.Values.{ProfileValue}
use Rattle.record_grammar.specs.declared.place.Layout.{Layout}
use Rattle.record_grammar.specs.declared.place.Place.{Place}
use Rattle.record_grammar.specs.declared.place.Place.TheVariants as places
use Rattle.record_grammar.specs.declared.item.Item.{Item}
use Rattle.record_grammar.specs.declared.item.Item.TheVariants as items
use Rattle.record_grammar.specs.Read.{Read, Got}
use Rattle.record_grammar.specs.Grammar.{item_at}
use Rattle.record_grammar.specs.Laws.{MayStand}
use Rattle.record_grammar.specs.Places.{after, layout_of, format_of, CanFollow, may_come}
use Rattle.record_grammar.specs.Record.{items as items_in, fault as fault_in, Decoded, with_next, decoded}
use Rattle.record_grammar.specs.Leads.{Leads}
use Rattle.record_grammar.specs.Spelling.{CanSpell}
use Rattle.record_grammar.proofs.Leads.{can_follow, leads_grow, all_leads, room_falls}
use Rattle.record_grammar.proofs.lemmas.record_laws.AllItems.{items_lead}
use Rattle.record_grammar.proofs.lemmas.record_laws.Whole.{nil_more}
pub use Rattle.record_grammar.proofs.lemmas.record_laws.AfterHeader.{HasLayout}
use Rattle.record_grammar.proofs.lemmas.record_laws.AfterHeader.{layout_along, no_header}
use Rattle.record_reader.specs.declared.item_reader.reader.ItemReader.{ItemReader}
use Rattle.record_reader.specs.item_reader.StandsFor.{StandsFor, place_of, unread}
use Rattle.record_reader.specs.ItemTaker.{AreFirst}
use Rattle.record_reader.specs.SalvageState.{format_after}
use Rattle.record_reader.specs.Salvaged.{is_init}
use Rattle.record_reader.proofs.Spellable.{spells_in_runs}

-- what comes before the last item that was read
pub record LastItem (place : Place) (bytes : List ℕ) (given : List Item) (x : Item) (rest : List ℕ) : Type 0 where
  pub at : Place
  pub here : List ℕ
  pub leads : Leads place bytes given at here
  pub got : item_at at here ≡ Got (x, rest)

pub last_item : (given : List Item) (place to : Place) (bytes rest : List ℕ) (x : Item) → Leads place bytes (given ++ x ∷ []) to rest
    → LastItem place bytes given x rest
last_item [] place to bytes rest x h = record {
  at = place;
  here = bytes;
  leads = (refl, refl);
  got = h.1
      ∙ ap (λ (xs : List ℕ). got_of x xs) h.2.1;
}
  where
    got_of : Item → List ℕ → Read Item
    got_of x xs = Got (x, xs)
last_item (y ∷ given) place to bytes rest x h = let l = last_item given (after place y) to h.0 rest x h.2 in
    record { at = l.at; here = l.here; leads = (h.0, h.1, l.leads); got = l.got }

-- ---- the layout of a header stays

spells_at : (layout : Layout) (place : Place) (bytes rest : List ℕ) (f : Frame) → HasLayout layout place → CanFollow place (items.Frame f)
    → item_at place bytes ≡ Got (items.Frame f, rest) → CanSpell layout.format layout.events f
spells_at layout (places.Register l) bytes rest Register h k e = tt
spells_at layout (places.Discover l) bytes rest Discover h k e = tt
spells_at layout (places.Init l) bytes rest (Init elements) h k e = tt
spells_at layout (places.Runs l before) bytes rest (Run r) h k e =
    subst (λ (x : Layout). CanSpell x.format x.events (Run r)) h (spells_in_runs l before bytes rest (Run r) e)
spells_at layout (places.Runs l before) bytes rest Terminate h k e = tt
spells_at layout place bytes rest f h k e = elim k [ ]

pub header_first : (p : ProfileValue) (xs : List Item) (to : Place) (bytes rest : List ℕ)
    → Leads places.Header bytes (items.Header p ∷ xs) to rest → HasLayout (layout_of p) to
header_first p xs to bytes rest h = layout_along (layout_of p) xs (places.Register (layout_of p)) to h.0 rest h.2 refl

can_spell : (p : ProfileValue) (xs : List Item) (f : Frame) (to : Place) (bytes rest : List ℕ)
    → Leads places.Header bytes (items.Header p ∷ (xs ++ items.Frame f ∷ [])) to rest → CanSpell p.format (length p.events) f
can_spell p xs f to bytes rest h =
    let l = last_item (items.Header p ∷ xs) places.Header to bytes rest (items.Frame f) h in
    spells_at (layout_of p) l.at l.here rest f (header_first p xs l.at bytes l.here l.leads)
    (can_follow l.at l.here (items.Frame f) rest l.got) l.got

-- no header comes after a header
one_header : (p q : ProfileValue) (xs : List Item) (to : Place) (bytes rest : List ℕ)
    → Leads places.Header bytes (items.Header p ∷ (xs ++ items.Header q ∷ [])) to rest → ⊥
one_header p q xs to bytes rest h =
    let l = last_item (items.Header p ∷ xs) places.Header to bytes rest (items.Header q) h in
    no_header (layout_of p) l.at q (header_first p xs l.at bytes l.here l.leads) (can_follow l.at l.here (items.Header q) rest l.got)

-- ---- the first item, and the last place

-- the first item is no frame
pub first_is_header : (f : Frame) (xs : List Item) (to : Place) (bytes rest : List ℕ) → Leads places.Header bytes (items.Frame f ∷ xs) to rest
    → ⊥
first_is_header f xs to bytes rest l = elim (can_follow places.Header bytes (items.Frame f) l.0 l.1) [ ]

-- an item after the first ones of a record: the header comes first and once, and a frame can be
-- spelled after it
abbrev pub NextIs : List Item → Item → Type 0
NextIs [] (items.Header p) = Unit {0}
NextIs [] (items.Frame f) = ⊥
NextIs (items.Header p ∷ xs) (items.Header q) = ⊥
NextIs (items.Header p ∷ xs) (items.Frame f) = CanSpell p.format (length p.events) f
NextIs (items.Frame f ∷ xs) x = ⊥

pub next_is : (given : List Item) (x : Item) → AreFirst (given ++ x ∷ []) → NextIs given x
next_is [] (items.Header p) h = tt
next_is [] (items.Frame f) h = first_is_header f [] h.place h.bytes h.rest h.leads
next_is (items.Header p ∷ xs) (items.Header q) h = one_header p q xs h.place h.bytes h.rest h.leads
next_is (items.Header p ∷ xs) (items.Frame f) h = can_spell p xs f h.place h.bytes h.rest h.leads
next_is (items.Frame f ∷ xs) x h = absurd (first_is_header f (xs ++ x ∷ []) h.place h.bytes h.rest h.leads)

-- ---- the format of the frames

format_at : (layout : Layout) (place : Place) (f : Frame) → HasLayout layout place → MayStand place (items.Frame f)
    → format_of place ≡ layout.format
format_at layout places.Header f h may = absurd h
format_at layout (places.Register l) f h may = ap (λ (x : Layout). x.format) h
format_at layout (places.Discover l) f h may = ap (λ (x : Layout). x.format) h
format_at layout (places.Init l) f h may = ap (λ (x : Layout). x.format) h
format_at layout (places.Runs l before) f h may = ap (λ (x : Layout). x.format) h
format_at layout places.End f h may = elim may [ ]

-- a frame after these items has the format of their header
pub same_format : (given : List Item) (place : Place) (bytes rest : List ℕ) (f : Frame) → Leads places.Header bytes given place rest
    → MayStand place (items.Frame f) → format_of place ≡ format_after given
same_format [] place bytes rest f leads may =
    elim (subst (λ (at : Place). MayStand at (items.Frame f)) (sym leads.0) may) [ ]
same_format (items.Header p ∷ xs) place bytes rest f leads may =
    format_at (layout_of p) place f (header_first p xs place bytes rest leads) may
same_format (items.Frame g ∷ xs) place bytes rest f leads may = absurd (first_is_header g xs place bytes rest leads)

-- ---- how many items there are

room_leads : (xs : List Item) (place to : Place) (bytes rest : List ℕ) → Leads place bytes xs to rest
    → length xs + may_come to ≤ may_come place
room_leads [] place to bytes rest l = let e : may_come place ≡ may_come to = ap may_come l.0 in omega arith
room_leads (x ∷ xs) place to bytes rest l =
    let fell = room_falls place x (can_follow place bytes x l.0 l.1) in
    let others : length xs + may_come to ≤ may_come (after place x) = room_leads xs (after place x) to l.0 rest l.2 in
    omega (arith, fell, others)

pub few_first : (given : List Item) → AreFirst given → length given ≤ 1000005
few_first given h = let few = room_leads given places.Header h.place h.bytes h.rest h.leads in omega (arith, few)

-- ---- where a record is whole

abbrev BeforeInit : Place → Type 0
BeforeInit places.Header = Unit {0}
BeforeInit (places.Register layout) = Unit {0}
BeforeInit (places.Discover layout) = Unit {0}
BeforeInit (places.Init layout) = Unit {0}
BeforeInit place = ⊥

next_init : (place : Place) (x : Item) (xs : List Item) → CanFollow place x → BeforeInit place
    → (BeforeInit (after place x) → list_any is_init xs ≡ true) → list_any is_init (x ∷ xs) ≡ true
next_init places.Header (items.Header p) xs k h next = next tt
next_init (places.Register l) (items.Frame Register) xs k h next = next tt
next_init (places.Discover l) (items.Frame Discover) xs k h next = next tt
next_init (places.Init l) (items.Frame (Init elements)) xs k h next = refl
next_init places.Header x xs k h next = elim k [ ]
next_init (places.Register l) x xs k h next = elim k [ ]
next_init (places.Discover l) x xs k h next = elim k [ ]
next_init (places.Init l) x xs k h next = elim k [ ]
next_init place x xs k h next = elim h [ ]

passes_init : (xs : List Item) (place : Place) (bytes rest : List ℕ) → Leads place bytes xs places.End rest → BeforeInit place
    → list_any is_init xs ≡ true
passes_init [] place bytes rest l h = absurd (subst BeforeInit l.0 h)
passes_init (x ∷ xs) place bytes rest l h = next_init place x xs (can_follow place bytes x l.0 l.1) h
    (λ b. passes_init xs (after place x) l.0 rest l.2 b)

-- Init is among the items of a whole record
pub whole_has_init : (bytes : List ℕ) → fault_in bytes ≡ None → list_any is_init (items_in bytes) ≡ true
whole_has_init bytes e =
    let all = items_lead bytes in
    let leads = subst (λ (to : Place). Leads places.Header bytes (items_in bytes) to all.rest) (all.end e) all.leads in
    passes_init (items_in bytes) places.Header bytes all.rest leads tt

-- ---- what may still come

-- the returned items come first in a record
pub are_first : (r : ItemReader) (read : List ℕ) (given : List Item) → StandsFor r read given → AreFirst given
are_first r read given h = record { bytes = read; place = place_of r; rest = unread r; leads = h.leads }

-- the returned items are the first of all, whatever comes after
pub more_items : (r : ItemReader) (read : List ℕ) (given : List Item) → StandsFor r read given → (tail : List ℕ) → (others : List Item)
    × (items_in (read ++ tail) ≡ given ++ others)
more_items r read given h tail =
    let l = leads_grow given places.Header (place_of r) read (unread r) tail h.leads in
    let d = all_leads given (place_of r) (read ++ tail) (unread r ++ tail) l in
    (_, ap (λ (x : Decoded). x.items) d)

-- nothing has no items
pub no-items : items_in [] ≡ []
unfolding decoded
no-items = ap (λ (r : Read Item). (with_next places.Header r (decoded zero)).items) (nil_more places.Header)
