-- Items in their places: appended, completed, spelled.
use Rattle.std.proofs.Common.{◌≡◌, ℕ, ◌≤◌, List, [], ◌∷◌, ◌++◌, length, refl, sym, ap, subst, ◌∙◌, append_assoc, arith, inl, inr, ◌⊎◌}
use Rattle.std.proofs.Common.{length-append, lit≤, lit<}
use Rattle.std.specs.Prelude.{FitsSigned}
use Rattle.std.specs.Int.{w64}
use Rattle.std.proofs.lemmas.List.Elements.{All-nil}
use Rattle.det_values.specs.declared.format.Format.TheVariants.{Two}
use Rattle.det_values.specs.declared.frames.Frame.TheVariants as frames
use Rattle.det_values.specs.Values.{ProfileValue}
use Rattle.record_grammar.specs.declared.place.Place.{Place}
use Rattle.record_grammar.specs.declared.place.Place.TheVariants as places
use Rattle.record_grammar.specs.declared.item.Item.{Item}
use Rattle.record_grammar.specs.declared.item.Item.TheVariants as items
use Rattle.record_grammar.specs.Places.{after}
use Rattle.record_grammar.specs.Spelling.{IsHeader, IsEvent, IsElement, IsFrame, spelled_header, spelled_u16, magic, version}
use Rattle.record_grammar.specs.Laws.{MayStand, AreItems, item_spelling, items_spelling}
use Rattle.record_grammar.specs.record_laws.Statements.{EventsFit}
use Rattle.record_grammar.proofs.lemmas.record_laws.LawfulHeader.{header_is, behind_version}

-- ---- places of a record

-- no more events than two bytes can number
abbrev pub FewEvents : Place → Type 0
FewEvents places.Header = Unit {0}
FewEvents (places.Register layout) = layout.events ≤ 65536
FewEvents (places.Discover layout) = layout.events ≤ 65536
FewEvents (places.Init layout) = layout.events ≤ 65536
FewEvents (places.Runs layout before) = layout.events ≤ 65536
FewEvents places.End = Unit {0}

pub few_fit : (place : Place) → FewEvents place → EventsFit place
few_fit places.Header h = tt
few_fit (places.Register layout) h = tt
few_fit (places.Discover layout) h = tt
few_fit (places.Init layout) h = tt
few_fit (places.Runs layout before) h = h
few_fit places.End h = tt

pub few_after : (place : Place) (x : Item) → MayStand place x → FewEvents place → FewEvents (after place x)
few_after places.Header (items.Header p) h few = omega (arith, h.few_events)
few_after (places.Register layout) (items.Frame frames.Register) h few = few
few_after (places.Discover layout) (items.Frame frames.Discover) h few = few
few_after (places.Init layout) (items.Frame (frames.Init elements)) h few = few
few_after (places.Runs layout before) (items.Frame (frames.Run r)) h few = few
few_after (places.Runs layout before) (items.Frame frames.Terminate) h few = tt
few_after place item h few = elim h [ ]

pub few_along : (xs : List Item) (place to : Place) → AreItems place xs to → FewEvents place → FewEvents to
few_along [] place to h few = subst FewEvents h few
few_along (x ∷ xs) place to h few = few_along xs (after place x) to h.1 (few_after place x h.0 few)

pub is_end : (to : Place) → (to ≡ places.End) ⊎ (to ≡ places.End → ⊥)
is_end places.Header = inr (λ e. absurd cc)
is_end (places.Register layout) = inr (λ e. absurd cc)
is_end (places.Discover layout) = inr (λ e. absurd cc)
is_end (places.Init layout) = inr (λ e. absurd cc)
is_end (places.Runs layout before) = inr (λ e. absurd cc)
is_end places.End = inl refl

pub is_header : (to : Place) → (to ≡ places.Header) ⊎ (to ≡ places.Header → ⊥)
is_header places.Header = inl refl
is_header (places.Register layout) = inr (λ e. absurd cc)
is_header (places.Discover layout) = inr (λ e. absurd cc)
is_header (places.Init layout) = inr (λ e. absurd cc)
is_header (places.Runs layout before) = inr (λ e. absurd cc)
is_header places.End = inr (λ e. absurd cc)

moved_on : (place : Place) (x : Item) → MayStand place x → after place x ≡ places.Header → ⊥
moved_on places.Header (items.Header p) h e = absurd cc
moved_on (places.Register layout) (items.Frame frames.Register) h e = absurd cc
moved_on (places.Discover layout) (items.Frame frames.Discover) h e = absurd cc
moved_on (places.Init layout) (items.Frame (frames.Init elements)) h e = absurd cc
moved_on (places.Runs layout before) (items.Frame (frames.Run r)) h e = absurd cc
moved_on (places.Runs layout before) (items.Frame frames.Terminate) h e = absurd cc
moved_on place item h e = elim h [ ]

-- the header's place is only the first one
pub at_header : (xs : List Item) (place : Place) → AreItems place xs places.Header → (place ≡ places.Header) × (xs ≡ [])
at_header [] place h = (h, refl)
at_header (x ∷ xs) place h = absurd (moved_on place x h.0 (at_header xs (after place x) h.1).0)

-- ---- appended and completed

pub items_append : (xs : List Item) (place to end : Place) (ys : List Item) → AreItems place xs to → AreItems to ys end
    → AreItems place (xs ++ ys) end
items_append [] place to end ys h k = subst (λ (p : Place). AreItems p ys end) (sym h) k
items_append (x ∷ xs) place to end ys h k = (h.0, items_append xs (after place x) to end ys h.1 k)

pub spelling_append : (xs : List Item) (place to : Place) (ys : List Item) → AreItems place xs to → items_spelling place (xs ++ ys)
    ≡ items_spelling place xs ++ items_spelling to ys
spelling_append [] place to ys h = ap (λ (p : Place). items_spelling p ys) h
spelling_append (x ∷ xs) place to ys h =
    ap (λ (b : List ℕ). item_spelling place x ++ b) (spelling_append xs (after place x) to ys h.1)
    ∙ sym (append_assoc (item_spelling place x) (items_spelling (after place x) xs) (items_spelling to ys))

abbrev least_profile : ProfileValue
least_profile = record { format = Two; job = 0; seed = 0; cycle_time = 1; params = []; events = [] }

least_is : IsHeader least_profile
least_is =
    record {
      job = lit< tt;
      seed = lit< tt;
      cycle_time = (lit≤ tt, lit< tt);
      few_params = lit≤ tt;
      params = All-nil (FitsSigned w64);
      few_events = lit≤ tt;
      events = All-nil IsEvent;
      policies = tt;
    }

-- from each place on some items end a record
pub completed : (place : Place) → (xs : List Item) × AreItems place xs places.End
unfolding IsFrame
completed places.Header = (
  items.Header least_profile ∷ items.Frame frames.Register ∷ items.Frame frames.Discover ∷ items.Frame (frames.Init [])
      ∷ items.Frame frames.Terminate ∷ [],
  (least_is, (tt, (tt, ((lit≤ tt, All-nil IsElement), (tt, refl))))),
)
completed (places.Register layout) = (
  items.Frame frames.Register ∷ items.Frame frames.Discover ∷ items.Frame (frames.Init []) ∷ items.Frame frames.Terminate ∷ [],
  (tt, (tt, ((lit≤ tt, All-nil IsElement), (tt, refl)))),
)
completed (places.Discover layout) = (
  items.Frame frames.Discover ∷ items.Frame (frames.Init []) ∷ items.Frame frames.Terminate ∷ [],
  (tt, ((lit≤ tt, All-nil IsElement), (tt, refl))),
)
completed (places.Init layout) =
    (items.Frame (frames.Init []) ∷ items.Frame frames.Terminate ∷ [], ((lit≤ tt, All-nil IsElement), (tt, refl)))
completed (places.Runs layout before) = (items.Frame frames.Terminate ∷ [], (tt, refl))
completed places.End = ([], refl)

-- ---- a header has eight bytes before its first field

length_u16 : (n : ℕ) → length (spelled_u16 n) ≡ 2
unfolding spelled_u16
length_u16 n = refl

length_magic : length magic ≡ 6
unfolding magic
length_magic = refl

header_long : (p : ProfileValue) → 8 ≤ length (spelled_header p)
header_long p =
    let v = spelled_u16 (version p.format) in
    let l : length (spelled_header p) ≡ length (magic ++ (v ++ behind_version p)) = ap (λ (xs : List ℕ). length xs) (header_is p) in
    omega (
      arith,
      l,
      length-append magic (v ++ behind_version p),
      length-append v (behind_version p),
      length_magic,
      length_u16 (version p.format),
    )

pub long_enough : (given : List Item) (to : Place) (rest : List ℕ) → AreItems places.Header given to → (to ≡ places.Header → ⊥)
    → 8 ≤ length (items_spelling places.Header given ++ rest)
long_enough [] to rest h ne = absurd (ne (sym h))
long_enough (items.Header p ∷ xs) to rest h ne =
    let more = items_spelling (after places.Header (items.Header p)) xs in
    omega (arith, header_long p, length-append (spelled_header p ++ more) rest, length-append (spelled_header p) more)
long_enough (items.Frame f ∷ xs) to rest h ne = absurd h.0
