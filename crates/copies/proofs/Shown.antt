-- What the views of items say of the items.
use Rattle.std.proofs.Common.{◌≡◌, ℕ, suc, ◌≤◌, Bool, true, false, cond, ◌&&◌, nat_eq, List, [], ◌∷◌, length, drop, map, None, Some}
use Rattle.std.proofs.Common.{refl, sym, subst, ◌∙◌, arith}
use Rattle.std.specs.Bool.{Decides}
use Rattle.std.specs.Cmp.Lexicographic.{pointwise}
use Rattle.det_values.specs.Values.{ProfileValue}
use Rattle.det_values.specs.Equal.{drawn_eq}
use Rattle.det_values.specs.declared.frames.RunFrame.{RunFrame}
use Rattle.det_values.specs.declared.frames.Frame.{Frame}
use Rattle.det_values.specs.declared.frames.Frame.TheVariants as frames
use Rattle.record_grammar.specs.declared.place.Place.{Place}
use Rattle.record_grammar.specs.declared.place.Layout.{Layout}
use Rattle.record_grammar.specs.declared.item.Item.{Item}
use Rattle.record_grammar.specs.declared.item.Item.TheVariants as items
use Rattle.record_codec.specs.Parts.{ShowsRun}
use Rattle.record_view.specs.declared.view.InputView.{InputView}
use Rattle.record_view.specs.declared.view.OutcomeView.{OutcomeView}
use Rattle.record_view.specs.declared.view.FrameKind.TheVariants as kinds
use Rattle.record_view.specs.declared.view.FrameView.{FrameView}
use Rattle.record_view.specs.declared.view.ItemKind.{ItemKind}
use Rattle.record_view.specs.declared.view.ItemKind.TheVariants as item_kinds
use Rattle.record_view.specs.declared.view.ItemView.{ItemView}
use Rattle.record_view.specs.Parts.{undrawn}
use Rattle.record_view.specs.Shows.{ShowsFrame, ShowsParts, IsSpelling, IsFrameSpelling}
use Rattle.record_view.proofs.Headers.{header_place}
use Rattle.record_view.proofs.InitFrames.{frame_parts}
use Rattle.copies.specs.FirstDifference.{first_apart}

-- ---- frames

pub long_enough : (view : FrameView) (bytes : List ℕ) (frame : Frame) → 5 ≤ view.len → IsFrameSpelling view frame bytes → 5 ≤ length bytes
long_enough view bytes frame le h = omega (arith, h.exact)

run_of : (place : Place) (input : InputView) (outcome : OutcomeView) (len : ℕ) (bytes : List ℕ) (frame : Frame)
    → ShowsFrame place (kinds.Run input outcome) len bytes frame → (run : RunFrame) × ShowsRun place input outcome len bytes run
run_of place input outcome len bytes (frames.Run r) h = (r, record { input_is = h.0; outcome_is = h.1 })
run_of place input outcome len bytes frame h = elim h [ ]

-- the run that the view of a Run frame shows
pub is_run : (view : FrameView) (input : InputView) (outcome : OutcomeView) (bytes : List ℕ) (frame : Frame)
    → view.kind ≡ kinds.Run input outcome → IsFrameSpelling view frame bytes
    → (run : RunFrame) × ShowsRun view.place input outcome (length bytes) bytes run
is_run view input outcome bytes frame is h =
    let r = run_of view.place input outcome view.len bytes frame
    (frame_parts view frame bytes (kinds.Run input outcome) is h) in
    (r.0, subst (λ (len : ℕ). ShowsRun view.place input outcome len bytes r.0) (sym h.exact) r.1)

-- elements without draws differ where their bytes do
pub undrawn_apart : (n : ℕ) (es fs : List (List ℕ)) → first_apart drawn_eq n (map undrawn es) (map undrawn fs)
    ≡ first_apart (pointwise nat_eq) n es fs
undrawn_apart n [] [] = refl
undrawn_apart n [] (f ∷ fs) = refl
undrawn_apart n (e ∷ es) [] = refl
undrawn_apart n (e ∷ es) (f ∷ fs) = by (pointwise nat_eq e f) (undrawn_apart (suc n) es fs)
  where
    by : (b : Bool) → first_apart drawn_eq (suc n) (map undrawn es) (map undrawn fs) ≡ first_apart (pointwise nat_eq) (suc n) es fs
        → cond (b && nat_eq 0 0) (first_apart drawn_eq (suc n) (map undrawn es) (map undrawn fs)) (Some n)
        ≡ cond b (first_apart (pointwise nat_eq) (suc n) es fs) (Some n)
    by true others = others
    by false others = refl

-- ---- headers

-- two headers are in one place
pub header_places : (left right : ItemView) (xs ys : List ℕ) (p q : ProfileValue) → IsSpelling left (items.Header p) xs
    → IsSpelling right (items.Header q) ys → left.place ≡ right.place
header_places left right xs ys p q h k =
    header_place left.place xs p (drop left.span.len xs) h.shows.read
    ∙ sym (header_place right.place ys q (drop right.span.len ys) k.shows.read)

-- a test that decides whether two are equal
pub none-if : {A B : Type 0} (r : Bool) (a b : A) (some : B) → Decides r (a ≡ b) → a ≡ b → None ≡ cond r None (Some some)
none-if true a b some h e = refl
none-if false a b some h e = let no : false ≡ true = h.1 e in absurd cc

pub some-if : {A B : Type 0} (r : Bool) (a b : A) (some : B) → Decides r (a ≡ b) → (a ≡ b → ⊥) → Some some ≡ cond r None (Some some)
some-if true a b some h ne = absurd (ne (h.0 refl))
some-if false a b some h ne = refl

header_of : (place : Place) (layout : Layout) (len : ℕ) (bytes : List ℕ) (item : Item)
    → ShowsParts place (item_kinds.Header layout) len bytes item
    → (p : ProfileValue) × (item ≡ items.Header p)
header_of place layout len bytes (items.Header p) h = (p, refl)
header_of place layout len bytes (items.Frame frame) h = absurd h

pub is_header : (view : ItemView) (bytes : List ℕ) (item : Item) → (layout : Layout) × (view.span.kind ≡ item_kinds.Header layout)
    → IsSpelling view item bytes → (p : ProfileValue) × (item ≡ items.Header p)
is_header view bytes item is h =
    header_of view.place is.0 view.span.len bytes item
    (subst (λ (k : ItemKind). ShowsParts view.place k view.span.len bytes item) is.1 h.shows.parts)
