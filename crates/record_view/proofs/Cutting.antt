-- A view also holds of the item's own bytes, without those after them.
use Rattle.std.proofs.Common.{◌≡◌, ℕ, ◌≤◌, List, [], ◌∷◌, ◌++◌, length, take, drop, refl, sym, ap, subst, ◌∙◌, arith}
use Rattle.std.proofs.Common.{length-take, append_assoc, lit≤}
use Rattle.std.specs.List.{flat_map, All}
use Rattle.std.proofs.lemmas.List.{drop-append-le, take-append-drop, append-nil, append_cancel_right}
use Rattle.det_values.specs.declared.format.Format.{Format}
use Rattle.det_values.specs.declared.frames.CycleInput.{CycleInput}
use Rattle.det_values.specs.declared.frames.Outcome.{Outcome}
use Rattle.det_values.specs.declared.frames.Frame.{Frame}
use Rattle.det_values.specs.declared.frames.Frame.TheVariants as frames
use Rattle.record_grammar.specs.declared.place.Place.{Place}
use Rattle.record_grammar.specs.declared.item.Item.{Item}
use Rattle.record_grammar.specs.declared.item.Item.TheVariants as items
use Rattle.record_grammar.specs.Read.{Read, Got, many}
use Rattle.record_grammar.specs.Grammar.{sample_at, drawn_at, string_at, refusal_at, element_at, item_at}
use Rattle.record_grammar.specs.Places.{format_of}
use Rattle.record_grammar.specs.Laws.{item_spelling}
use Rattle.record_grammar.specs.Spelling.{AreBytes, IsString, IsElement, IsDrawn, IsSample, IsRefusal, spelled_u32, spelled_element}
use Rattle.record_grammar.specs.Spelling.{spelled_drawn, spelled_sample, spelled_refusal}
use Rattle.record_view.specs.declared.view.InputView.{InputView}
use Rattle.record_view.specs.declared.view.OutcomeView.{OutcomeView}
use Rattle.record_view.specs.declared.view.OutcomeView.TheVariants as ends
use Rattle.record_view.specs.declared.view.FrameKind.{FrameKind}
use Rattle.record_view.specs.declared.view.FrameKind.TheVariants as kinds
use Rattle.record_view.specs.declared.view.ItemKind.{ItemKind}
use Rattle.record_view.specs.declared.view.ItemKind.TheVariants as item_kinds
use Rattle.record_view.specs.declared.view.ItemSpan.{ItemSpan}
use Rattle.record_view.specs.Shows.{ShowsInput, ShowsOutcome, ShowsFrame, ShowsParts, Shows, events_of, first_of}
use Rattle.record_view.specs.Laws.{CutShows}
use Rattle.record_grammar.proofs.lemmas.record_laws.Lawful.{IsLawful, AreBytes-rest}
use Rattle.record_grammar.proofs.lemmas.record_laws.LawfulMany.{lawful_many}
use Rattle.record_grammar.proofs.lemmas.record_laws.LawfulParts.{element_lawful, drawn_lawful, any_sample_lawful, refusal_lawful}
use Rattle.record_grammar.proofs.lemmas.record_laws.LawfulParts.{no_bytes, some_drawn, some_sample, at_least_one}
use Rattle.record_grammar.proofs.lemmas.record_laws.LawfulWords.{u32_lawful, string_lawful}
use Rattle.record_view.proofs.Spelled.{front_spells, spelling_read}

-- what is read from one place of some bytes up to another is also read there from any front that
-- has both
read_alone : {A : Type 0} (Fits : A → Type 0) (spell : A → List ℕ) (read : List ℕ → Read A) → IsLawful Fits spell read
    → (front tail : List ℕ) (a : A) (from to : ℕ) → AreBytes (front ++ tail) → from ≤ length front → to ≤ length front
    → read (drop from (front ++ tail)) ≡ Got (a, drop to (front ++ tail)) → read (drop from front) ≡ Got (a, drop to front)
read_alone Fits spell read h front tail a from to are le fits e =
    let bytes : List ℕ = front ++ tail in
    let left : List ℕ = drop to front in
    let s = h.sound (drop from bytes) (a, drop to bytes)
    (AreBytes-rest bytes (take from bytes) (drop from bytes) (sym (take-append-drop from bytes)) are) e in
    let is : drop from front ++ tail ≡ (spell a ++ left) ++ tail = sym (drop-append-le from front tail le) ∙ s.1
    ∙ ap (λ (xs : List ℕ). spell a ++ xs) (drop-append-le to front tail fits) ∙ sym (append_assoc (spell a) left tail) in
    ap read (append_cancel_right (drop from front) (spell a ++ left) tail is) ∙ h.again a left s.0

many_alone : {A : Type 0} (Fits : A → Type 0) (spell : A → List ℕ) (item : List ℕ → Read A) (a : A) → Fits a → IsLawful Fits spell item
    → (n : ℕ) (front tail : List ℕ) (xs : List A) (from to : ℕ) → AreBytes (front ++ tail) → from ≤ length front → to ≤ length front
    → many item n (drop from (front ++ tail)) ≡ Got (xs, drop to (front ++ tail)) → many item n (drop from front) ≡ Got (xs, drop to front)
many_alone {A} Fits spell item a fits h n =
    read_alone (λ (xs : List A). (length xs ≡ n) × All Fits xs) (flat_map spell) (many item n) (lawful_many Fits spell item a fits h n)

cut_input : (events : ℕ) (p : InputView) (front tail : List ℕ) (input : CycleInput) → events ≤ 65536 → AreBytes (front ++ tail)
    → p.outcome_at ≤ length front → ShowsInput events p (front ++ tail) input → ShowsInput events p front input
cut_input events p front tail input few are fits h =
    let s = some_sample events in
    record {
      time = h.time;
      samples =
          many_alone (IsSample (at_least_one events)) spelled_sample (sample_at events) s.0 s.1 (any_sample_lawful events few) p.samples
          front tail input.samples p.samples_at p.outcome_at are (omega (arith, h.order, fits)) fits h.samples;
      few = h.few;
      order = h.order;
      within = fits;
    }

cut_outcome : (format : Format) (view : OutcomeView) (len : ℕ) (front tail : List ℕ) (outcome : Outcome) → AreBytes (front ++ tail)
    → len ≤ length front → ShowsOutcome format view len (front ++ tail) outcome → ShowsOutcome format view len front outcome
cut_outcome format (ends.Finished count at output_at) len front tail outcome are fits h =
    let last : output_at ≤ length front = omega (arith, h.counted, fits) in
    let d = some_drawn format in
    record {
      elements = h.elements;
      output = h.output;
      is = h.is;
      elements_read =
          many_alone (IsDrawn format) (spelled_drawn format) (drawn_at format) d.0 d.1 (drawn_lawful format) count front tail h.elements at
          output_at are (omega (arith, h.order, last)) last h.elements_read;
      output_read =
          read_alone (IsString 1048576) (λ (xs : List ℕ). spelled_u32 (length xs) ++ xs) (string_at 4 1048576)
          (string_lawful 4 1048576 spelled_u32 (u32_lawful 0 1048576 (lit≤ tt) (lit≤ tt))) front tail h.output output_at len are last fits
          h.output_read;
      order = h.order;
      counted = h.counted;
      within = fits;
    }
cut_outcome format (ends.Refused at) len front tail outcome are fits h =
    record {
      place = h.place;
      is = h.is;
      place_read =
          read_alone IsRefusal spelled_refusal refusal_at refusal_lawful front tail h.place at len are (omega (arith, h.order, fits)) fits
          h.place_read;
      order = h.order;
      within = fits;
    }

-- the outcome begins within the item
begins : (format : Format) (view : OutcomeView) (len : ℕ) (bytes : List ℕ) (outcome : Outcome) → ShowsOutcome format view len bytes outcome
    → first_of view ≤ len
begins format (ends.Finished count at output_at) len bytes outcome h = omega (arith, h.order, h.counted)
begins format (ends.Refused at) len bytes outcome h = h.order

cut_frame : (place : Place) (kind : FrameKind) (len : ℕ) (front tail : List ℕ) (frame : Frame) → events_of place ≤ 65536
    → AreBytes (front ++ tail) → len ≤ length front → ShowsFrame place kind len (front ++ tail) frame → ShowsFrame place kind len front frame
cut_frame place kinds.Register len front tail frames.Register few are fits h = h
cut_frame place kinds.Discover len front tail frames.Discover few are fits h = h
cut_frame place (kinds.Init count) len front tail (frames.Init elements) few are fits h = (
  many_alone IsElement spelled_element element_at [] (no_bytes 64) element_lawful count front tail elements 5 len are
      (omega (arith, h.1, fits)) fits h.0,
  h.1,
)
cut_frame place (kinds.Run input outcome) len front tail (frames.Run r) few are fits h = (
  cut_input (events_of place) input front tail r.input few are
      (omega (arith, h.2, begins (format_of place) outcome len (front ++ tail) r.outcome h.1, fits)) h.0,
  cut_outcome (format_of place) outcome len front tail r.outcome are fits h.1,
  h.2,
)
cut_frame place kinds.Terminate len front tail frames.Terminate few are fits h = h
cut_frame place kind len front tail frame few are fits h = elim h [ ]

cut_parts : (place : Place) (kind : ItemKind) (len : ℕ) (front tail : List ℕ) (item : Item) → events_of place ≤ 65536
    → AreBytes (front ++ tail) → len ≤ length front → ShowsParts place kind len (front ++ tail) item → ShowsParts place kind len front item
cut_parts place (item_kinds.Header layout) len front tail (items.Header p) few are fits h = h
cut_parts place (item_kinds.Frame kind) len front tail (items.Frame frame) few are fits h =
    cut_frame place kind len front tail frame few are fits h
cut_parts place kind len front tail item few are fits h = elim h [ ]

cut : (place : Place) (span : ItemSpan) (front tail : List ℕ) (item : Item) → events_of place ≤ 65536 → AreBytes (front ++ tail)
    → span.len ≡ length front → item_at place front ≡ Got (item, []) → Shows place span (front ++ tail) item → Shows place span front item
cut place span front tail item few are is alone h = record {
  read = alone ∙ ap (λ (xs : List ℕ). got item xs) (sym (append_cancel_right (drop span.len front) [] tail
      (sym (drop-append-le span.len front tail (omega (arith, is))) ∙ ap (λ (n : ℕ). drop n (front ++ tail)) is ∙ dropped front tail)));
  within = omega (arith, is);
  parts = cut_parts place span.kind span.len front tail item few are (omega (arith, is)) h.parts;
}
  where
    got : Item → List ℕ → Read Item
    got item rest = Got (item, rest)

    dropped : (front tail : List ℕ) → drop (length front) (front ++ tail) ≡ tail
    dropped [] tail = refl
    dropped (b ∷ front) tail = dropped front tail

pub cut_shows : CutShows
cut_shows place span bytes item few are h =
    let f = front_spells place item span.len bytes few are h.within h.read in
    let front : List ℕ = take span.len bytes in
    let alone : item_at place front ≡ Got (item, []) = ap (item_at place) (f.1 ∙ sym (append-nil (item_spelling place item)))
    ∙ spelling_read place item [] few f.0 in
    let whole = sym (take-append-drop span.len bytes) in
    cut place span front (drop span.len bytes) item few (subst AreBytes whole are)
    (omega (arith, length-take span.len bytes, h.within)) alone (subst (λ (xs : List ℕ). Shows place span xs item) whole h)
