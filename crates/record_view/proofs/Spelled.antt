-- The bytes of an item in a place are its only spelling.
use Rattle.std.proofs.Common.{◌≡◌, ℕ, ◌+◌, ◌≤◌, List, [], ◌∷◌, ◌++◌, length, take, drop, refl, sym, ap, ◌∙◌, arith, length-drop}
use Rattle.std.proofs.Common.{length-append}
use Rattle.std.proofs.Math.Seq.{take-append_seam}
use Rattle.std.proofs.lemmas.List.{append-nil}
use Rattle.record_grammar.specs.declared.place.Place.{Place}
use Rattle.record_grammar.specs.declared.place.Place.TheVariants as places
use Rattle.record_grammar.specs.declared.item.Item.{Item}
use Rattle.record_grammar.specs.Read.{Read, Got}
use Rattle.record_grammar.specs.Grammar.{item_at}
use Rattle.record_grammar.specs.Places.{after}
use Rattle.record_grammar.specs.Spelling.{AreBytes}
use Rattle.record_grammar.specs.Laws.{MayStand, item_spelling}
use Rattle.record_grammar.proofs.lemmas.record_laws.InPlaces.{FewEvents}
use Rattle.record_grammar.proofs.lemmas.record_laws.Whole.{spelled_leads, leads_spelled}
use Rattle.record_view.specs.Shows.{events_of}

pub few_of : (place : Place) → events_of place ≤ 65536 → FewEvents place
few_of places.Header h = tt
few_of (places.Register layout) h = h
few_of (places.Discover layout) h = h
few_of (places.Init layout) h = h
few_of (places.Runs layout before) h = h
few_of places.End h = tt

-- what is read from the front of some bytes is spelled by them
pub front_spells : (place : Place) (item : Item) (n : ℕ) (bytes : List ℕ) → events_of place ≤ 65536 → AreBytes bytes → n ≤ length bytes
    → item_at place bytes ≡ Got (item, drop n bytes) → MayStand place item × (take n bytes ≡ item_spelling place item)
front_spells place item n bytes few are le read =
    let s = leads_spelled (item ∷ []) place (after place item) bytes (drop n bytes) (few_of place few) are
    (drop n bytes, read, (refl, refl)) in
    let spell : List ℕ = item_spelling place item in
    let e : bytes ≡ spell ++ drop n bytes = s.1 ∙ ap (λ (xs : List ℕ). xs ++ drop n bytes) (append-nil spell) in
    let l : length bytes ≡ length spell + length (drop n bytes) = ap length e ∙ length-append spell (drop n bytes) in
    let k : n ≡ length spell = omega (arith, l, length-drop n bytes) in
    (s.0.0, ap (λ (m : ℕ). take m bytes) k ∙ ap (take (length spell)) e ∙ take-append_seam spell (drop n bytes))

-- an item's spelling is read as it, whatever follows
pub spelling_read : (place : Place) (item : Item) (rest : List ℕ) → events_of place ≤ 65536 → MayStand place item
    → item_at place (item_spelling place item ++ rest) ≡ Got (item, rest)
spelling_read place item rest few h =
    let l = spelled_leads (item ∷ []) place (after place item) rest (few_of place few) (h, refl) in
    ap (λ (xs : List ℕ). item_at place (xs ++ rest)) (sym (append-nil (item_spelling place item))) ∙ l.1
    ∙ ap (λ (xs : List ℕ). got_item item xs) (l.2.1)
  where
    got_item : Item → List ℕ → Read Item
    got_item item rest = Got (item, rest)
