-- Steps of a walk over the items of a record.
use Rattle.std.proofs.Common.{◌≡◌, ◌<◌, ℕ, zero, suc, List, [], ◌∷◌, length, drop, Result, Ok, Err, refl, sym, ap, ◌∙◌, subst, arith}
use Rattle.record_grammar.specs.declared.place.Place.{Place}
use Rattle.record_grammar.specs.declared.place.Place.TheVariants as places
use Rattle.record_grammar.specs.declared.record_fault.Reason.{Reason}
use Rattle.record_grammar.specs.declared.item.Item.{Item}
use Rattle.record_grammar.specs.Read.{Read, Got, More, Bad}
use Rattle.record_grammar.specs.Grammar.{item_at}
use Rattle.record_grammar.specs.Places.{after}
use Rattle.record_grammar.specs.Record.{Decoded, with_next, decoded, ending_at, early, faulty}
use Rattle.record_grammar.proofs.Leads.{item_takes}
use Rattle.record_view.specs.declared.partial.Partial.TheVariants as partials
use Rattle.record_view.specs.declared.partial.Scan.{Scan}
use Rattle.record_view.specs.declared.partial.Step.{Step}
use Rattle.record_view.specs.declared.stop.Stop.{Stop}
use Rattle.record_view.specs.declared.stop.Stop.TheVariants as stops
use Rattle.record_view.specs.declared.view.ItemSpan.{ItemSpan}
use Rattle.record_view.specs.Scans.{IsScan, IsStep, IsAnswer}
use Rattle.record_view.specs.Shows.{Shows}

abbrev pub item_then : Item → Decoded → Decoded
item_then item d = record { items = item ∷ d.items; ending = d.ending }

same_next : (place : Place) (bytes : List ℕ) (n m : ℕ) (r : Read Item) → item_at place bytes ≡ r → length bytes < suc n → length bytes < suc m
    → ((later : Place) (rest : List ℕ) → length rest < n → length rest < m → decoded n later rest ≡ decoded m later rest)
    → with_next place r (decoded n) ≡ with_next place r (decoded m)
same_next place bytes n m (Got x) e h k next =
    let t = item_takes place bytes x e in
    ap (item_then x.0) (next (after place x.0) x.1 (omega (arith, h, t)) (omega (arith, k, t)))
same_next place bytes n m More e h k next = refl
same_next place bytes n m (Bad reason count) e h k next = refl

-- each item has a byte, so a greater number of items gives no more
decoded_enough : (n m : ℕ) (place : Place) (bytes : List ℕ) → length bytes < n → length bytes < m
    → decoded n place bytes ≡ decoded m place bytes
unfolding decoded
decoded_enough zero m place bytes h k = absurd (omega (arith, h))
decoded_enough (suc n) zero place bytes h k = absurd (omega (arith, k))
decoded_enough (suc n) (suc m) place bytes h k =
    same_next place bytes n m (item_at place bytes) refl h k (λ later rest. decoded_enough n m later rest)

-- what is left at a place, by what the grammar reads there
pub left_by : (place : Place) (bytes : List ℕ) → decoded (suc (length bytes)) place bytes
    ≡ with_next place (item_at place bytes) (decoded (length bytes))
unfolding decoded
left_by place bytes = refl

-- after an item
pub left_after : (place : Place) (bytes : List ℕ) (item : Item) (rest : List ℕ) → item_at place bytes ≡ Got (item, rest)
    → decoded (suc (length bytes)) place bytes ≡ item_then item (decoded (suc (length rest)) (after place item) rest)
left_after place bytes item rest e =
    let t = item_takes place bytes (item, rest) e in
    left_by place bytes ∙ ap (λ (r : Read Item). with_next place r (decoded (length bytes))) e
    ∙ ap (item_then item) (decoded_enough (length bytes) (suc (length rest)) (after place item) rest (omega (arith, t)) (omega arith))

-- without an item
pub left_at : (place : Place) (bytes : List ℕ) (r : Read Item) → item_at place bytes ≡ r
    → decoded (suc (length bytes)) place bytes ≡ with_next place r (decoded (length bytes))
left_at place bytes r e = left_by place bytes ∙ ap (λ (r : Read Item). with_next place r (decoded (length bytes))) e

-- ---- what the step over the bytes of a walk says

pub view_now : (place : Place) (scan : Scan) (bytes : List ℕ) (step : Step) → scan ≡ record { partial = partials.Nothing; read = 0 }
    → (IsScan place scan bytes → IsStep place step bytes) → IsStep place step bytes
view_now place scan bytes step e viewed = viewed (subst (λ (s : Scan). IsScan place s bytes) (sym e) refl)

pub viewed_ok : (place : Place) (step : Step) (bytes : List ℕ) (span : ItemSpan) → IsStep place step bytes → step.answer ≡ Ok span
    → (item : Item) × Shows place span bytes item
viewed_ok place step bytes span h e = subst (λ (a : Result ItemSpan Stop). IsAnswer place a step.scan bytes) e h

no_items_by : (place : Place) (bytes : List ℕ) (stop : Stop) (scan : Scan) → IsAnswer place (Err stop) scan bytes
    → (decoded (suc (length bytes)) place bytes).items ≡ []
no_items_by place bytes stops.More scan h = ap (λ (d : Decoded). d.items) (left_at place bytes More h.0)
no_items_by place bytes (stops.Bad reason count) scan h = ap (λ (d : Decoded). d.items) (left_at place bytes (Bad reason count) h)

-- no item is left
pub no_items : (place : Place) (step : Step) (bytes : List ℕ) (stop : Stop) → IsStep place step bytes → step.answer ≡ Err stop
    → (decoded (suc (length bytes)) place bytes).items ≡ []
no_items place step bytes stop h e =
    no_items_by place bytes stop step.scan (subst (λ (a : Result ItemSpan Stop). IsAnswer place a step.scan bytes) e h)

-- how a record ends that breaks off
pub ends_at : (place : Place) (step : Step) (bytes : List ℕ) → IsStep place step bytes → step.answer ≡ Err stops.More
    → (decoded (suc (length bytes)) place bytes).ending ≡ ending_at place
ends_at place step bytes h e =
    let more = subst (λ (a : Result ItemSpan Stop). IsAnswer place a step.scan bytes) e h in
    ap (λ (d : Decoded). d.ending) (left_at place bytes More more.0)

pub ends_faulty : (place : Place) (step : Step) (bytes : List ℕ) (reason : Reason) (count : ℕ) → IsStep place step bytes
    → step.answer ≡ Err (stops.Bad reason count) → (decoded (suc (length bytes)) place bytes).ending ≡ faulty reason count
ends_faulty place step bytes reason count h e =
    ap (λ (d : Decoded). d.ending) (left_at place bytes (Bad reason count)
    (subst (λ (a : Result ItemSpan Stop). IsAnswer place a step.scan bytes) e h))

pub ends_early : (place : Place) → (place ≡ places.End → ⊥) → ending_at place ≡ early
ends_early places.Header h = refl
ends_early (places.Register layout) h = refl
ends_early (places.Discover layout) h = refl
ends_early (places.Init layout) h = refl
ends_early (places.Runs layout before) h = refl
ends_early places.End h = absurd (h refl)

-- ---- an item that comes next

pub item_left : (place next : Place) (span : ItemSpan) (bytes rest : List ℕ) (item : Item) → Shows place span bytes item
    → next ≡ after place item → rest ≡ drop span.len bytes
    → decoded (suc (length bytes)) place bytes ≡ item_then item (decoded (suc (length rest)) next rest)
item_left place next span bytes rest item shows to is =
    left_after place bytes item (drop span.len bytes) shows.read
    ∙ ap (λ (xs : List ℕ). item_then item (decoded (suc (length xs)) (after place item) xs)) (sym is)
    ∙ ap (λ (p : Place). item_then item (decoded (suc (length rest)) p rest)) (sym to)

pub item_shorter : (place : Place) (span : ItemSpan) (bytes rest : List ℕ) (item : Item) → Shows place span bytes item
    → rest ≡ drop span.len bytes → length rest < length bytes
item_shorter place span bytes rest item shows is =
    let t = item_takes place bytes (item, drop span.len bytes) shows.read in
    let e = ap length is in
    omega (arith, t, e)

-- an item isn't left where none is
pub not_left : (place : Place) (span : ItemSpan) (bytes : List ℕ) (item : Item) → Shows place span bytes item
    → (decoded (suc (length bytes)) place bytes).items ≡ [] → ⊥
not_left place span bytes item shows none =
    let e = left_after place bytes item (drop span.len bytes) shows.read in
    no_cons (sym (ap (λ (d : Decoded). d.items) e) ∙ none)
  where
    no_cons : {x : Item} {xs : List Item} → x ∷ xs ≡ [] → ⊥
    no_cons h = cc
