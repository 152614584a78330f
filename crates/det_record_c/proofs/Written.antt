-- What is written after a record that was written so far.
use Rattle.std.proofs.Common.{◌≡◌, ◌==◌, ℕ, ◌<◌, ◌≤◌, Bool, true, false, cond, List, [], ◌∷◌, ◌++◌, length, take, drop, refl, sym, ap, subst, ◌∙◌, append_assoc, arith}
use Rattle.std.proofs.lemmas.List.{append-nil, take_at, drop_at}
use Rattle.det_values.specs.declared.frames.Frame.TheVariants as frames
use Rattle.record_grammar.specs.declared.place.Place.{Place}
use Rattle.record_grammar.specs.declared.place.Place.TheVariants as places
use Rattle.record_grammar.specs.declared.item.Item.{Item}
use Rattle.record_grammar.specs.declared.item.Item.TheVariants as items
use Rattle.record_grammar.specs.Places.{after, CanFollow}
use Rattle.record_grammar.specs.Laws.{MayStand, AreItems, item_spelling, items_spelling}
use Rattle.c_types.specs.declared.record.DetRecord.{DetRecord}
use Rattle.c_types.specs.Places.{layout_in, place_of}
use Rattle.det_record_c.specs.Puts.{Puts}
use Rattle.det_record_c.specs.Parts.{Written, CallState, PutsFront, IsAdded, Fits, spelling_in, HasFields}
use Rattle.det_record_c.proofs.Putting.{put_in_front}

-- ---- places

-- what holds of each place holds of the place of a record
by_stage : (P : Place → Type 0) (a b : Place) (t : Bool) → P a → P b → P (cond t a b)
by_stage P a b true x y = x
by_stage P a b false x y = y

pub at_place : (P : Place → Type 0) (r : DetRecord) → P places.Header → P (places.Register (layout_in r))
    → P (places.Discover (layout_in r)) → P (places.Init (layout_in r)) → P (places.Runs (layout_in r) r.cycles) → P places.End
    → P (place_of r)
at_place P r header register discover init runs end =
    by_stage P _ _ (r.stage == 0) header
    (by_stage P _ _ (r.stage == 1) register
    (by_stage P _ _ (r.stage == 2) discover (by_stage P _ _ (r.stage == 3) init (by_stage P _ _ (r.stage == 4) runs end))))

-- an item that may come is spelled in the record's format
pub spelling_is : (r : DetRecord) (item : Item) → CanFollow (place_of r) item → item_spelling (place_of r) item ≡ spelling_in r item
spelling_is r (items.Header p) h = refl
spelling_is r (items.Frame f) h =
    at_place (λ place. CanFollow place (items.Frame f) → item_spelling place (items.Frame f) ≡ spelling_in r (items.Frame f)) r
    (λ e. elim e [ ]) (λ _. refl) (λ _. refl) (λ _. refl) (λ _. refl) (λ e. elim e [ ]) h

-- it may come there, since its fields are in their ranges
pub may_stand : (r : DetRecord) (item : Item) → CanFollow (place_of r) item → HasFields r item → MayStand (place_of r) item
may_stand r (items.Header p) h fields =
    at_place (λ place. CanFollow place (items.Header p) → MayStand place (items.Header p)) r (λ _. fields) (λ e. absurd e) (λ e. absurd e)
    (λ e. absurd e) (λ e. absurd e) (λ e. absurd e) h
may_stand r (items.Frame frames.Register) h fields =
    at_place (λ place. CanFollow place (items.Frame frames.Register) → MayStand place (items.Frame frames.Register)) r (λ e. absurd e)
    (λ _. tt) (λ e. absurd e) (λ e. absurd e) (λ e. absurd e) (λ e. absurd e) h
may_stand r (items.Frame frames.Discover) h fields =
    at_place (λ place. CanFollow place (items.Frame frames.Discover) → MayStand place (items.Frame frames.Discover)) r (λ e. absurd e)
    (λ e. absurd e) (λ _. tt) (λ e. absurd e) (λ e. absurd e) (λ e. absurd e) h
may_stand r (items.Frame (frames.Init es)) h fields =
    at_place (λ place. CanFollow place (items.Frame (frames.Init es)) → MayStand place (items.Frame (frames.Init es))) r (λ e. absurd e)
    (λ e. absurd e) (λ e. absurd e) (λ _. fields) (λ e. absurd e) (λ e. absurd e) h
may_stand r (items.Frame (frames.Run run)) h fields =
    at_place (λ place. CanFollow place (items.Frame (frames.Run run)) → MayStand place (items.Frame (frames.Run run))) r (λ e. absurd e)
    (λ e. absurd e) (λ e. absurd e) (λ e. absurd e) (λ few. (few, fields)) (λ e. absurd e) h
may_stand r (items.Frame frames.Terminate) h fields =
    at_place (λ place. CanFollow place (items.Frame frames.Terminate) → MayStand place (items.Frame frames.Terminate)) r (λ e. absurd e)
    (λ e. absurd e) (λ e. absurd e) (λ e. absurd e) (λ _. tt) (λ e. absurd e) h

-- ---- one item more

stand_behind : (xs : List Item) (x : Item) (place to : Place) → AreItems place xs to → MayStand to x
    → AreItems place (xs ++ x ∷ []) (after to x)
stand_behind [] x place to h s = (subst (λ (p : Place). MayStand p x) (sym h) s, ap (λ (p : Place). after p x) h)
stand_behind (y ∷ xs) x place to h s = (h.0, stand_behind xs x (after place y) to h.1 s)

spelled_behind : (xs : List Item) (x : Item) (place to : Place) → AreItems place xs to
    → items_spelling place (xs ++ x ∷ []) ≡ items_spelling place xs ++ item_spelling to x
spelled_behind [] x place to h = append-nil (item_spelling place x) ∙ ap (λ (p : Place). item_spelling p x) h
spelled_behind (y ∷ xs) x place to h =
    ap (λ (bytes : List ℕ). item_spelling place y ++ bytes) (spelled_behind xs x (after place y) to h.1)
    ∙ sym (append_assoc (item_spelling place y) (items_spelling (after place y) xs) (item_spelling to x))

pub written_behind : (old new : DetRecord) (item : Item) (bytes : List ℕ) → MayStand (place_of old) item
    → place_of new ≡ after (place_of old) item → bytes ≡ item_spelling (place_of old) item
    → (items : List Item) (before : List ℕ) → Written old items before → Written new (items ++ item ∷ []) (before ++ bytes)
written_behind old new item bytes s p e items before w = record {
  stand = subst (AreItems places.Header (items ++ item ∷ [])) (sym p) (stand_behind items item places.Header (place_of old) w.stand s);
  spelling =
      ap (λ (xs : List ℕ). xs ++ bytes) w.spelling ∙ ap (λ (xs : List ℕ). items_spelling places.Header items ++ xs) e
      ∙ sym (spelled_behind items item places.Header (place_of old) w.stand);
}

-- ---- the front of the room

pub puts_front : (bytes old new : List ℕ) (end written : ℕ) → Puts 0 bytes old end new → length old ≤ 18446744073709551615
    → length bytes ≤ length old → written ≡ end → PutsFront bytes old new written
puts_front bytes old new end written p few fits w =
    let n : written ≡ length bytes = omega (arith, p.counted, few, fits, w) in
    let is : new ≡ bytes ++ drop (length bytes) old = put_in_front bytes old new end p few fits in
    record {
      bytes_are = ap (λ (k : ℕ). take k new) n ∙ ap (take (length bytes)) is ∙ take_at bytes (drop (length bytes) old) (length bytes) refl;
      room = omega (arith, n, fits);
      behind =
          ap (λ (k : ℕ). drop k new) n ∙ ap (drop (length bytes)) is ∙ drop_at bytes (drop (length bytes) old) (length bytes) refl
          ∙ sym (ap (λ (k : ℕ). drop k old) n);
    }

-- bytes that were counted within the room fit
pub counted_fit : (bytes old new room : List ℕ) (end : ℕ) → Puts 0 bytes old end new → end ≤ length room
    → length room < 18446744073709551615 → length bytes ≤ length room
counted_fit bytes old new room end p le few = omega (arith, p.counted, le, few)

pub is_added : (item : Item) (old new : CallState) (end : ℕ) → CanFollow (place_of old.state) item → HasFields old.state item
    → place_of new.state ≡ after (place_of old.state) item → Puts 0 (spelling_in old.state item) old.out end new.out
    → length old.out ≤ 18446744073709551615 → length (spelling_in old.state item) ≤ length old.out → new.written ≡ end
    → Fits old.state item old.out × IsAdded item old new
is_added item old new end can fields place puts few fits w =
    let is : spelling_in old.state item ≡ item_spelling (place_of old.state) item = sym (spelling_is old.state item can) in
    let front : PutsFront (item_spelling (place_of old.state) item) old.out new.out new.written =
    subst (λ (xs : List ℕ). PutsFront xs old.out new.out new.written) is
    (puts_front (spelling_in old.state item) old.out new.out end new.written puts few fits w) in (
      subst (λ (xs : List ℕ). length xs ≤ length old.out) is fits,
      record {
        written =
            written_behind old.state new.state item (take new.written new.out) (may_stand old.state item can fields) place front.bytes_are;
        place = place;
        spelling = front;
      },
    )
