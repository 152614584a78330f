-- The next item, held against one whose bytes are known.
use Rattle.std.proofs.Common.{◌≡◌, ◌≢◌, ℕ, ◌+◌, ◌<◌, ◌≤◌, inl, inr, List, [], ◌∷◌, ◌++◌, length, take, drop, Result, Ok, Err}
use Rattle.std.proofs.Common.{Some, None, refl, sym, ap, subst, ◌∙◌, arith, append_assoc, length-append, length-drop}
use Rattle.std.proofs.lemmas.List.{take-append-drop, drop_all, take_all}
use Rattle.std.proofs.lemmas.List.Elements.{All-append}
use Rattle.det_io.specs.Shelf.{ShelfState, Reads, IsAtEnd}
use Rattle.det_io.specs.declared.failure.Failure.{Failure}
use Rattle.det_io.specs.declared.failure.Failure.TheVariants.{Read, Write, OutOfMemory}
use Rattle.det_io.specs.declared.failure.Stopped.{Stopped}
use Rattle.det_io.specs.declared.failure.Stopped.TheVariants.{Refused, Failed}
use Rattle.det_io.proofs.SlotReads.{reads-then}
use Rattle.record_grammar.specs.declared.record_fault.RecordFault.{RecordFault}
use Rattle.record_grammar.specs.declared.place.Place.{Place}
use Rattle.record_grammar.specs.declared.place.Place.TheVariants as places
use Rattle.record_grammar.specs.declared.item.Item.{Item}
use Rattle.record_grammar.specs.Read as reads
use Rattle.record_grammar.specs.Grammar.{item_at}
use Rattle.record_grammar.specs.Places.{after, CanFollow, may_come}
use Rattle.record_grammar.specs.Record.{items as items_in, fault as fault_in}
use Rattle.record_grammar.specs.Leads.{Leads}
use Rattle.record_grammar.specs.Spelling.{AreBytes}
use Rattle.record_grammar.proofs.Steady.{got_is}
use Rattle.record_grammar.proofs.SteadyFields.{item_steady}
use Rattle.record_grammar.proofs.Leads.{leads_on, leads_grow, all_at_more, all_at_bad, all_at_got, can_follow, room_falls}
use Rattle.record_view.specs.declared.view.ItemView.{ItemView}
use Rattle.record_view.specs.Shows.{ShowsParts, IsSpelling, events_of}
use Rattle.record_view.proofs.Spelled.{front_spells}
use Rattle.record_reader.specs.declared.item_reader.reader.ItemReader.{ItemReader}
use Rattle.record_reader.specs.declared.item_reader.comparison.Comparison.{Comparison}
use Rattle.record_reader.specs.declared.item_reader.comparison.Comparison.TheVariants as likes
use Rattle.record_reader.specs.declared.item_reader.comparison.Front.{Front}
use Rattle.record_reader.specs.declared.item_reader.comparison.Front.TheVariants as fronts
use Rattle.record_reader.specs.item_reader.Held.{held}
use Rattle.record_reader.specs.item_reader.StandsFor.{StandsFor, unread, slot_of, ReadsIfNeeded, HasRead}
use Rattle.record_reader.specs.item_reader.Steps.{GaveAll, count_of}
use Rattle.record_reader.specs.item_reader.Fronts.{Aside, AreNeeded, Restored, Compared}
use Rattle.record_reader.specs.item_reader.Comparison.{ComparisonIs, OtherIs, IsOther}
use Rattle.record_reader.proofs.lemmas.item_reader.Reading.{scan_none}
use Rattle.record_reader.proofs.lemmas.item_reader.Stepping.{needed_then, gave, ended}

-- the result of a comparison, once its front is known
pub compared_as : {front kind : Front} {bytes : List ℕ} {before after : ShelfState} {old new : ItemReader} → front ≡ kind
    → Compared (Ok front) bytes before after old new → Compared (Ok kind) bytes before after old new
compared_as {bytes = bytes} {before = before} {after = after} {old = old} {new = new} is h =
    subst (λ (f : Front). Compared (Ok f) bytes before after old new) is h

abbrev got_item : Item → List ℕ → reads.Read Item
got_item item rest = reads.Got (item, rest)

pub spelled_read : (view : ItemView) (item : Item) (bytes : List ℕ) → IsSpelling view item bytes
    → item_at view.place bytes ≡ reads.Got (item, [])
spelled_read view item bytes s =
    s.shows.read ∙ ap (λ (xs : List ℕ). got_item item xs) (drop_all view.span.len bytes (omega (arith, s.exact)))

-- a front of an item's bytes that isn't all of them begins it
module _ (place : Place) (item : Item) (bytes : List ℕ) (n : ℕ) (read : item_at place bytes ≡ reads.Got (item, [])) (lt : n < length bytes)
  where
    whole : take n bytes ++ drop n bytes ≡ bytes
    whole = take-append-drop n bytes

    front_by : (r : reads.Read Item) → item_at place (take n bytes) ≡ r → item_at place (take n bytes) ≡ reads.More
    front_by reads.More e = e
    front_by (reads.Got x) e =
        let on : item_at place bytes ≡ reads.Got (x.0, x.1 ++ drop n bytes) = ap (item_at place) (sym whole)
        ∙ (item_steady place).got (take n bytes) (drop n bytes) x e in
        let same : (item, []) ≡ (x.0, x.1 ++ drop n bytes) = got_is (item, []) (x.0, x.1 ++ drop n bytes) (sym read ∙ on) in
        let none : 0 ≡ length (x.1 ++ drop n bytes) = ap (λ (p : Item × List ℕ). length p.1) same in
        absurd (omega (arith, none, length-append x.1 (drop n bytes), length-drop n bytes))
    front_by (reads.Bad reason left) e =
        let on : item_at place bytes ≡ reads.Bad reason (left + length (drop n bytes)) = ap (item_at place) (sym whole)
        ∙ (item_steady place).bad (take n bytes) (drop n bytes) reason left e in
        absurd (unlike (sym read ∙ on))
      where
        unlike : reads.Got (item, []) ≡ reads.Bad reason (left + length (drop n bytes)) → ⊥
        unlike e = cc

    pub front_more : item_at place (take n bytes) ≡ reads.More
    front_more = front_by (item_at place (take n bytes)) refl

pub not_longer : (xs ys : List Item) (x : Item) → xs ≡ xs ++ x ∷ ys → ⊥
not_longer xs ys x e = let n : length xs ≡ length (xs ++ x ∷ ys) = ap length e in omega (arith, n, length-append xs (x ∷ ys))

heads_same : (xs ys zs : List Item) (x y : Item) → xs ++ x ∷ ys ≡ xs ++ y ∷ zs → x ≡ y
heads_same [] ys zs x y e = cc
heads_same (w ∷ xs) ys zs x y e = let t : xs ++ x ∷ ys ≡ xs ++ y ∷ zs = ap (drop 1) e in heads_same xs ys zs x y t

-- the item that is read next, where it is known that one is
item_by : (place : Place) (read rest : List ℕ) (given others : List Item) (item : Item) → Leads places.Header read given place rest
    → items_in read ≡ given ++ item ∷ others → (r : reads.Read Item) → item_at place rest ≡ r
    → (left : List ℕ) × (item_at place rest ≡ reads.Got (item, left))
item_by place read rest given others item h e reads.More is =
    absurd (not_longer given others item (sym (all_at_more given place read rest h is).0 ∙ e))
item_by place read rest given others item h e (reads.Bad reason left) is =
    absurd (not_longer given others item (sym (all_at_bad given place read rest reason left h is).0 ∙ e))
item_by place read rest given others item h e (reads.Got x) is =
    let a = all_at_got given place read rest x.0 x.1 h is in
    let same : x.0 ≡ item = heads_same given a.0 others x.0 item (sym a.1 ∙ e) in
    (x.1, is ∙ ap (λ (i : Item). got_item i x.1) same)

-- the bytes that an item was read from are its bytes, whoever gave those
same_bytes : (place : Place) (item : Item) (bytes rest left : List ℕ) → events_of place ≤ 65536 → AreBytes bytes → AreBytes rest
    → item_at place bytes ≡ reads.Got (item, []) → item_at place rest ≡ reads.Got (item, left) → rest ≡ bytes ++ left
same_bytes place item bytes rest left few are_bytes are_rest one other =
    let r = (item_steady place).rest rest (item, left) other in
    let f = front_spells place item r.0 rest few are_rest r.1 (other ∙ ap (λ (xs : List ℕ). got_item item xs) r.2) in
    let n : ℕ = length bytes in
    let g = front_spells place item n bytes few are_bytes (omega arith)
    (one ∙ ap (λ (xs : List ℕ). got_item item xs) (sym (drop_all n bytes (omega arith)))) in
    let b : take r.0 rest ≡ bytes = f.1 ∙ sym g.1 ∙ take_all n bytes (omega arith) in
    sym (take-append-drop r.0 rest) ∙ ap (λ (xs : List ℕ). xs ++ drop r.0 rest) b ∙ ap (λ (xs : List ℕ). bytes ++ xs) (sym r.2)

module _ (old : ItemReader) (read : List ℕ) (given : List Item) (h : StandsFor old read given) where
  leads_more : (more : List ℕ) → Leads places.Header (read ++ more) given old.place (unread old ++ more)
  leads_more more = leads_grow given places.Header old.place read (unread old) more h.leads

  -- what was read was needed
  pub needed_for : (view : ItemView) (item : Item) (bytes more : List ℕ) → old.place ≡ view.place → IsSpelling view item bytes
      → AreNeeded (unread old) bytes more → ReadsIfNeeded read given more
  needed_for view item bytes more place_is s (inl e) = inl e
  needed_for view item bytes more place_is s (inr l) =
      let at : item_at old.place (unread old ++ l.first) ≡ reads.More = ap (λ (p : Place). item_at p (unread old ++ l.first)) place_is
      ∙ ap (item_at view.place) l.front ∙ front_more view.place item bytes l.count (spelled_read view item bytes s) l.short in
      let all = all_at_more given old.place (read ++ l.first) (unread old ++ l.first) (leads_more l.first) at in
      inr (record { first = l.first; last = l.last; is = l.is; some = l.some; before = (all.0, all.1) })

  pub restored_stands : (mid : ItemReader) (more : List ℕ) → Aside old mid
      → Restored (unread old ++ more) (count_of old + length more) mid → StandsFor mid (read ++ more) given
  restored_stands mid more aside k = record {
    leads =
        subst (λ (p : Place). Leads places.Header (read ++ more) given p (unread mid)) (sym aside.place)
        (subst (λ (xs : List ℕ). Leads places.Header (read ++ more) given old.place xs) (sym k.is) (leads_more more));
    scan = scan_none mid.place mid.scan (unread mid) aside.begins.scan;
    counted = omega (arith, k.counted, length-append read more, h.counted);
    going = aside.fault ∙ h.going;
  }

  -- where a byte differs, the next item isn't that of these bytes
  pub is_other : (view : ItemView) (bytes more : List ℕ) → events_of view.place ≤ 65536 → AreBytes bytes
      → AreBytes (unread old ++ more) → ((rest : List ℕ) → unread old ++ more ≢ bytes ++ rest) → old.place ≡ view.place
      → IsOther view bytes (read ++ more) given
  is_other view bytes more few are_bytes are_all ne place_is item others s e =
      let g = item_by old.place (read ++ more) (unread old ++ more) given others item (leads_more more) e
      (item_at old.place (unread old ++ more)) refl in
      ne g.0 (same_bytes view.place item bytes (unread old ++ more) g.0 few are_bytes are_all (spelled_read view item bytes s)
      (ap (λ (p : Place). item_at p (unread old ++ more)) (sym place_is) ∙ g.1))

-- ---- all bytes are the same

pub like_whole : (view : ItemView) (one : Item) (bytes : List ℕ) (before after_it : ShelfState) (old mid new : ItemReader)
    → old.place ≡ view.place → IsSpelling view one bytes → Compared (Ok fronts.Whole) bytes before after_it old mid
    → new.window ≡ mid.window → new.last ≡ mid.last → new.before ≡ mid.before → new.scan ≡ mid.scan → new.fault ≡ mid.fault
    → ((item : Item) (len : ℕ) (xs : List ℕ) → CanFollow view.place item → ShowsParts view.place view.span.kind len xs item
    → new.place ≡ after view.place item)
    → HasRead before after_it old (λ read given. (item : Item) → IsSpelling view item bytes → StandsFor new read (given ++ item ∷ []))
like_whole view one bytes before after_it old mid new place_is s k window last let_go scan fault leads_to = (
  k.more,
  k.reads,
  λ read given h. (needed_for old read given h view one bytes k.more place_is s k.needed, λ item t. stands read given h item t),
  k.are,
)
  where
    left : unread new ≡ unread mid
    left = ap (λ (xs : List ℕ). drop new.last xs) (ap held window) ∙ ap (λ (n : ℕ). drop n (held mid.window)) last

    stands : (read : List ℕ) (given : List Item) → StandsFor old read given → (item : Item) → IsSpelling view item bytes
        → StandsFor new (read ++ k.more) (given ++ item ∷ [])
    stands read given h item t =
        let one : item_at view.place bytes ≡ reads.Got (item, []) = spelled_read view item bytes t in
        let got : item_at old.place (unread old ++ k.more) ≡ reads.Got (item, unread new) =
        ap (λ (p : Place). item_at p (unread old ++ k.more)) place_is ∙ ap (item_at view.place) k.is.0
        ∙ (item_steady view.place).got bytes (unread mid) (item, []) one ∙ ap (λ (xs : List ℕ). got_item item xs) (sym left) in
        let follows : new.place ≡ after old.place item = leads_to item view.span.len bytes (can_follow view.place bytes item [] one)
        t.shows.parts ∙ ap (λ (p : Place). after p item) (sym place_is) in
        record {
          leads =
              subst (λ (to : Place). Leads places.Header (read ++ k.more) (given ++ item ∷ []) to (unread new)) (sym follows)
              (leads_on given places.Header old.place (read ++ k.more) (unread old ++ k.more) item (unread new)
              (leads_grow given places.Header old.place read (unread old) k.more h.leads) got);
          scan = scan_none new.place new.scan (unread new) (scan ∙ k.aside.begins.scan);
          counted = omega (arith, let_go, ap length (ap held window), k.is.1, length-append read k.more, h.counted);
          going = fault ∙ k.aside.fault ∙ h.going;
        }

pub like_falls : (view : ItemView) (item : Item) (bytes : List ℕ) (place to : Place) → place ≡ view.place → IsSpelling view item bytes
    → ((item : Item) (len : ℕ) (xs : List ℕ) → CanFollow view.place item → ShowsParts view.place view.span.kind len xs item
    → to ≡ after view.place item) → may_come to < may_come place
like_falls view item bytes place to place_is s leads_to =
    let kind : CanFollow view.place item = can_follow view.place bytes item [] (spelled_read view item bytes s) in
    subst (λ (p : Place). may_come to < may_come p) (sym place_is)
    (subst (λ (p : Place). may_come p < may_come view.place) (sym (leads_to item view.span.len bytes kind s.shows.parts))
    (room_falls view.place item kind))

-- ---- a byte differs

like_is : (result : Result Comparison (Stopped RecordFault)) (view : ItemView) (bytes : List ℕ) (place : Place) (r : ItemReader) (at_end :
    Type 0)
    (read : List ℕ) (given : List Item) → OtherIs result r at_end read given → (place ≡ view.place → IsOther view bytes read given)
    → ComparisonIs result view bytes place r at_end read given
like_is (Ok likes.Same) view bytes place r at_end read given o other = absurd o
like_is (Ok (likes.Other row)) view bytes place r at_end read given o other = (o, other)
like_is (Err (Refused f)) view bytes place r at_end read given o other = o
like_is (Err (Failed Read)) view bytes place r at_end read given o other = o.0
like_is (Err (Failed Write)) view bytes place r at_end read given o other = absurd o
like_is (Err (Failed OutOfMemory)) view bytes place r at_end read given o other = tt

pub like_differs : (view : ItemView) (item : Item) (bytes : List ℕ) (result : Result Comparison (Stopped RecordFault))
    (before between last : ShelfState) (old mid new : ItemReader) → events_of view.place ≤ 65536 → AreBytes bytes → old.place ≡ view.place
    → IsSpelling view item bytes → Compared (Ok fronts.Differs) bytes before between old mid
    → HasRead between last mid (OtherIs result new (IsAtEnd last (slot_of mid)))
    → HasRead before last old (ComparisonIs result view bytes old.place new (IsAtEnd last (slot_of old)))
like_differs view item bytes result before between last old mid new few are place_is s k q = (
  k.more ++ q.0,
  reads-then k.reads (subst (λ (slot : ℕ). Reads between last slot q.0) k.aside.slot q.1),
  λ read given h. let m = restored_stands old read given h mid k.more k.aside k.is.0 in
      let n = q.2 (read ++ k.more) given m in
      let o : OtherIs result new (IsAtEnd last (slot_of mid)) (read ++ (k.more ++ q.0)) given =
      subst (λ (xs : List ℕ). OtherIs result new (IsAtEnd last (slot_of mid)) xs given) (append_assoc read k.more q.0) n.1 in (
        needed_then read given k.more q.0 (needed_for old read given h view item bytes k.more place_is s k.needed) n.0,
        like_is result view bytes old.place new (IsAtEnd last (slot_of old)) (read ++ (k.more ++ q.0)) given
            (subst (λ (slot : ℕ). OtherIs result new (IsAtEnd last slot) (read ++ (k.more ++ q.0)) given) k.aside.slot o)
            (is_other old read given h view bytes (k.more ++ q.0) few are
            (subst AreBytes (append_assoc (unread old) k.more q.0)
            (All-append (λ b. b < 256) (unread old ++ k.more) q.0 k.is.1 q.3))
            (λ rest e. k.is.2 q.0 rest (append_assoc (unread old) k.more q.0 ∙ e))),
      ),
  All-append (λ b. b < 256) k.more q.0 k.are q.3,
)

-- ---- the slot ends before they do

ends_more : (view : ItemView) (item : Item) (bytes : List ℕ) (before last : ShelfState) (old mid : ItemReader) (read : List ℕ)
    (given : List Item) → old.place ≡ view.place → IsSpelling view item bytes
    → (k : Compared (Ok fronts.Ends) bytes before last old mid) → StandsFor old read given → GaveAll mid (read ++ k.more) given
ends_more view item bytes before last old mid read given place_is s k h = record {
  stands = restored_stands old read given h mid k.more k.aside k.is.0;
  more =
      ap (λ (p : Place). item_at p (unread mid)) (k.aside.place ∙ place_is) ∙ ap (item_at view.place) (k.is.0.is ∙ k.is.2.2)
      ∙ front_more view.place item bytes k.is.2.0 (spelled_read view item bytes s) k.is.2.1;
}

pub like_ends_good : (view : ItemView) (item : Item) (bytes : List ℕ) (before last : ShelfState) (old mid new : ItemReader)
    → old.place ≡ view.place → IsSpelling view item bytes → Compared (Ok fronts.Ends) bytes before last old mid → new ≡ mid
    → ((read : List ℕ) (given : List Item) → GaveAll mid read given → fault_in read ≡ None)
    → HasRead before last old (ComparisonIs (Ok (likes.Other None)) view bytes old.place new (IsAtEnd last (slot_of old)))
like_ends_good view item bytes before last old mid new place_is s k same good = (
  k.more,
  k.reads,
  λ read given h. let a = ends_more view item bytes before last old mid read given place_is s k h in
      let all = (gave mid (read ++ k.more) given a).0 in (
        needed_for old read given h view item bytes k.more place_is s k.needed,
        (
          (subst (λ (r : ItemReader). StandsFor r (read ++ k.more) given) (sym same) a.stands, k.is.1, all, good (read ++ k.more) given a),
          λ p x others t e. not_longer given others x (sym all ∙ e),
        ),
      ),
  k.are,
)

pub like_ends_bad : (view : ItemView) (item : Item) (bytes : List ℕ) (before last : ShelfState) (old mid new : ItemReader) (f : RecordFault)
    → old.place ≡ view.place → IsSpelling view item bytes → Compared (Ok fronts.Ends) bytes before last old mid → new.fault ≡ Some f
    → ((read : List ℕ) (given : List Item) → GaveAll mid read given → fault_in read ≡ Some f)
    → HasRead before last old (ComparisonIs (Err (Refused f)) view bytes old.place new (IsAtEnd last (slot_of old)))
like_ends_bad view item bytes before last old mid new f place_is s k fault bad = (
  k.more,
  k.reads,
  λ read given h. let a = ends_more view item bytes before last old mid read given place_is s k h in (
    needed_for old read given h view item bytes k.more place_is s k.needed,
    (ended f mid (IsAtEnd last (slot_of old)) (read ++ k.more) given k.is.1 a (bad (read ++ k.more) given a), fault),
  ),
  k.are,
)

-- ---- a read failed

failed_is : (failure : Failure) (view : ItemView) (bytes : List ℕ) (before last : ShelfState) (old mid : ItemReader) (at_end : Type 0)
    (read : List ℕ) (given : List Item) → (k : Compared (Err failure) bytes before last old mid) → StandsFor old read given
    → ComparisonIs (Err (Failed failure)) view bytes old.place mid at_end (read ++ k.more) given
failed_is Read view bytes before last old mid at_end read given k h = restored_stands old read given h mid k.more k.aside k.is
failed_is Write view bytes before last old mid at_end read given k h = absurd k.is
failed_is OutOfMemory view bytes before last old mid at_end read given k h = tt

pub like_fails : (failure : Failure) (view : ItemView) (item : Item) (bytes : List ℕ) (before last : ShelfState) (old mid : ItemReader)
    (at_end : Type 0) → old.place ≡ view.place → IsSpelling view item bytes → Compared (Err failure) bytes before last old mid
    → HasRead before last old (ComparisonIs (Err (Failed failure)) view bytes old.place mid at_end)
like_fails failure view item bytes before last old mid at_end place_is s k = (
  k.more,
  k.reads,
  λ read given h. (
    needed_for old read given h view item bytes k.more place_is s k.needed,
    failed_is failure view bytes before last old mid at_end read given k h,
  ),
  k.are,
)
