-- The state of a reader after a result over the held bytes.
use Rattle.std.proofs.Common.{◌≡◌, ℕ, ◌+◌, ◌-◌, ◌<◌, ◌≤◌, inl, List, [], ◌∷◌, ◌++◌, length, drop, Option, Some, None, Result, Ok}
use Rattle.std.proofs.Common.{Err, refl, sym, ap, subst, ◌∙◌, arith, length-append}
use Rattle.record_grammar.specs.declared.record_fault.Reason.{Reason}
use Rattle.record_grammar.specs.declared.record_fault.RecordFault.{RecordFault}
use Rattle.record_grammar.specs.declared.place.Place.{Place}
use Rattle.record_grammar.specs.declared.place.Place.TheVariants as places
use Rattle.record_grammar.specs.declared.item.Item.{Item}
use Rattle.record_grammar.specs.Read.{Read, Got, More, Bad}
use Rattle.record_grammar.specs.Grammar.{item_at}
use Rattle.record_grammar.specs.Places.{after, CanFollow, may_come}
use Rattle.record_grammar.specs.Record.{fault as fault_in, fault_from, ending_at, early}
use Rattle.record_grammar.specs.Leads.{Leads}
use Rattle.record_grammar.proofs.SteadyFields.{item_steady}
use Rattle.record_grammar.proofs.Leads.{leads_on, leads_grow, all_at_more, all_at_bad, all_at_got, can_follow, room_falls}
use Rattle.record_view.specs.declared.stop.Stop.{Stop}
use Rattle.record_view.specs.declared.stop.Stop.TheVariants as stops
use Rattle.record_view.specs.declared.view.ItemSpan.{ItemSpan}
use Rattle.record_view.specs.declared.partial.Partial.TheVariants as partials
use Rattle.record_view.specs.declared.partial.Scan.{Scan}
use Rattle.record_view.specs.declared.partial.Step.{Step}
use Rattle.record_view.specs.Shows.{Shows, ShowsParts}
use Rattle.record_view.specs.Scans.{IsScan, IsStep, IsAnswer}
use Rattle.record_view.proofs.Growing.{scanned_grows}
use Rattle.record_reader.specs.declared.item_reader.reader.ItemReader.{ItemReader}
use Rattle.record_reader.specs.item_reader.Held.{held}
use Rattle.record_reader.specs.item_reader.StandsFor.{StandsFor, unread, FoundFault, GaveItem, Holds}
use Rattle.record_reader.specs.item_reader.Steps.{Stays, GaveAll, ReadsOn, count_of, Scanned}
use Rattle.record_reader.proofs.lemmas.item_reader.Unshort.{unshort}

abbrev some_fault : ℕ → Reason → Option RecordFault
some_fault offset reason = Some (record { offset = offset; reason = reason })

-- what the step says, by its result
pub viewed_more : (place : Place) (step : Step) (bytes : List ℕ) → IsStep place step bytes → step.answer ≡ Err stops.More
    → (item_at place bytes ≡ More) × IsScan place step.scan bytes
viewed_more place step bytes h e = subst (λ (a : Result ItemSpan Stop). IsAnswer place a step.scan bytes) e h

pub viewed_bad : (place : Place) (step : Step) (bytes : List ℕ) (reason : Reason) (left : ℕ) → IsStep place step bytes → step.answer
    ≡ Err (stops.Bad reason left) → (item_at place bytes ≡ Bad reason left) × (left ≤ length bytes)
viewed_bad place step bytes reason left h e =
    let b : item_at place bytes ≡ Bad reason left = subst (λ (a : Result ItemSpan Stop). IsAnswer place a step.scan bytes) e h in
    let w : left ≤ 0 + length bytes = (item_steady place).within bytes reason left b in
    (b, omega arith)

pub viewed_ok : (place : Place) (step : Step) (bytes : List ℕ) (span : ItemSpan) → IsStep place step bytes → step.answer ≡ Ok span
    → (item : Item) × Shows place span bytes item
viewed_ok place step bytes span h e = subst (λ (a : Result ItemSpan Stop). IsAnswer place a step.scan bytes) e h

pub unread_held : (r : ItemReader) → r.last ≡ 0 → unread r ≡ held r.window
unread_held r e = ap (λ (n : ℕ). drop n (held r.window)) e

-- what the step over the bytes that are held says
pub view_of : (r : ItemReader) (slice : List ℕ) (step : Step) → r.last ≡ 0 → slice ≡ held r.window
    → (IsScan r.place r.scan slice → IsStep r.place step slice) → Scanned r → IsStep r.place step (unread r)
view_of r slice step none same viewed scan =
    let e : unread r ≡ slice = unread_held r none ∙ sym same in
    subst (λ (xs : List ℕ). IsStep r.place step xs) (sym e) (viewed (subst (λ (xs : List ℕ). IsScan r.place r.scan xs) e scan))

pub view_now : (r : ItemReader) (read : List ℕ) (given : List Item) (slice : List ℕ) (step : Step) → r.last ≡ 0 → slice ≡ held r.window
    → (IsScan r.place r.scan slice → IsStep r.place step slice) → StandsFor r read given → IsStep r.place step (unread r)
view_now r read given slice step none same viewed h = view_of r slice step none same viewed h.scan

-- nothing of an item was read
pub scan_none : (place : Place) (scan : Scan) (bytes : List ℕ) → scan ≡ record { partial = partials.Nothing; read = 0 }
    → IsScan place scan bytes
scan_none place scan bytes e = subst (λ (s : Scan). IsScan place s bytes) (sym e) refl

pub stays_stands : (old new : ItemReader) (read : List ℕ) (given : List Item) → Stays old new → StandsFor old read given
    → StandsFor new read given
stays_stands old new read given s h = record {
  leads =
      subst (λ (xs : List ℕ). Leads places.Header read given new.place xs) (sym s.unread)
      (subst (λ (p : Place). Leads places.Header read given p (unread old)) (sym s.place) h.leads);
  scan = scan_none new.place new.scan (unread new) s.scan;
  counted = s.count ∙ h.counted;
  going = s.fault ∙ h.going;
}

pub unread_grows : (old new : ItemReader) (more : List ℕ) → old.last ≡ 0 → ReadsOn old new → held new.window ≡ held old.window ++ more
    → unread new ≡ unread old ++ more
unread_grows old new more none on is =
    unread_held new (on.last ∙ none) ∙ is ∙ ap (λ (xs : List ℕ). xs ++ more) (sym (unread_held old none))

-- more bytes were read
pub reads_scan : (old new : ItemReader) (more : List ℕ) → old.last ≡ 0 → ReadsOn old new → held new.window ≡ held old.window ++ more
    → Scanned old → Scanned new
reads_scan old new more none on is scan =
    subst (λ (xs : List ℕ). IsScan new.place new.scan xs) (sym (unread_grows old new more none on is))
    (subst (λ (s : Scan). IsScan new.place s (unread old ++ more)) (sym on.scan)
    (subst (λ (p : Place). IsScan p old.scan (unread old ++ more)) (sym on.place)
    (scanned_grows old.place old.scan (unread old) more scan)))

pub reads_stand : (old new : ItemReader) (read more : List ℕ) (given : List Item) → old.last ≡ 0 → ReadsOn old new
    → held new.window ≡ held old.window ++ more → StandsFor old read given → StandsFor new (read ++ more) given
reads_stand old new read more given none on is h =
    let grown : unread old ++ more ≡ unread new = sym (unread_grows old new more none on is) in
    record {
      leads =
          subst (λ (xs : List ℕ). Leads places.Header (read ++ more) given new.place xs) grown
          (subst (λ (p : Place). Leads places.Header (read ++ more) given p (unread old ++ more)) (sym on.place)
          (leads_grow given places.Header old.place read (unread old) more h.leads));
      scan = reads_scan old new more none on is h.scan;
      counted = omega (arith, on.before, ap length is, length-append (held old.window) more, length-append read more, h.counted);
      going = on.fault ∙ h.going;
    }

-- the item that is read next was returned
pub stands_next : (old new : ItemReader) (read : List ℕ) (given : List Item) (item : Item) → StandsFor old read given
    → item_at old.place (unread old) ≡ Got (item, unread new) → (CanFollow old.place item → new.place ≡ after old.place item)
    → IsScan new.place new.scan (unread new) → count_of new ≡ count_of old → new.fault ≡ None → StandsFor new read (given ++ item ∷ [])
stands_next old new read given item h got leads_to scan count going =
    let follows : new.place ≡ after old.place item = leads_to (can_follow old.place (unread old) item (unread new) got) in
    record {
      leads =
          subst (λ (to : Place). Leads places.Header read (given ++ item ∷ []) to (unread new)) (sym follows)
          (leads_on given places.Header old.place read (unread old) item (unread new) h.leads got);
      scan = scan;
      counted = count ∙ h.counted;
      going = going;
    }

-- the item of a view is held
pub next_holds : (old new : ItemReader) (span : ItemSpan) → old.last ≡ 0 → new.window ≡ old.window → new.last ≡ span.len
    → (v : (item : Item) × Shows old.place span (unread old) item) → Holds new (record { place = old.place; span = span }) v.0
next_holds old new span none same last v =
    let all : held new.window ≡ unread old = ap held same ∙ sym (unread_held old none) in
    record { last = sym last; shows = subst (λ (xs : List ℕ). Shows old.place span xs v.0) (sym all) v.1 }

pub next_ok : (old new : ItemReader) (read : List ℕ) (given : List Item) (span : ItemSpan) → old.last ≡ 0 → new.window ≡ old.window
    → new.before ≡ old.before → new.last ≡ span.len → new.fault ≡ None → StandsFor old read given
    → (v : (item : Item) × Shows old.place span (unread old) item)
    → ((item : Item) (len : ℕ) (xs : List ℕ) → CanFollow old.place item → ShowsParts old.place span.kind len xs item
    → new.place ≡ after old.place item) → IsScan new.place new.scan (unread new)
    → GaveItem (record { place = old.place; span = span }) new read given
next_ok old new read given span none same_window same_before last going h v leads_to scan =
    let item : Item = v.0 in
    let shows : Shows old.place span (unread old) item = v.1 in
    let same : held new.window ≡ held old.window = ap held same_window in
    let all : held new.window ≡ unread old = same ∙ sym (unread_held old none) in
    let rest : drop span.len (unread old) ≡ unread new = ap (λ (n : ℕ). drop n (unread old)) (sym last)
    ∙ ap (drop new.last) (sym all) in
    let got : item_at old.place (unread old) ≡ Got (item, unread new) = shows.read ∙ ap (λ (xs : List ℕ). got_item item xs) rest in
    let count : count_of new ≡ count_of old = omega (arith, same_before, ap length same) in
    let others = all_at_got given old.place read (unread old) item (unread new) h.leads got in
    record {
      item = item;
      behind = (unread old, h.leads);
      holds = next_holds old new span none same_window last v;
      stands = stands_next old new read given item h got (λ kind. leads_to item span.len (unread old) kind shows.parts) scan count going;
      others = others.0;
      is = others.1;
    }
  where
    got_item : Item → List ℕ → Read Item
    got_item item rest = Got (item, rest)

-- an item leaves fewer that may come
pub next_falls : (old : ItemReader) (span : ItemSpan) (to : Place) → (v : (item : Item) × Shows old.place span (unread old) item)
    → ((item : Item) (len : ℕ) (xs : List ℕ) → CanFollow old.place item → ShowsParts old.place span.kind len xs item → to
    ≡ after old.place item) → may_come to < may_come old.place
next_falls old span to v leads_to =
    let kind : CanFollow old.place v.0 = can_follow old.place (unread old) v.0 (drop span.len (unread old)) v.1.read in
    subst (λ (p : Place). may_come p < may_come old.place) (sym (leads_to v.0 span.len (unread old) kind v.1.parts))
    (room_falls old.place v.0 kind)

pub next_bad : (old : ItemReader) (read : List ℕ) (given : List Item) (reason : Reason) (left offset : ℕ) → old.last ≡ 0
    → StandsFor old read given → item_at old.place (unread old) ≡ Bad reason left → left ≤ length (unread old)
    → offset ≡ old.before + (length (held old.window) - left) → FoundFault (record { offset = offset; reason = reason }) ⊥ read given
next_bad old read given reason left offset none h bad within is =
    let counted : old.before + length (held old.window) ≡ length read = h.counted in
    let all = all_at_bad given old.place read (unread old) reason left h.leads bad in
    let here : length read - left ≡ offset = omega (arith, ap length (unread_held old none)) in
    let at : (n : ℕ) → n ≡ offset → some_fault n reason ≡ some_fault offset reason = λ n e. ap (λ (m : ℕ). some_fault m reason) e in
    record {
      before = all.0;
      is = all.2 ∙ at (length read - left) here;
      found =
          inl (λ tail. let grown = all_at_bad given old.place (read ++ tail) (unread old ++ tail) reason (left + length tail)
          (leads_grow given places.Header old.place read (unread old) tail h.leads)
          ((item_steady old.place).bad (unread old) tail reason left bad) in (
            grown.0,
            grown.2 ∙ at (length (read ++ tail) - (left + length tail))
                (omega (arith, length-append read tail, ap length (unread_held old none))),
          ));
      truncated =
          λ t. absurd (unshort read (record { offset = offset; reason = reason }) (all.1 ∙ at (length read - left) here) t);
    }

-- ---- the end

pub fault_is : (r : ItemReader) (read : List ℕ) (given : List Item) → GaveAll r read given
    → fault_in read ≡ fault_from (length read) (ending_at r.place)
fault_is r read given h = (all_at_more given r.place read (unread r) h.stands.leads h.more).2

pub ends_early : (place : Place) → (place ≡ places.End → ⊥) → ending_at place ≡ early
ends_early places.Header h = refl
ends_early (places.Register layout) h = refl
ends_early (places.Discover layout) h = refl
ends_early (places.Init layout) h = refl
ends_early (places.Runs layout before) h = refl
ends_early places.End h = absurd (h refl)
