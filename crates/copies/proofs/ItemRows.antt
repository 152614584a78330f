-- What the results of a reader of views are as rows.
use Rattle.std.proofs.Common.{◌≡◌, ◌⊎◌, inl, inr, ℕ, List, [], ◌∷◌, ◌++◌, length, Option, Some, None, Result, Ok, Err}
use Rattle.std.proofs.Common.{refl, sym, ap, subst, ◌∙◌, append_assoc, arith}
use Rattle.std.specs.Prelude.{IfSome}
use Rattle.std.specs.Option.{option_map}
use Rattle.det_io.specs.declared.failure.Failure.TheVariants.{Read, Write, OutOfMemory}
use Rattle.det_io.specs.declared.failure.Stopped.{Stopped}
use Rattle.det_io.specs.declared.failure.Stopped.TheVariants.{Refused, Failed}
use Rattle.det_io.specs.Prefix.{IsPrefix}
use Rattle.det_io.specs.Shelf.{ShelfState, Reads, Gave, IsAtEnd}
use Rattle.det_io.proofs.SlotReads.{gave-reads, gave-told}
use Rattle.record_grammar.specs.declared.record_fault.RecordFault.{RecordFault}
use Rattle.record_grammar.specs.declared.item.Item.{Item}
use Rattle.record_grammar.specs.declared.place.Place.{Place}
use Rattle.record_grammar.specs.declared.place.Place.TheVariants as places
use Rattle.record_grammar.specs.Record.{items, Decoded}
use Rattle.record_grammar.proofs.Leads.{leads_grow, all_leads}
use Rattle.record_view.specs.declared.view.ItemView.{ItemView}
use Rattle.record_view.specs.Shows.{IsSpelling}
use Rattle.record_reader.specs.declared.item_reader.reader.ItemReader.{ItemReader}
use Rattle.record_reader.specs.declared.item_reader.comparison.Comparison.{Comparison}
use Rattle.record_reader.specs.declared.item_reader.comparison.Comparison.TheVariants as likes
use Rattle.record_reader.specs.item_reader.StandsFor.{StandsFor, HasRead, ReadsIfNeeded, ItemIs, FoundFault, IsFaulty, slot_of, unread}
use Rattle.record_reader.specs.item_reader.Comparison.{ComparisonIs}
use Rattle.copies.specs.declared.row.Row.{Row}
use Rattle.copies.specs.declared.row.Row.TheVariants as rows
use Rattle.copies.specs.Rows.{ShowsRow}
use Rattle.record_reader.proofs.lemmas.item_reader.Needed.{while-weaker, while-then}
use Rattle.copies.specs.Needed.{IsNeeded}
use Rattle.copies.specs.ItemRows.{IsReaderAfter, ReaderShows, ReaderAtRow, IsHeldAs}
use Rattle.copies.specs.Copies.{row_of, copy_answer, CopyStopped, CopyNext, CopyLike}
use Rattle.copies.proofs.Rows.{shows-row, shows-end, at-none}

-- ---- rows

-- the items given are the first of all, whatever follows
more-given : (r : ItemReader) (read : List ℕ) (given : List Item) → StandsFor r read given → (tail : List ℕ) → (others : List Item)
    × (items (read ++ tail) ≡ given ++ others)
more-given r read given h tail =
    let l = leads_grow given places.Header r.place read (unread r) tail h.leads in
    let d = all_leads given r.place (read ++ tail) (unread r ++ tail) l in
    (_, ap (λ (x : Decoded). x.items) d)

item-shown : (r : ItemReader) (at_end : Type 0) (read : List ℕ) (given : List Item) (item : Item) → StandsFor r read (given ++ item ∷ [])
    → ReaderShows (rows.Item item) r at_end read given
item-shown r at_end read given item stands = record {
  shows = λ rest end.
      let all = more-given r read (given ++ item ∷ []) stands rest in
      shows-row given (item ∷ all.0) (read ++ rest) (all.1 ∙ append_assoc given (item ∷ []) all.0);
  on = stands;
}

whole-shown : (r : ItemReader) (at_end : Type 0) (read : List ℕ) (given : List Item) → ItemIs (Ok None) r at_end read given
    → ReaderShows rows.Whole r at_end read given
whole-shown r at_end read given h = record {
  shows = λ rest end. at-none (ShowsRow given rows.Whole) read rest (end h.1) (shows-end given None read h.2 h.3);
  on = h.1;
}

fault-shown : (f : RecordFault) (r : ItemReader) (at_end : Type 0) (read : List ℕ) (given : List Item) → FoundFault f at_end read given
    → ReaderShows (rows.Fault f) r at_end read given
fault-shown f r at_end read given h = record { shows = λ rest end. by rest end h.found; on = h.truncated }
  where
    by : (rest : List ℕ) → (at_end → rest ≡ []) → IsFaulty f read given ⊎ at_end → ShowsRow given (rows.Fault f) (read ++ rest)
    by rest end (inl faulty) = shows-end given (Some f) (read ++ rest) (faulty rest).0 (faulty rest).1
    by rest end (inr at) = at-none (ShowsRow given (rows.Fault f)) read rest (end at) (shows-end given (Some f) read h.before h.is)

-- ---- what other reads leave

pub gave-on : {first mid now : ShelfState} {slot : ℕ} {bytes : List ℕ} → Gave first mid slot bytes → now.left slot ≡ mid.left slot
    → Gave first now slot bytes
gave-on {bytes = bytes} p same = record { left = p.left ∙ ap (option_map (λ rest. bytes ++ rest)) (sym same) }

pub behind-on : {first mid now : ShelfState} {given : List Item} {slot : ℕ} {reader : ItemReader}
    → IsReaderAfter first mid given slot reader
    → now.left slot ≡ mid.left slot → IsReaderAfter first now given slot reader
behind-on h same = record { read = h.read; at = h.at; gave = gave-on h.gave same; stands = h.stands; needed = h.needed }

pub row-on : {first mid now : ShelfState} {given : List Item} {slot : ℕ} {reader : ItemReader} {row : Row}
    → ReaderAtRow first mid given slot reader row → now.left slot ≡ mid.left slot → ReaderAtRow first now given slot reader row
row-on {given = given} {reader = reader} {row = row} h same = record {
  read = h.read;
  at = h.at;
  gave = gave-on h.gave same;
  shown = subst (λ (left : Option (List ℕ)). ReaderShows row reader (IfSome left (λ rest. rest ≡ [])) h.read given) (sym same) h.shown;
  needed = h.needed;
}

-- ---- what is known of the copies

pub behind-begins : {first now : ShelfState} {given : List Item} {slot : ℕ} {reader : ItemReader} (copy : List ℕ)
    → IsReaderAfter first now given slot reader → first.left slot ≡ Some copy → IsPrefix given (items copy)
behind-begins {given = given} {reader = reader} copy h told =
    let all = gave-told copy h.gave told in
    let more = more-given reader h.read given h.stands all.0 in (more.0, sym more.1 ∙ ap items all.2)

pub row-shows : {first now : ShelfState} {given : List Item} {slot : ℕ} {reader : ItemReader} {row : Row} (copy : List ℕ)
    → ReaderAtRow first now given slot reader row → first.left slot ≡ Some copy → ShowsRow given row copy
row-shows {now = now} {given = given} {slot = slot} {row = row} copy h told =
    let all = gave-told copy h.gave told in
    subst (ShowsRow given row) all.2
    (h.shown.shows all.0 (λ end. subst (λ (left : Option (List ℕ)). IfSome left (λ rest. rest ≡ [])) all.1 end))

-- ---- a row of one copy

-- what is read is needed by the row after the items given
pub read-needed : {first now : ShelfState} {given : List Item} {slot : ℕ} {reader : ItemReader}
    (h : IsReaderAfter first now given slot reader) (more : List ℕ) → ReadsIfNeeded h.read given more
    → IsNeeded (length given) (h.read ++ more)
read-needed {given = given} h more need =
    while-then _ h.read more h.needed
    (while-weaker _ _ more (λ first all. (let same = ap length all.0 in omega (arith, same), all.1)) need)

module _ {first mid now : ShelfState} {given : List Item} {slot : ℕ} {reader : ItemReader} (next : ItemReader) (copy : ℕ)
    (at : slot_of next ≡ slot_of reader) (h : IsReaderAfter first mid given slot reader) where
  at-row : (row : Row) (more : List ℕ) → Reads mid now (slot_of reader) more → ReadsIfNeeded h.read given more
      → ReaderShows row next (IsAtEnd now (slot_of reader)) (h.read ++ more) given → ReaderAtRow first now given slot next row
  at-row row more reads need shown = record {
    read = h.read ++ more;
    at = at ∙ h.at;
    gave = gave-reads h.gave (subst (λ (k : ℕ). Reads mid now k more) h.at reads);
    shown = subst (λ (k : ℕ). ReaderShows row next (IsAtEnd now k) (h.read ++ more) given) h.at shown;
    needed = read-needed h more need;
  }

  row-given : (row : Option ItemView) (more : List ℕ) → Reads mid now (slot_of reader) more → ReadsIfNeeded h.read given more
      → ItemIs (Ok row) next (IsAtEnd now (slot_of reader)) (h.read ++ more) given
      → (item : Option Item) × IsHeldAs row next item × ReaderAtRow first now given slot next (row_of item)
  row-given (Some view) more reads need p =
      (Some p.item, p.holds, at-row (rows.Item p.item) more reads need (item-shown next _ (h.read ++ more) given p.item p.stands))
  row-given None more reads need p = (None, tt, at-row rows.Whole more reads need (whole-shown next _ (h.read ++ more) given p))

  fault-given : (f : RecordFault) (more : List ℕ) → Reads mid now (slot_of reader) more → ReadsIfNeeded h.read given more
      → ItemIs (Err (Refused f)) next (IsAtEnd now (slot_of reader)) (h.read ++ more) given
      → CopyStopped (Refused (record { copy = copy; fault = f })) copy first now given slot next
  fault-given f more reads need p = (refl, at-row (rows.Fault f) more reads need (fault-shown f next _ (h.read ++ more) given p.0))

  pub copy-next : (answer : Result (Option ItemView) (Stopped RecordFault))
      → HasRead mid now reader (ItemIs answer next (IsAtEnd now (slot_of reader)))
      → CopyNext (copy_answer copy answer) copy first now given slot next
  copy-next (Ok row) p = row-given row p.0 p.1 (p.2 h.read given h.stands).0
      (p.2 h.read given h.stands).1
  copy-next (Err (Refused f)) p = fault-given f p.0 p.1 (p.2 h.read given h.stands).0
      (p.2 h.read given h.stands).1
  copy-next (Err (Failed Read)) p = λ e. cc
  copy-next (Err (Failed Write)) p = absurd (p.2 h.read given h.stands).1
  copy-next (Err (Failed OutOfMemory)) p = λ e. cc

  pub copy-like : (answer : Result Comparison (Stopped RecordFault)) (place : Place) (view : ItemView) (bytes : List ℕ) (ours : Item)
      → IsSpelling view ours bytes
      → HasRead mid now reader (ComparisonIs answer view bytes place next (IsAtEnd now (slot_of reader)))
      → CopyLike (copy_answer copy answer) copy ours first now given slot next
  copy-like (Ok likes.Same) place view bytes ours spelled p = (
    Some ours,
    refl,
    at-row (rows.Item ours) p.0 p.1 (p.2 h.read given h.stands).0
        (item-shown next _ (h.read ++ p.0) given ours ((p.2 h.read given h.stands).1 ours spelled)),
  )
  copy-like (Ok (likes.Other row)) place view bytes ours spelled p = row-given row p.0 p.1 (p.2 h.read given h.stands).0
      (p.2 h.read given h.stands).1.0
  copy-like (Err (Refused f)) place view bytes ours spelled p = fault-given f p.0 p.1 (p.2 h.read given h.stands).0
      (p.2 h.read given h.stands).1
  copy-like (Err (Failed Read)) place view bytes ours spelled p = λ e. cc
  copy-like (Err (Failed Write)) place view bytes ours spelled p = absurd (p.2 h.read given h.stands).1
  copy-like (Err (Failed OutOfMemory)) place view bytes ours spelled p = λ e. cc

-- two readers after the same items, which are one reader
pub same-slot : {first now : ShelfState} {given : List Item} {a b : ℕ} {reader : ItemReader} → IsReaderAfter first now given a reader
    → IsReaderAfter first now given b reader → a ≡ b
same-slot h k = sym h.at ∙ k.at
