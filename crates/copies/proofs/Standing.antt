-- A row of all copies.
use Rattle.std.proofs.Common.{◌≡◌, ◌≢◌, inr, ◌<◌, ◌≤◌, ◌+◌, ℕ, List, [], ◌∷◌, ◌++◌, map, length, Option, Some, None, Result, Ok, Err}
use Rattle.std.proofs.Common.{refl, sym, ap, subst, ◌∙◌, length-append, take, drop, arith}
use Rattle.std.proofs.lemmas.List.{append-nil, take_all, drop_all, length-map}
use Rattle.std.specs.Result.{IsErrAnd}
use Rattle.std.specs.List.{AllByRecursion}
use Rattle.std.specs.Option.{option_map, option_or}
use Rattle.det_io.specs.declared.failure.Failure.TheVariants.{Write}
use Rattle.det_io.specs.declared.failure.Stopped.{Stopped}
use Rattle.det_io.specs.declared.failure.Stopped.TheVariants.{Refused, Failed}
use Rattle.det_io.specs.Prefix.{IsPrefix}
use Rattle.det_io.specs.Shelf.{ShelfState}
use Rattle.record_grammar.specs.declared.item.Item.{Item}
use Rattle.record_grammar.specs.Record.{items as items_in}
use Rattle.record_view.specs.declared.view.ItemView.{ItemView}
use Rattle.record_reader.specs.declared.item_reader.reader.ItemReader.{ItemReader}
use Rattle.record_reader.specs.item_reader.StandsFor.{StandsFor, slot_of, room, unread}
use Rattle.record_reader.specs.Salvaged.{cycles_of}
use Rattle.record_reader.specs.InItems.{run_in}
use Rattle.record_reader.proofs.Pieces.{cycles-next, cycles-few}
use Rattle.record_reader.proofs.Items.{few_first}
use Rattle.record_reader.proofs.Kept.{adds}
use Rattle.det_io.proofs.SlotReads.{kept-same}
use Rattle.copies.specs.declared.difference.Difference.{Difference}
use Rattle.copies.specs.declared.row.Row.{Row}
use Rattle.copies.specs.declared.row.Row.TheVariants as rows
use Rattle.copies.specs.declared.verdict.BadCopy.{BadCopy}
use Rattle.copies.specs.declared.verdict.Verdict.{Verdict}
use Rattle.copies.specs.declared.verdict.Verdict.TheVariants.{Agree, Differ}
use Rattle.copies.specs.declared.copies.Copies.{Copies}
use Rattle.copies.specs.Rows.{row_at}
use Rattle.copies.specs.Verdict.{row_difference, first_bad, first_other, judged, row_verdict, verdict}
use Rattle.copies.specs.CompareCopies.{AreDifferent, AreGiven, AreLeft, ReadsAmong, AllEnd}
use Rattle.copies.specs.Copies.{slots_of}
use Rattle.record_reader.proofs.lemmas.item_reader.Needed.{while-weaker}
use Rattle.copies.specs.Needed.{IsNeeded}
use Rattle.copies.specs.ItemRows.{IsReaderAfter, AreReadersAfter, ReaderAtRow, ReadersAtRows, IsHeldAs}
use Rattle.copies.specs.Copies.{row_of, RoomFellIf, CopyNext, CopyStopped}
use Rattle.copies.specs.CompareCopies.{EndsIfAgreed, Compared}
use Rattle.copies.specs.Copies.{FindsBad, OthersRead, IsCounted, AreCopiesAfter, RowRead}
use Rattle.copies.proofs.ItemRows.{behind-begins, row-shows, row-on, same-slot}
use Rattle.copies.proofs.SideBySide.{rows-told, first-bad, all-later, no-fault, among-again}
use Rattle.copies.proofs.Judging.{item-apart, whole-apart, none-other, IsDecided, verdict-is}

-- the items given come first in each copy
pub prefixes : (first now : ShelfState) (given : List Item) (slots : List ℕ) (readers : List ItemReader) (copies : List (List ℕ))
    → AreReadersAfter first now given slots readers → AreLeft first slots copies → AllByRecursion (λ c. IsPrefix given (items_in c)) copies
prefixes first now given [] [] [] h l = tt
prefixes first now given (s ∷ slots) (r ∷ readers) (c ∷ copies) h l =
    (behind-begins c h.0 l.0, prefixes first now given slots readers copies h.1 l.1)
prefixes first now given [] [] (c ∷ copies) h l = absurd l
prefixes first now given (s ∷ slots) (r ∷ readers) [] h l = absurd l
prefixes first now given [] (r ∷ readers) copies h l = absurd h
prefixes first now given (s ∷ slots) [] copies h l = absurd h

-- the readers have these slots
pub slots-are : (first now : ShelfState) (given : List Item) (slots : List ℕ) (readers : List ItemReader)
    → AreReadersAfter first now given slots readers → map slot_of readers ≡ slots
slots-are first now given [] [] h = refl
slots-are first now given (s ∷ slots) (r ∷ readers) h =
    ap (λ x. x ∷ map slot_of readers) h.0.at ∙ ap (λ xs. s ∷ xs) (slots-are first now given slots readers h.1)
slots-are first now given [] (r ∷ readers) h = absurd h
slots-are first now given (s ∷ slots) [] h = absurd h

-- ---- a fault

bad-verdict : (first old now : ShelfState) (given : List Item) (slots : List ℕ) (reader : ItemReader) (readers : List ItemReader)
    (bad : BadCopy) → AreReadersAfter first old given slots (reader ∷ readers) → FindsBad first now given 0 slots bad
    → Compared (Err (Refused bad)) first now slots
bad-verdict first old now given [] reader readers bad h found = absurd h
bad-verdict first old now given (s ∷ slots) reader readers bad h found = record { is = is; ends = found.truncated }
  where
    is : (copies : List (List ℕ)) → AreLeft first (s ∷ slots) copies → verdict copies ≡ Err bad
    is [] l = absurd l
    is (c ∷ copies) l =
        let fine = prefixes first old given (s ∷ slots) (reader ∷ readers) (c ∷ copies) h l in
        let bad-is = found.is (c ∷ copies) l in
        verdict-is given c copies fine.0 fine.1 (decided bad-is)
        ∙ ap (λ o. judged o (first_other (length given) (row_at (length given) c) 1 (map (row_at (length given)) copies)) (cycles_of given))
        bad-is
      where
        decided : first_bad 0 (row_at (length given) c ∷ map (row_at (length given)) copies) ≡ Some bad
            → IsDecided (length given) (row_at (length given) c) (map (row_at (length given)) copies)
        decided b x row none other =
            let no : first_bad 0 (rows.Item x ∷ map (row_at (length given)) copies) ≡ Some bad =
            subst (λ r. first_bad 0 (r ∷ map (row_at (length given)) copies) ≡ Some bad) row b in
            let both : None ≡ Some bad = sym none ∙ no in cc

-- copy 0 stops
pub stop-first : (first old now : ShelfState) (given : List Item) (slots : List ℕ) (reader next : ItemReader)
    (readers : List ItemReader) (stop : Stopped BadCopy) → AreReadersAfter first old given slots (reader ∷ readers)
    → ((slot : ℕ) → IsReaderAfter first old given slot reader → CopyStopped stop 0 first now given slot next)
    → Compared (Err stop) first now slots × (stop ≢ Failed Write)
stop-first first old now given slots reader next readers (Refused bad) h read = (
  bad-verdict first old now given slots reader readers bad h
      (first-bad 0 0 first old now given slots (reader ∷ readers) [] reader next bad h (omega arith) refl refl read),
  λ e. cc,
)
stop-first first old now given [] reader next readers (Failed failure) h read = absurd h
stop-first first old now given (s ∷ slots) reader next readers (Failed failure) h read = (
  record { is = λ copies l. tt; ends = tt },
  λ e. read s h.0 (cc),
)

-- ---- copy 0

pub first-behind : (first now : ShelfState) (given : List Item) (slots : List ℕ) (reader : ItemReader) (readers : List ItemReader)
    → AreReadersAfter first now given slots (reader ∷ readers) → (slot : ℕ) × IsReaderAfter first now given slot reader
first-behind first now given [] reader readers h = absurd h
first-behind first now given (s ∷ slots) reader readers h = (s, h.0)

-- the row of copy 0, whatever its slot is called
pub first-row : (first old now : ShelfState) (given : List Item) (slots : List ℕ) (reader next : ItemReader) (readers : List ItemReader)
    (view : Option ItemView) → AreReadersAfter first old given slots (reader ∷ readers)
    → ((slot : ℕ) → IsReaderAfter first old given slot reader → CopyNext (Ok view) 0 first now given slot next)
    → (item : Option Item) × IsHeldAs view next item
    × ((slot : ℕ) → IsReaderAfter first old given slot reader → ReaderAtRow first now given slot next (row_of item))
first-row first old now given slots reader next readers view h read =
    let b = first-behind first old given slots reader readers h in
    let r = read b.0 b.1 in
    (r.0, r.1, λ slot c. subst (λ (k : ℕ). ReaderAtRow first now given k next (row_of r.0)) (same-slot b.1 c) r.2)

-- ---- all rows

module _ (first old mid now : ShelfState) (given : List Item) (reader next : ItemReader) (readers after : List ItemReader)
    (item : Option Item)
    (read : (slot : ℕ) → IsReaderAfter first old given slot reader → ReaderAtRow first mid given slot next (row_of item))
    (among : ReadsAmong old mid (slot_of reader ∷ [])) where
  left-behind : (s : ℕ) (slots : List ℕ) → AreDifferent (s ∷ slots) → AreReadersAfter first old given (s ∷ slots) (reader ∷ readers)
      → AreReadersAfter first mid given slots readers
  left-behind s slots ne h = all-later first given s slots readers ne.0 (subst (λ (k : ℕ). ReadsAmong old mid (k ∷ [])) h.0.at among) h.1

  -- another copy stops
  pub stop-others : (slots : List ℕ) (stop : Stopped BadCopy) → AreDifferent slots
      → AreReadersAfter first old given slots (reader ∷ readers)
      → ((others : List ℕ) → AreDifferent others → AreReadersAfter first mid given others readers
      → OthersRead (Err stop) (row_of item) first now given others after)
      → Compared (Err stop) first now slots × (stop ≢ Failed Write)
  stop-others [] stop ne h others = absurd h
  stop-others (s ∷ slots) (Refused bad) ne h others =
      (bad-verdict first old now given (s ∷ slots) reader readers bad h (found (others slots ne.1 (left-behind s slots ne h))), λ e. cc)
    where
      found : FindsBad first now given 1 slots bad → FindsBad first now given 0 (s ∷ slots) bad
      found q = record { is = is; truncated = λ t. inr (q.truncated t) }
        where
          is : (copies : List (List ℕ)) → AreLeft first (s ∷ slots) copies
              → first_bad 0 (map (row_at (length given)) copies) ≡ Some bad
          is [] l = absurd l
          is (c ∷ copies) l = ap (λ x. first_bad 0 (x ∷ map (row_at (length given)) copies)) (row-shows c (read s h.0) l.0).is
              ∙ no-fault 0 item (map (row_at (length given)) copies) ∙ q.is copies l.1
  stop-others (s ∷ slots) (Failed failure) ne h others =
      (record { is = λ copies l. tt; ends = tt }, λ e. others slots ne.1 (left-behind s slots ne h) (cc))

  -- all copies gave their rows
  pub all-rows : (slots : List ℕ) (found : Option Verdict) → AreDifferent slots → AreReadersAfter first old given slots (reader ∷ readers)
      → ((others : List ℕ) → AreDifferent others → AreReadersAfter first mid given others readers
      → OthersRead (Ok found) (row_of item) first now given others after)
      → ReadsAmong mid now (map slot_of readers)
      → (more : List Row) × ReadersAtRows first now given slots (next ∷ after) (row_of item ∷ more) × (first_bad 1 more ≡ None)
      × (found ≡ first_other (length given) (row_of item) 1 more)
  all-rows [] found ne h others reads = absurd h
  all-rows (s ∷ slots) found ne h others reads =
      let behind = left-behind s slots ne h in
      let more = others slots ne.1 behind in
      let same = (subst (λ ks. ReadsAmong mid now ks) (slots-are first mid given slots readers behind) reads).others s ne.0 in
      (more.0, (row-on (read s h.0) same, more.1), more.2, more.3)

-- the others are still after the same items
pub others-behind : (first old mid : ShelfState) (given : List Item) (slots : List ℕ) (reader : ItemReader) (readers : List ItemReader)
    → AreDifferent slots → AreReadersAfter first old given slots (reader ∷ readers) → ReadsAmong old mid (slot_of reader ∷ [])
    → (others : List ℕ) × AreDifferent others × AreReadersAfter first mid given others readers
others-behind first old mid given [] reader readers ne h among = absurd h
others-behind first old mid given (s ∷ slots) reader readers ne h among = (
  slots,
  ne.1,
  all-later first given s slots readers ne.0 (subst (λ (k : ℕ). ReadsAmong old mid (k ∷ [])) h.0.at among) h.1,
)

-- ---- the row decides, or all go on

-- the same of a list of rows
abbrev AreDecided : ℕ → List Row → Type 0
AreDecided n [] = ⊥
AreDecided n (row ∷ more) = IsDecided n row more

-- the verdict by the rows
told-verdict : (first old now : ShelfState) (given : List Item) (slots : List ℕ) (before after : List ItemReader) (row : Row)
    (more : List Row) → AreReadersAfter first old given slots before → ReadersAtRows first now given slots after (row ∷ more)
    → IsDecided (length given) row more → (copies : List (List ℕ)) → AreLeft first slots copies
    → verdict copies ≡ row_verdict given (row ∷ more)
told-verdict first old now given slots before after row more h have decided [] l =
    absurd (none (rows-told first now given slots after (row ∷ more) [] have l))
  where
    none : [] ≡ row ∷ more → ⊥
    none e = cc
told-verdict first old now given slots before after row more h have decided (c ∷ copies) l =
    let fine = prefixes first old given slots before (c ∷ copies) h l in
    let told = rows-told first now given slots after (row ∷ more) (c ∷ copies) have l in
    verdict-is given c copies fine.0 fine.1 (λ x is none other. heads told x is none other) ∙ ap (row_verdict given) told
  where
    heads : row_at (length given) c ∷ map (row_at (length given)) copies ≡ row ∷ more
        → IsDecided (length given) (row_at (length given) c) (map (row_at (length given)) copies)
    heads e = subst (λ (rs : List Row). AreDecided (length given) rs) (sym e) decided

all-end : (n : ℕ) (first now : ShelfState) (given : List Item) (slots : List ℕ) (readers : List ItemReader) (more : List Row)
    → ReadersAtRows first now given slots readers more → AllByRecursion (λ r. row_difference n rows.Whole r ≡ None) more
    → AllEnd now slots
all-end n first now given [] [] [] h all = tt
all-end n first now given (s ∷ slots) (r ∷ readers) (row ∷ more) h all =
    let whole = subst (λ x. ReaderAtRow first now given s r x) (whole-apart n row all.0) h.0 in
    (whole.shown.on, all-end n first now given slots readers more h.1 all.1)
all-end n first now given slots readers more h all = absurd h

-- what one row needs later ones do
pub wider : (n m : ℕ) (read : List ℕ) → n ≤ m → IsNeeded n read → IsNeeded m read
wider n m read less h = while-weaker _ _ read (λ first p. (let few = p.0 in omega (arith, less, few), p.1)) h

-- after an item that all hold
on-item : (n : ℕ) (x : Item) (first now : ShelfState) (given : List Item) (slots : List ℕ) (readers : List ItemReader) (more : List Row)
    → ReadersAtRows first now given slots readers more → AllByRecursion (λ r. row_difference n (rows.Item x) r ≡ None) more
    → AreReadersAfter first now (given ++ x ∷ []) slots readers
on-item n x first now given [] [] [] h all = tt
on-item n x first now given (s ∷ slots) (r ∷ readers) (row ∷ more) h all =
    let same = subst (λ y. ReaderAtRow first now given s r y) (sym ((item-apart n x row).0 all.0)) h.0 in (
      record {
        read = same.read;
        at = same.at;
        gave = same.gave;
        stands = same.shown.on;
        needed = wider (length given) (length (given ++ x ∷ [])) same.read (let all = length-append given (x ∷ []) in omega (arith, all))
            same.needed;
      },
      on-item n x first now given slots readers more h.1 all.1,
    )
on-item n x first now given slots readers more h all = absurd h

-- a copy that isn't equal to copy 0 is reported as a difference
differs : (n : ℕ) (row : Row) (copy : ℕ) (more : List Row) (found : Verdict) (state : ShelfState) (slots : List ℕ)
    → Some found ≡ first_other n row copy more → EndsIfAgreed found state slots
differs n row copy [] found state slots e = absurd cc
differs n row copy (r ∷ more) found state slots e = by (row_difference n row r) (differs n row (copy + 1) more found state slots) e
  where
    by : (o : Option Difference) → (Some found ≡ first_other n row (copy + 1) more → EndsIfAgreed found state slots)
        → Some found ≡ option_or (option_map (Differ copy) o) (first_other n row (copy + 1) more) → EndsIfAgreed found state slots
    by (Some x) later e = let is : found ≡ Differ copy x = cc in subst (λ v. EndsIfAgreed v state slots) (sym is) tt
    by None later e = later e

-- the same by the item of copy 0
abbrev IsCountedAs : Option Item → Option Verdict → Option Verdict → Copies → Copies → Type 0
IsCountedAs item (Some found) result old new = result ≡ Some found
IsCountedAs None None result old new = result ≡ Some (Agree old.cycles)
IsCountedAs (Some item) None result old new = (result ≡ None)
    × (new ≡ record old { rows = old.rows + 1; cycles = old.cycles + length (run_in item) })

counted-as : (view : Option ItemView) (reader : ItemReader) (item : Option Item) (found result : Option Verdict) (old new : Copies)
    → IsHeldAs view reader item → IsCounted view found result old new → IsCountedAs item found result old new
counted-as view reader item (Some found) result old new held is = is
counted-as None reader None None result old new held is = is
counted-as (Some view) reader (Some item) None result old new held is = (
  is.0,
  is.1 ∙ ap (λ (n : ℕ). record old { rows = old.rows + 1; cycles = old.cycles + n })
      (adds view.place view.span.kind _ _ item held.shows.parts).runs,
)
counted-as None reader (Some item) None result old new held is = absurd held
counted-as (Some view) reader None None result old new held is = absurd held

-- an item leaves fewer that may come
abbrev FewerCome : Option Item → ℕ → ℕ → Type 0
FewerCome (Some item) old new = new < old
FewerCome None old new = Unit {0}

fewer-come : (view : Option ItemView) (reader : ItemReader) (item : Option Item) (old new : ℕ) → IsHeldAs view reader item
    → RoomFellIf (Ok view) old new → FewerCome item old new
fewer-come (Some view) reader (Some item) old new held fell = fell
fewer-come None reader None old new held fell = tt
fewer-come None reader (Some item) old new held fell = absurd held
fewer-come (Some view) reader None old new held fell = absurd held

row-read-as : (first old now : ShelfState) (given : List Item) (slots : List ℕ) (before after : List ItemReader) (next : ItemReader)
    (item : Option Item) (found result : Option Verdict) (more : List Row) (copies new : Copies) (old_room : ℕ)
    → AreReadersAfter first old given slots before → ReadersAtRows first now given slots (next ∷ after) (row_of item ∷ more)
    → first_bad 1 more ≡ None → found ≡ first_other (length given) (row_of item) 1 more → IsCountedAs item found result copies new
    → copies.first ≡ next → copies.others.items ≡ after → copies.rows ≡ length given → copies.cycles ≡ cycles_of given
    → FewerCome item old_room (room next) → RowRead (Ok result) first now given slots old_room new
row-read-as first old now given slots before after next item (Some found) result more copies new old_room h have sound is goes f o n c
    fell =
    subst (λ (r : Option Verdict). RowRead (Ok r) first now given slots old_room new) (sym goes) (record {
      is = λ told l. told-verdict first old now given slots before (next ∷ after) (row_of item) more h have
          (λ x row none other. let both : Some found ≡ None = is ∙ other in cc) told l
          ∙ ap (λ o. judged o (first_other (length given) (row_of item) 1 more) (cycles_of given)) (no-fault 0 item more ∙ sound)
          ∙ ap (λ o. judged None o (cycles_of given)) (sym is);
      ends = differs (length given) (row_of item) 1 more found now slots is;
    })
row-read-as first old now given slots before after next None None result more copies new old_room h have sound is goes f o n c fell =
    subst (λ (r : Option Verdict). RowRead (Ok r) first now given slots old_room new) (sym (goes ∙ ap (λ k. Some (Agree k)) c)) (record {
      is = λ told l. told-verdict first old now given slots before (next ∷ after) rows.Whole more h have (λ x row none other. cc) told l
          ∙ ap (λ o. judged o (first_other (length given) rows.Whole 1 more) (cycles_of given)) sound
          ∙ ap (λ o. judged None o (cycles_of given)) (sym is);
      ends = all-end (length given) first now given slots (next ∷ after) (rows.Whole ∷ more) have
          (refl, none-other (length given) rows.Whole 1 more (sym is));
    })
row-read-as first old now given slots before after next (Some x) None result more copies new old_room h have sound is goes f o n c fell =
    subst (λ (r : Option Verdict). RowRead (Ok r) first now given slots old_room new) (sym goes.0)
    (subst (λ (s : Copies). RowRead (Ok None) first now given slots old_room s) (sym goes.1) (
      x,
      record {
        readers = subst (λ rs. AreReadersAfter first now (given ++ x ∷ []) slots rs)
            (ap (λ r. r ∷ after) (sym f) ∙ ap (λ rs. copies.first ∷ rs) (sym o))
            (on-item (length given) x first now given slots (next ∷ after) (rows.Item x ∷ more) have
            ((item-apart (length given) x (rows.Item x)).1 refl, none-other (length given) (rows.Item x) 1 more (sym is)));
        rows = let all = length-append given (x ∷ []) in omega (arith, all, n);
        cycles = ap (λ k. k + length (run_in x)) c ∙ sym (cycles-next given x);
      },
      subst (λ r. room r < old_room) (sym f) fell,
    ))

pub row-read : (first old now : ShelfState) (given : List Item) (slots : List ℕ) (before after : List ItemReader) (next : ItemReader)
    (view : Option ItemView) (item : Option Item) (found result : Option Verdict) (more : List Row) (copies new : Copies) (old_room : ℕ)
    → IsHeldAs view next item → AreReadersAfter first old given slots before
    → ReadersAtRows first now given slots (next ∷ after) (row_of item ∷ more)
    → first_bad 1 more ≡ None → found ≡ first_other (length given) (row_of item) 1 more → IsCounted view found result copies new
    → copies.first ≡ next → copies.others.items ≡ after → copies.rows ≡ length given → copies.cycles ≡ cycles_of given
    → RoomFellIf (Ok view) old_room (room next) → RowRead (Ok result) first now given slots old_room new
row-read first old now given slots before after next view item found result more copies new old_room held h have sound is goes f o n c
    fell =
    row-read-as first old now given slots before after next item found result more copies new old_room h have sound is
    (counted-as view next item found result copies new held goes) f o n c (fewer-come view next item old_room (room next) held fell)

-- copy 0 has fewer items to come
pub fell-first : (first now : ShelfState) (given : List Item) (slots : List ℕ) (reader : ItemReader) (readers : List ItemReader)
    → AreReadersAfter first now given slots (reader ∷ readers) → (answer : Result (Option ItemView) (Stopped BadCopy)) (new : ℕ)
    → ((read : List ℕ) (given : List Item) → StandsFor reader read given → RoomFellIf answer (room reader) new)
    → RoomFellIf answer (room reader) new
fell-first first now given [] reader readers h answer new fell = absurd h
fell-first first now given (s ∷ slots) reader readers h answer new fell = fell h.0.read given h.0.stands

-- a stop is passed on
pub row-stops : (first now : ShelfState) (given : List Item) (slots : List ℕ) (old_room : ℕ) (new : Copies)
    (result : Result (Option Verdict) (Stopped BadCopy)) (why : Stopped BadCopy) → IsErrAnd result (λ e. e ≡ why)
    → Compared (Err why) first now slots × (why ≢ Failed Write) → RowRead result first now given slots old_room new
row-stops first now given slots old_room new (Ok found) why is h = absurd is
row-stops first now given slots old_room new (Err stop) why is h =
    subst (λ (x : Stopped BadCopy). RowRead (Err x) first now given slots old_room new) (sym is) h

-- ---- a list that was lent

same-length : (xs ys : List ItemReader) → map slot_of xs ≡ map slot_of ys → length xs ≡ length ys
same-length xs ys e = sym (length-map xs slot_of) ∙ ap length e ∙ length-map ys slot_of

pub written-back : (len : ℕ) (new old : List ItemReader) → len ≡ length old → map slot_of new ≡ map slot_of old
    → take len (new ++ drop (length new) old) ≡ new
written-back len new old e same =
    let n = same-length new old same in
    ap (λ rest. take len (new ++ rest)) (drop_all (length new) old (omega (arith, n)))
    ∙ ap (take len) (append-nil new) ∙ take_all len new (omega (arith, n, e))

-- ---- all copies are after the same items

pub stand-slots : {first now : ShelfState} {given : List Item} {slots : List ℕ} {copies : Copies}
    → AreCopiesAfter first now given slots copies
    → slots_of copies ≡ slots
stand-slots {first} {now} {given} {slots} {copies} h =
    slots-are first now given slots (copies.first ∷ copies.others.items) h.readers

pub stand-given : {first now : ShelfState} {given : List Item} {slots : List ℕ} {copies : Copies}
    → AreCopiesAfter first now given slots copies
    → AreGiven first slots → ReadsAmong first now slots → AreGiven now (slots_of copies)
stand-given {first} {now} {slots = slots} h all reads =
    subst (λ ks. AreGiven now ks) (sym (stand-slots h))
    (subst (λ (n : ℕ). AllByRecursion (λ slot. slot < n) slots) (sym reads.kept.slots) all)

pub stand-few : {first now : ShelfState} {given : List Item} {slots : List ℕ} {copies : Copies}
    → AreCopiesAfter first now given slots copies
    → length slots ≤ 8 → length copies.others.items ≤ 7
stand-few {copies = copies} h few =
    let all = ap length (stand-slots h) in let n = length-map copies.others.items slot_of in omega (arith, all, n, few)

pub stand-reads : {first mid now : ShelfState} {given : List Item} {slots : List ℕ} {copies : Copies}
    → AreCopiesAfter first mid given slots copies
    → ReadsAmong first mid slots → ReadsAmong mid now (slots_of copies) → ReadsAmong first now slots
stand-reads {mid = mid} {now = now} h p q = among-again p (subst (λ ks. ReadsAmong mid now ks) (stand-slots h) q)

given-few : (first now : ShelfState) (given : List Item) (slots : List ℕ) (reader : ItemReader) (readers : List ItemReader)
    → AreReadersAfter first now given slots (reader ∷ readers) → length given ≤ 1000005
given-few first now given [] reader readers h = absurd h
given-few first now given (s ∷ slots) reader readers h = few_first given (record {
  bytes = h.0.read;
  place = reader.place;
  rest = unread reader;
  leads = h.0.stands.leads;
})

pub stand-rows : {first now : ShelfState} {given : List Item} {slots : List ℕ} {copies : Copies}
    → AreCopiesAfter first now given slots copies
    → copies.rows < 4294967295
stand-rows {first} {now} {given} {slots} {copies} h =
    let few = given-few first now given slots copies.first copies.others.items h.readers in let n = h.rows in omega (arith, few, n)

pub stand-cycles : {first now : ShelfState} {given : List Item} {slots : List ℕ} {copies : Copies}
    → AreCopiesAfter first now given slots copies
    → copies.cycles ≤ copies.rows
stand-cycles {given = given} h = let few = cycles-few given in let n = h.rows in let m = h.cycles in omega (arith, few, n, m)

pub reads-same : (state : ShelfState) (slots : List ℕ) → ReadsAmong state state slots
reads-same state slots = record { kept = kept-same state; others = λ k ne. refl }

pub none-found : (found : Option Verdict) → ((v : Verdict) → found ≡ Some v → ⊥) → found ≡ None
none-found (Some v) none = absurd (none v refl)
none-found None none = refl
