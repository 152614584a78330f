-- What is read of copies is needed.
use Rattle.std.proofs.Common.{◌≡◌, inl, ◌≤◌, ℕ, Bool, true, false, nat_eq, List, [], ◌∷◌, ◌++◌, map, length, Option, Ok}
use Rattle.std.proofs.Common.{refl, sym, subst}
use Rattle.std.proofs.lemmas.Bool.Decides.{Decides-eqb}
use Rattle.std.specs.Bool.{Decides}
use Rattle.det_io.specs.Shelf.{ShelfState, Reads}
use Rattle.det_io.proofs.Prefixes.{prefix-length}
use Rattle.det_io.proofs.SlotReads.{gave-none, gave-reads}
use Rattle.record_grammar.specs.declared.item.Item.{Item}
use Rattle.record_grammar.specs.Record.{items}
use Rattle.record_view.specs.declared.view.ItemView.{ItemView}
use Rattle.record_reader.specs.declared.item_reader.reader.ItemReader.{ItemReader}
use Rattle.record_reader.specs.item_reader.StandsFor.{HasRead, slot_of}
use Rattle.copies.specs.CompareCopies.{AreDifferent, AreLeft, ReadsAmong}
use Rattle.copies.specs.declared.copies.Copies.{Copies}
use Rattle.copies.specs.Copies.{CopyNext, AreCopiesAfter}
use Rattle.copies.specs.ItemRows.{IsReaderAfter, AreReadersAfter, ReadsRow, IsHeldAs}
use Rattle.copies.specs.Needed.{GaveNeeded, AllNeeded, shared_rows}
use Rattle.copies.proofs.Judging.{shared_by-most}
use Rattle.copies.proofs.ItemRows.{gave-on, read-needed}
use Rattle.copies.proofs.SideBySide.{among-one, all-later}
use Rattle.copies.proofs.Standing.{first-behind, first-row, prefixes, slots-are, wider}

-- ---- more rows

pub needed-wider : (first now : ShelfState) (n m : ℕ) (slots : List ℕ) → n ≤ m → AllNeeded first now n slots → AllNeeded first now m slots
needed-wider first now n m [] less h = tt
needed-wider first now n m (s ∷ slots) less h =
    ((h.0.0, h.0.1, wider n m h.0.0 less h.0.2), needed-wider first now n m slots less h.1)

-- the items that all copies share are no fewer than those that were given
pub shared-wider : (first now end : ShelfState) (given : List Item) (slots : List ℕ) (copies : Copies) (known : List (List ℕ))
    → AreCopiesAfter first now given slots copies → AllNeeded first end (length given) slots → AreLeft first slots known
    → AllNeeded first end (shared_rows known) slots
shared-wider first now end given [] copies known h all l = tt
shared-wider first now end given (s ∷ slots) copies [] h all l = absurd l
shared-wider first now end given (s ∷ slots) copies (c ∷ known) h all l =
    let fine = prefixes first now given (s ∷ slots) (copies.first ∷ copies.others.items) (c ∷ known) h.readers l in
    needed-wider first end (length given) (shared_rows (c ∷ known)) (s ∷ slots)
    (prefix-length given _ (shared_by-most given (items c) known fine.0 fine.1)) all

-- ---- one read

-- a reader that read a row, whatever it says of it
pub reads-row : {mid now : ShelfState} {reader next : ItemReader} (Then : List ℕ → List Item → Type 0) → HasRead mid now reader Then
    → slot_of next ≡ slot_of reader → ReadsRow mid now reader next
reads-row {mid} {now} Then p same = record {
  needed = λ first given slot h. (
    h.read ++ p.0,
    gave-reads h.gave (subst (λ (k : ℕ). Reads mid now k p.0) h.at p.1),
    read-needed h p.0 (p.2 h.read given h.stands).0,
  );
  among = among-one p.1;
  slot = same;
}

-- the slot that was read, or another
pub needed-next : (first mid now : ShelfState) (n read : ℕ) (slots : List ℕ) → ReadsAmong mid now (read ∷ []) → GaveNeeded first now n read
    → AllNeeded first mid n slots → AllNeeded first now n slots
needed-next first mid now n read [] among one all = tt
needed-next first mid now n read (s ∷ slots) among one all =
    (by (nat_eq s read) (Decides-eqb s read), needed-next first mid now n read slots among one all.1)
  where
    by : (r : Bool) → Decides r (s ≡ read) → GaveNeeded first now n s
    by true h = subst (λ (k : ℕ). GaveNeeded first now n k) (sym (h.0 refl)) one
    by false h = (
      all.0.0,
      gave-on all.0.1 (among.others s (λ e. (let no : false ≡ true = h.1 e in absurd cc), tt)),
      all.0.2,
    )

-- one reader of several
pub reader-needed : (first mid now : ShelfState) (given : List Item) (slots : List ℕ) (reader next : ItemReader)
    → (slot : ℕ) × IsReaderAfter first mid given slot reader → ReadsRow mid now reader next
    → AllNeeded first mid (length given) slots → AllNeeded first now (length given) slots
reader-needed first mid now given slots reader next b read all =
    needed-next first mid now (length given) b.0 slots (subst (λ (k : ℕ). ReadsAmong mid now (k ∷ [])) b.1.at read.among)
    (read.needed first given b.0 b.1) all

-- ---- all copies

pub behind-needed : (first now : ShelfState) (given : List Item) (slots : List ℕ) (readers : List ItemReader)
    → AreReadersAfter first now given slots readers → AllNeeded first now (length given) slots
behind-needed first now given [] [] h = tt
behind-needed first now given (s ∷ slots) (r ∷ readers) h =
    ((h.0.read, h.0.gave, h.0.needed), behind-needed first now given slots readers h.1)
behind-needed first now given [] (r ∷ readers) h = absurd h
behind-needed first now given (s ∷ slots) [] h = absurd h

pub none-needed : (state : ShelfState) (n : ℕ) (slots : List ℕ) → AllNeeded state state n slots
none-needed state n [] = tt
none-needed state n (s ∷ slots) = (([], gave-none state s, inl refl), none-needed state n slots)

-- only copy 0 was read
pub first-needed : (first old mid : ShelfState) (given : List Item) (slots : List ℕ) (reader next : ItemReader)
    (readers : List ItemReader) → AreReadersAfter first old given slots (reader ∷ readers) → ReadsRow old mid reader next
    → AllNeeded first mid (length given) slots
first-needed first old mid given slots reader next readers h read =
    reader-needed first old mid given slots reader next (first-behind first old given slots reader readers h) read
    (behind-needed first old given slots (reader ∷ readers) h)

-- copy 0 was read, and then the others
others-needed : (first old mid now : ShelfState) (given : List Item) (slots : List ℕ) (reader next : ItemReader)
    (readers : List ItemReader) → AreDifferent slots → AreReadersAfter first old given slots (reader ∷ readers)
    → ReadsRow old mid reader next
    → ((others : List ℕ) → AreDifferent others → AreReadersAfter first mid given others readers
    → AllNeeded first now (length given) others)
    → ReadsAmong mid now (map slot_of readers) → AllNeeded first now (length given) slots
others-needed first old mid now given [] reader next readers ne h read more reads = tt
others-needed first old mid now given (s ∷ slots) reader next readers ne h read more reads =
    let behind = all-later first given s slots readers ne.0 (subst (λ (k : ℕ). ReadsAmong old mid (k ∷ [])) h.0.at read.among) h.1 in
    let mine = read.needed first given s h.0 in
    let same = (subst (λ ks. ReadsAmong mid now ks) (slots-are first mid given slots readers behind) reads).others s ne.0 in
    ((mine.0, gave-on mine.1 same, mine.2), more slots ne.1 behind)

-- the same where the readers of the others were lent, by the row that copy 0 gave
pub all-needed : (first old mid now : ShelfState) (given : List Item) (slots : List ℕ) (reader next : ItemReader)
    (readers lent : List ItemReader) (view : Option ItemView) → readers ≡ lent → AreDifferent slots
    → AreReadersAfter first old given slots (reader ∷ readers) → ReadsRow old mid reader next
    → ((slot : ℕ) → IsReaderAfter first old given slot reader → CopyNext (Ok view) 0 first mid given slot next)
    → ((row : Option Item) → IsHeldAs view next row → (others : List ℕ) → AreDifferent others
    → AreReadersAfter first mid given others lent → AllNeeded first now (length given) others)
    → ReadsAmong mid now (map slot_of lent) → AllNeeded first now (length given) slots
all-needed first old mid now given slots reader next readers lent view same ne h read gives more reads =
    let behind = subst (λ rs. AreReadersAfter first old given slots (reader ∷ rs)) same h in
    let row = first-row first old mid given slots reader next lent view behind gives in
    others-needed first old mid now given slots reader next lent ne behind read (more row.0 row.1) reads
