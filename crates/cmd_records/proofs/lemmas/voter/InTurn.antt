-- Copies that are read one after another.
use Rattle.std.proofs.Common.{◌≡◌, ◌≢◌, inl, ◌<◌, ◌+◌, ℕ, zero, suc, true, false, List, [], ◌∷◌, ◌++◌, map, length, get_or, set}
use Rattle.std.proofs.Common.{Option, Some, None, Result, Ok, Err, refl, sym, ap, subst, ◌∙◌, append_assoc, length-append, arith}
use Rattle.std.specs.Prelude.{is_some}
use Rattle.std.specs.List.{AllByRecursion, Contains}
use Rattle.det_io.specs.declared.failure.Failure.{Failure}
use Rattle.det_io.specs.declared.failure.Failure.TheVariants.{Read, Write, OutOfMemory}
use Rattle.det_io.specs.declared.failure.Stopped.{Stopped}
use Rattle.det_io.specs.declared.failure.Stopped.TheVariants.{Refused, Failed}
use Rattle.det_io.specs.Shelf.{ShelfState, Reads, IsAtEnd}
use Rattle.det_io.proofs.SlotReads.{gave-none, gave-reads, kept-then, kept-same}
use Rattle.record_grammar.specs.declared.record_fault.RecordFault.{RecordFault}
use Rattle.record_grammar.specs.declared.item.Item.{Item}
use Rattle.record_grammar.specs.declared.place.Place.TheVariants as places
use Rattle.record_view.specs.declared.view.ItemView.{ItemView}
use Rattle.record_reader.specs.declared.item_reader.reader.ItemReader.{ItemReader}
use Rattle.record_reader.specs.item_reader.StandsFor.{StandsFor, HasRead, ItemIs, GaveItem, slot_of}
use Rattle.copies.specs.declared.row.Row.{Row}
use Rattle.copies.specs.declared.row.Row.TheVariants as rows
use Rattle.copies.specs.CompareCopies.{AreDifferent, ReadsAmong}
use Rattle.copies.specs.Copies.{row_of}
use Rattle.copies.specs.ItemRows.{IsReaderAfter, ReaderAtRow, IsHeldAs}
use Rattle.copies.specs.Needed.{GaveNeeded, AllNeeded}
use Rattle.copies.proofs.ItemRows.{gave-on, behind-on, row-on, copy-next}
use Rattle.copies.proofs.Needed.{needed-next}
use Rattle.cmd_records.specs.declared.voter.voter_rows.RowView.{RowView}
use Rattle.cmd_records.specs.declared.voter.voter_rows.RowView.TheVariants as views
use Rattle.cmd_records.specs.declared.voter.voter_rows.Voter.{Voter}
use Rattle.cmd_records.specs.voter.Rows.{voter_slot, VoterIs, AreVoters, VoteIs, HaveVotes, HoldsAs, HoldsRow, AreHeld, place_behind}
use Rattle.cmd_records.specs.voter.Rows.{view_answer}
use Rattle.cmd_records.specs.voter.Rows.{HasLeft, FailedAt, RowGiven, ReadIs, RowsRead}
use Rattle.cmd_records.proofs.lemmas.voter.Spelled.{leads-place}

-- ---- one copy

-- an item is at the place after the given ones
stands-behind : (view : ItemView) (reader : ItemReader) (read : List ℕ) (given : List Item) → GaveItem view reader read given
    → view.place ≡ place_behind given
stands-behind view reader read given p = sym (leads-place given places.Header view.place read p.behind.0 p.behind.1)

module _ {first mid now : ShelfState} {given : List Item} {slot : ℕ} {reader : ItemReader} (next : ItemReader)
    (at : slot_of next ≡ slot_of reader) (h : IsReaderAfter first mid given slot reader) where
  item-given : (view : ItemView) (item : Option Item) → view.place ≡ place_behind given → IsHeldAs (Some view) next item
      → ReaderAtRow first now given slot next (row_of item) → RowGiven (Ok (views.Item view)) first now given slot next
  item-given view (Some x) place holds row = (rows.Item x, row, record { holds = holds; at = place })
  item-given view None place holds row = absurd holds

  end-given : (item : Option Item) → IsHeldAs None next item → ReaderAtRow first now given slot next (row_of item)
      → RowGiven (Ok views.Whole) first now given slot next
  end-given None holds row = (rows.Whole, row, tt)
  end-given (Some x) holds row = absurd holds

  failed-given : (failure : Failure) → HasRead mid now reader (ItemIs (Err (Failed failure)) next (IsAtEnd now (slot_of reader)))
      → FailedAt failure first now given slot
  failed-given Read p = let shown = (p.2 h.read given h.stands).1 in record {
    read = h.read ++ p.0;
    gave = gave-reads h.gave (subst (λ (k : ℕ). Reads mid now k p.0) h.at p.1);
    items = shown.1;
    sound = shown.2;
  }
  failed-given Write p = absurd (p.2 h.read given h.stands).1
  failed-given OutOfMemory p = tt

  pub row-given : (answer : Result (Option ItemView) (Stopped RecordFault))
      → HasRead mid now reader (ItemIs answer next (IsAtEnd now (slot_of reader))) → RowGiven (view_answer answer) first now given slot next
  row-given (Ok (Some view)) p =
      let c = copy-next next 0 at h (Ok (Some view)) p in
      item-given view c.0 (stands-behind view next (h.read ++ p.0) given (p.2 h.read given h.stands).1) c.1 c.2
  row-given (Ok None) p = let c = copy-next next 0 at h (Ok None) p in end-given c.0 c.1 c.2
  row-given (Err (Refused f)) p = let c = copy-next next 0 at h (Err (Refused f)) p in (rows.Fault f, c.1, tt)
  row-given (Err (Failed failure)) p = failed-given failure p

-- a copy in step
pub step-behind : {first now : ShelfState} {given : List Item} {slot : ℕ} {reader : ItemReader} (left : Option ℕ) → is_some left ≡ false
    → VoterIs left first now given slot reader → IsReaderAfter first now given slot reader
step-behind None e h = h
step-behind (Some n) e h = absurd cc

pub step-read : (view : RowView) (first now : ShelfState) (given : List Item) (slot : ℕ) (next : Voter) → is_some next.left ≡ false
    → next.row ≡ Some view → RowGiven (Ok view) first now given slot next.reader → ReadIs (Ok tt) first now given slot next
step-read view first now given slot next step row r = (
  Some r.0,
  by next.left step,
  subst (λ (o : Option RowView). HoldsAs o (place_behind given) next.reader (Some r.0)) (sym row) r.2,
)
  where
    by : (left : Option ℕ) → is_some left ≡ false → VoteIs left (Some r.0) first now given slot next.reader
    by None e = r.1
    by (Some n) e = absurd cc

-- a copy that left gives no row
pub left-read : (first now : ShelfState) (given : List Item) (slot : ℕ) (next : Voter) → is_some next.left ≡ true → next.row ≡ None
    → VoterIs next.left first now given slot next.reader → ReadIs (Ok tt) first now given slot next
left-read first now given slot next left row h = (
  None,
  by next.left left h,
  subst (λ (o : Option RowView). HoldsAs o (place_behind given) next.reader None) (sym row) tt,
)
  where
    by : (left : Option ℕ) → is_some left ≡ true → VoterIs left first now given slot next.reader
        → VoteIs left None first now given slot next.reader
    by None e k = absurd cc
    by (Some n) e k = k

pub voter-needed : (first now : ShelfState) (given : List Item) (slot : ℕ) (reader : ItemReader) (left : Option ℕ)
    → VoterIs left first now given slot reader → GaveNeeded first now (length given) slot
voter-needed first now given slot reader None h = (h.read, h.gave, h.needed)
voter-needed first now given slot reader (Some n) h = h.needed

pub voters-needed : (first now : ShelfState) (given : List Item) (slots : List ℕ) (voters : List Voter)
    → AreVoters first now given slots voters → AllNeeded first now (length given) slots
voters-needed first now given [] [] h = tt
voters-needed first now given (s ∷ slots) (v ∷ voters) h =
    (voter-needed first now given s v.reader v.left h.0, voters-needed first now given slots voters h.1)
voters-needed first now given [] (v ∷ voters) h = absurd h
voters-needed first now given (s ∷ slots) [] h = absurd h

-- ---- what other reads leave

left-later : {first mid now : ShelfState} {given : List Item} {slot : ℕ} {reader : ItemReader} {row : ℕ}
    → HasLeft first mid given slot reader row → now.left slot ≡ mid.left slot → HasLeft first now given slot reader row
left-later h same = record { at = h.at; told = h.told; needed = (h.needed.0, gave-on h.needed.1 same, h.needed.2) }

voter-later : (first mid now : ShelfState) (given : List Item) (slot : ℕ) (reader : ItemReader) (left : Option ℕ)
    → VoterIs left first mid given slot reader → now.left slot ≡ mid.left slot → VoterIs left first now given slot reader
voter-later first mid now given slot reader None h same = behind-on h same
voter-later first mid now given slot reader (Some n) h same = left-later h same

vote-later : (first mid now : ShelfState) (given : List Item) (slot : ℕ) (reader : ItemReader) (left : Option ℕ) (row : Option Row)
    → VoteIs left row first mid given slot reader → now.left slot ≡ mid.left slot → VoteIs left row first now given slot reader
vote-later first mid now given slot reader None (Some row) h same = row-on h same
vote-later first mid now given slot reader (Some n) None h same = left-later h same
vote-later first mid now given slot reader None None h same = absurd h
vote-later first mid now given slot reader (Some n) (Some row) h same = absurd h

voter-at : (first now : ShelfState) (given : List Item) (slot : ℕ) (reader : ItemReader) (left : Option ℕ)
    → VoterIs left first now given slot reader → slot_of reader ≡ slot
voter-at first now given slot reader None h = h.at
voter-at first now given slot reader (Some n) h = h.at

pub voters-slots : (first now : ShelfState) (given : List Item) (slots : List ℕ) (voters : List Voter)
    → AreVoters first now given slots voters → map voter_slot voters ≡ slots
voters-slots first now given [] [] h = refl
voters-slots first now given (s ∷ slots) (v ∷ voters) h =
    ap (λ x. x ∷ map voter_slot voters) (voter-at first now given s v.reader v.left h.0)
    ∙ ap (λ xs. s ∷ xs) (voters-slots first now given slots voters h.1)
voters-slots first now given [] (v ∷ voters) h = absurd h
voters-slots first now given (s ∷ slots) [] h = absurd h

all-later : (first mid now : ShelfState) (given : List Item) (slot : ℕ) (slots : List ℕ) (voters : List Voter)
    → AllByRecursion (λ other. slot ≢ other) slots → ReadsAmong mid now (slot ∷ []) → AreVoters first mid given slots voters
    → AreVoters first now given slots voters
all-later first mid now given slot [] [] ne p h = tt
all-later first mid now given slot [] (v ∷ voters) ne p h = absurd h
all-later first mid now given slot (other ∷ slots) [] ne p h = absurd h
all-later first mid now given slot (other ∷ slots) (v ∷ voters) ne p h = (
  voter-later first mid now given other v.reader v.left h.0 (p.others other (λ e. ne.0 (sym e), tt)),
  all-later first mid now given slot slots voters ne.1 p h.1,
)

-- ---- one after another

-- the first copies were read, and the others are after the given items
abbrev pub HaveFirst : ShelfState → ShelfState → List Item → List ℕ → List Voter → List (Option Row) → Type 0
HaveFirst first now given slots voters [] = AreVoters first now given slots voters
HaveFirst first now given (slot ∷ slots) (v ∷ voters) (row ∷ more) =
    VoteIs v.left row first now given slot v.reader × HoldsRow (place_behind given) v row × HaveFirst first now given slots voters more
HaveFirst first now given slots voters (row ∷ more) = ⊥

-- this number of copies was read
pub record HaveRows (index : ℕ) (first now : ShelfState) (given : List Item) (slots : List ℕ) (voters : List Voter) : Type 0 where
  pub more : List (Option Row)
  pub count : length more ≡ index
  pub have : HaveFirst first now given slots voters more

-- the next copy's slot is among the slots
slot-among : (P : ℕ → Type 0) (first now : ShelfState) (given : List Item) (slots : List ℕ) (voters : List Voter)
    (more : List (Option Row)) (d : Voter) → HaveFirst first now given slots voters more → length more < length voters
    → AllByRecursion P slots → P (slot_of (get_or voters (length more) d).reader)
slot-among P first now given slots [] [] d h less all = absurd (omega (arith, less))
slot-among P first now given [] (v ∷ voters) [] d h less all = absurd h
slot-among P first now given (s ∷ slots) (v ∷ voters) [] d h less all =
    subst P (sym (voter-at first now given s v.reader v.left h.0)) all.0
slot-among P first now given (s ∷ slots) (v ∷ voters) (row ∷ more) d h less all =
    slot-among P first now given slots voters more d h.2 (omega (arith, less)) all.1
slot-among P first now given [] voters (row ∷ more) d h less all = absurd h
slot-among P first now given (s ∷ slots) [] (row ∷ more) d h less all = absurd h

-- an element stays one when another comes before it
contains-more : (s : ℕ) (slots : List ℕ) (slot : ℕ) → Contains slots slot → Contains (s ∷ slots) slot
contains-more s slots slot h = let less = h.1 in (suc h.0, omega (arith, less), h.2)

-- what the next copy is, and its slot
pub next-is : (first now : ShelfState) (given : List Item) (slots : List ℕ) (voters : List Voter) (more : List (Option Row)) (d : Voter)
    → HaveFirst first now given slots voters more → length more < length voters
    → (slot : ℕ) × Contains slots slot
    × VoterIs (get_or voters (length more) d).left first now given slot (get_or voters (length more) d).reader
next-is first now given slots [] [] d h less = absurd (omega (arith, less))
next-is first now given [] (v ∷ voters) [] d h less = absurd h
next-is first now given (s ∷ slots) (v ∷ voters) [] d h less = (s, (0, omega arith, refl), h.0)
next-is first now given (s ∷ slots) (v ∷ voters) (row ∷ more) d h less =
    let rest = next-is first now given slots voters more d h.2 (omega (arith, less)) in
    (rest.0, contains-more s slots rest.0 rest.1, rest.2)
next-is first now given [] voters (row ∷ more) d h less = absurd h
next-is first now given (s ∷ slots) [] (row ∷ more) d h less = absurd h

-- the next copy was read too
pub first-next : (first mid now : ShelfState) (given : List Item) (slots : List ℕ) (voters : List Voter) (more : List (Option Row))
    (d next : Voter) (row : Option Row) → HaveFirst first mid given slots voters more → length more < length voters → AreDifferent slots
    → ((slot : ℕ) → VoterIs (get_or voters (length more) d).left first mid given slot (get_or voters (length more) d).reader
    → VoteIs next.left row first now given slot next.reader)
    → HoldsRow (place_behind given) next row
    → ReadsAmong mid now (slot_of (get_or voters (length more) d).reader ∷ [])
    → HaveFirst first now given slots (set voters (length more) next) (more ++ row ∷ [])
first-next first mid now given slots [] [] d next row h less ne read holds among = absurd (omega (arith, less))
first-next first mid now given [] (v ∷ voters) [] d next row h less ne read holds among = absurd h
first-next first mid now given (s ∷ slots) (v ∷ voters) [] d next row h less ne read holds among = (
  read s h.0,
  holds,
  all-later first mid now given s slots voters ne.0
      (subst (λ (k : ℕ). ReadsAmong mid now (k ∷ [])) (voter-at first mid given s v.reader v.left h.0) among) h.1,
)
first-next first mid now given (s ∷ slots) (v ∷ voters) (other ∷ more) d next row h less ne read holds among = (
  vote-later first mid now given s v.reader v.left other h.0
      (among.others s (slot-among (λ k. s ≢ k) first mid given slots voters more d h.2 (omega (arith, less)) ne.0, tt)),
  h.1,
  first-next first mid now given slots voters more d next row h.2 (omega (arith, less)) ne.1 read holds among,
)
first-next first mid now given [] voters (other ∷ more) d next row h less ne read holds among = absurd h
first-next first mid now given (s ∷ slots) [] (other ∷ more) d next row h less ne read holds among = absurd h

pub first-all : (first now : ShelfState) (given : List Item) (slots : List ℕ) (voters : List Voter) (more : List (Option Row))
    → HaveFirst first now given slots voters more → length more ≡ length voters
    → HaveVotes first now given slots voters more × AreHeld (place_behind given) voters more
first-all first now given [] [] [] h e = (tt, tt)
first-all first now given (s ∷ slots) [] [] h e = absurd h
first-all first now given slots (v ∷ voters) [] h e = absurd (omega (arith, e))
first-all first now given (s ∷ slots) (v ∷ voters) (row ∷ more) h e =
    let rest = first-all first now given slots voters more h.2 (omega (arith, e)) in ((h.0, rest.0), (h.1, rest.1))
first-all first now given [] voters (row ∷ more) h e = absurd h
first-all first now given (s ∷ slots) [] (row ∷ more) h e = absurd h

-- ---- slots

pub given-at : (P : ℕ → Type 0) (voters : List Voter) (index : ℕ) (d : Voter) → index < length voters
    → AllByRecursion P (map voter_slot voters) → P (slot_of (get_or voters index d).reader)
given-at P [] index d less all = absurd (omega (arith, less))
given-at P (v ∷ voters) zero d less all = all.0
given-at P (v ∷ voters) (suc index) d less all = given-at P voters index d (omega (arith, less)) all.1

pub slots-set : (voters : List Voter) (index : ℕ) (d next : Voter) → index < length voters
    → slot_of next.reader ≡ slot_of (get_or voters index d).reader → map voter_slot (set voters index next) ≡ map voter_slot voters
slots-set [] index d next less e = absurd (omega (arith, less))
slots-set (v ∷ voters) zero d next less e = ap (λ k. k ∷ map voter_slot voters) e
slots-set (v ∷ voters) (suc index) d next less e =
    ap (λ ks. voter_slot v ∷ ks) (slots-set voters index d next (omega (arith, less)) e)

pub among-more : {first mid now : ShelfState} (slots : List ℕ) (voters : List Voter) (index : ℕ) (d : Voter)
    → index < length voters → map voter_slot voters ≡ slots → ReadsAmong first mid slots
    → ReadsAmong mid now (slot_of (get_or voters index d).reader ∷ []) → ReadsAmong first now slots
among-more slots voters index d less same p q = record {
  kept = kept-then p.kept q.kept;
  others = λ k ne. q.others k (given-at (λ s. k ≢ s) voters index d less (subst (λ ks. AllByRecursion (λ s. k ≢ s) ks) (sym same) ne), tt)
      ∙ p.others k ne;
}

pub reads-same : (state : ShelfState) (slots : List ℕ) → ReadsAmong state state slots
reads-same state slots = record { kept = kept-same state; others = λ k ne. refl }

-- ---- new copies

pub voters-next : (state : ShelfState) (slots : List ℕ) (slot : ℕ) (left : List ℕ) (voters : List Voter) (voter : Voter)
    → ((tail : List Voter) → AreVoters state state [] (slot ∷ left) tail → AreVoters state state [] slots (voters ++ tail))
    → voter.left ≡ None → StandsFor voter.reader [] [] → slot_of voter.reader ≡ slot → (tail : List Voter)
    → AreVoters state state [] left tail → AreVoters state state [] slots ((voters ++ voter ∷ []) ++ tail)
voters-next state slots slot left voters voter before none stands at tail h =
    subst (λ vs. AreVoters state state [] slots vs) (sym (append_assoc voters (voter ∷ []) tail))
    (before (voter ∷ tail) (
      subst (λ (o : Option ℕ). VoterIs o state state [] slot voter.reader) (sym none)
          (record { read = []; at = at; gave = gave-none state slot; stands = stands; needed = inl refl }),
      h,
    ))

-- ---- the copy at an index

module _ (voters : List Voter) (index : ℕ) (old : Voter) (less : index < length voters) (is : get_or voters index old ≡ old) where
  pub given-here : (P : ℕ → Type 0) → AllByRecursion P (map voter_slot voters) → P (slot_of old.reader)
  given-here P all = subst (λ (v : Voter). P (slot_of v.reader)) is (given-at P voters index old less all)

  pub slots-here : (next : Voter) → slot_of next.reader ≡ slot_of old.reader
      → map voter_slot (set voters index next) ≡ map voter_slot voters
  slots-here next e = slots-set voters index old next less (e ∙ ap (λ (v : Voter). slot_of v.reader) (sym is))

  pub among-here : (first mid now : ShelfState) (slots : List ℕ) → map voter_slot voters ≡ slots → ReadsAmong first mid slots
      → ReadsAmong mid now (slot_of old.reader ∷ []) → ReadsAmong first now slots
  among-here first mid now slots same p q =
      among-more slots voters index old less same p (subst (λ (v : Voter). ReadsAmong mid now (slot_of v.reader ∷ [])) (sym is) q)

  here : (more : List (Option Row)) → length more ≡ index → get_or voters (length more) old ≡ old
  here more e = ap (λ k. get_or voters k old) e ∙ is

  -- what it was
  pub was-here : {first now : ShelfState} {given : List Item} {slots : List ℕ} → HaveRows index first now given slots voters
      → (slot : ℕ) × Contains slots slot × VoterIs old.left first now given slot old.reader
  was-here {first} {now} {given} {slots} h =
      let n = next-is first now given slots voters h.more old h.have (subst (λ k. k < length voters) (sym h.count) less) in
      (n.0, n.1, subst (λ (v : Voter). VoterIs v.left first now given n.0 v.reader) (here h.more h.count) n.2)

  -- it was read too
  pub rows-here : {first mid now : ShelfState} {given : List Item} {slots : List ℕ} (next : Voter)
      → HaveRows index first mid given slots voters → AreDifferent slots
      → ((slot : ℕ) → VoterIs old.left first mid given slot old.reader → ReadIs (Ok tt) first now given slot next)
      → ReadsAmong mid now (slot_of old.reader ∷ []) → HaveRows (index + 1) first now given slots (set voters index next)
  rows-here {first} {mid} {now} {given} {slots} next h ne read among = record {
    more = h.more ++ r.0 ∷ [];
    count = let all = length-append h.more (r.0 ∷ []) in let count = h.count in omega (arith, all, count);
    have = subst (λ k. HaveFirst first now given slots (set voters k next) (h.more ++ r.0 ∷ [])) h.count
        (first-next first mid now given slots voters h.more old next r.0 h.have (subst (λ k. k < length voters) (sym h.count) less) ne
        (subst (λ (v : Voter). (slot : ℕ) → VoterIs v.left first mid given slot v.reader
        → VoteIs next.left r.0 first now given slot next.reader) (sym (here h.more h.count)) vote)
        r.2 (subst (λ (v : Voter). ReadsAmong mid now (slot_of v.reader ∷ [])) (sym (here h.more h.count)) among));
  }
    where
      n : (slot : ℕ) × Contains slots slot × VoterIs old.left first mid given slot old.reader
      n = was-here h

      r : (row : Option Row) × VoteIs next.left row first now given n.0 next.reader × HoldsRow (place_behind given) next row
      r = read n.0 n.2

      vote : (slot : ℕ) → VoterIs old.left first mid given slot old.reader → VoteIs next.left r.0 first now given slot next.reader
      vote slot b = subst (λ (k : ℕ). VoteIs next.left r.0 first now given k next.reader)
          (sym (voter-at first mid given n.0 old.reader old.left n.2) ∙ voter-at first mid given slot old.reader old.left b) r.1

  -- what was read of all copies is needed
  pub needed-here : {first mid now : ShelfState} {given : List Item} {slots : List ℕ} → HaveRows index first mid given slots voters
      → ((slot : ℕ) → VoterIs old.left first mid given slot old.reader → GaveNeeded first now (length given) slot)
      → ReadsAmong mid now (slot_of old.reader ∷ []) → AllNeeded first mid (length given) slots → AllNeeded first now (length given) slots
  needed-here {first} {mid} {now} {given} {slots} h one among all =
      let n = was-here h in
      needed-next first mid now (length given) n.0 slots
      (subst (λ (k : ℕ). ReadsAmong mid now (k ∷ [])) (voter-at first mid given n.0 old.reader old.left n.2) among) (one n.0 n.2) all

pub rows-none : {first now : ShelfState} {given : List Item} {slots : List ℕ} {voters : List Voter}
    → AreVoters first now given slots voters → HaveRows 0 first now given slots voters
rows-none h = record { more = []; count = refl; have = h }

pub rows-all : (index : ℕ) (first now : ShelfState) (given : List Item) (slots : List ℕ) (voters : List Voter)
    → HaveRows index first now given slots voters → index ≡ length voters → RowsRead (Ok tt) first now given slots voters
rows-all index first now given slots voters h e =
    let all = first-all first now given slots voters h.more h.have (h.count ∙ e) in (h.more, all.0, all.1)
