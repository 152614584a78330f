-- Copies that are read one after another.
use Rattle.std.proofs.Common.{◌≡◌, ◌≢◌, inl, inr, ◌<◌, ◌+◌, ℕ, List, [], ◌∷◌}
use Rattle.std.proofs.Common.{◌++◌, map, length, get_or, set, Option, Some, None, Ok, Err}
use Rattle.std.proofs.Common.{refl, sym, ap, subst, ◌∙◌, append_assoc, length-append, zero, suc, arith}
use Rattle.std.specs.Option.{option_map, option_or}
use Rattle.std.specs.List.{AllByRecursion}
use Rattle.det_io.specs.declared.failure.Stopped.{Stopped}
use Rattle.det_io.specs.declared.failure.Stopped.TheVariants.{Refused, Failed}
use Rattle.det_io.specs.Shelf.{ShelfState, Reads}
use Rattle.det_io.proofs.SlotReads.{gave-none, reads-kept, kept-same, kept-then}
use Rattle.record_grammar.specs.declared.item.Item.{Item}
use Rattle.record_reader.specs.declared.item_reader.reader.ItemReader.{ItemReader}
use Rattle.record_reader.specs.item_reader.StandsFor.{StandsFor, slot_of}
use Rattle.copies.specs.declared.row.Row.{Row}
use Rattle.copies.specs.declared.row.Row.TheVariants as rows
use Rattle.copies.specs.declared.verdict.BadCopy.{BadCopy}
use Rattle.copies.specs.declared.difference.Difference.{Difference}
use Rattle.copies.specs.declared.verdict.Verdict.{Verdict}
use Rattle.copies.specs.declared.verdict.Verdict.TheVariants.{Differ}
use Rattle.copies.specs.Rows.{row_at}
use Rattle.copies.specs.Verdict.{row_difference, first_bad, first_other}
use Rattle.copies.specs.CompareCopies.{AreDifferent, AreLeft, ReadsAmong}
use Rattle.copies.specs.ItemRows.{IsReaderAfter, AreReadersAfter, ReaderAtRow, ReadersAtRows}
use Rattle.copies.specs.Copies.{row_of, CopyStopped, CopyHeld, FindsBad, OthersRead}
use Rattle.copies.proofs.ItemRows.{behind-on, row-on, row-shows, same-slot}

-- ---- slots that are read

pub among-one : {before after : ShelfState} {slot : ℕ} {bytes : List ℕ} → Reads before after slot bytes
    → ReadsAmong before after (slot ∷ [])
among-one p = record { kept = reads-kept p; others = λ k ne. p.others k ne.0 }

pub among-none : (state : ShelfState) → ReadsAmong state state []
among-none state = record { kept = kept-same state; others = λ k ne. refl }

pub among-wider : {before after : ShelfState} (slot : ℕ) (slots : List ℕ) → ReadsAmong before after (slot ∷ [])
    → ReadsAmong before after (slot ∷ slots)
among-wider slot slots p = record { kept = p.kept; others = λ k ne. p.others k (ne.0, tt) }

pub among-then : {before mid after : ShelfState} (slot : ℕ) (slots : List ℕ) → ReadsAmong before mid (slot ∷ [])
    → ReadsAmong mid after slots → ReadsAmong before after (slot ∷ slots)
among-then slot slots p q = record { kept = kept-then p.kept q.kept; others = λ k ne. q.others k ne.1 ∙ p.others k (ne.0, tt) }

pub among-again : {before mid after : ShelfState} {slots : List ℕ} → ReadsAmong before mid slots → ReadsAmong mid after slots
    → ReadsAmong before after slots
among-again p q = record { kept = kept-then p.kept q.kept; others = λ k ne. q.others k ne ∙ p.others k ne }

-- ---- what other reads leave

pub all-later : (first : ShelfState) {mid now : ShelfState} (given : List Item) (slot : ℕ) (slots : List ℕ) (readers : List ItemReader)
    → AllByRecursion (λ other. slot ≢ other) slots → ReadsAmong mid now (slot ∷ []) → AreReadersAfter first mid given slots readers
    → AreReadersAfter first now given slots readers
all-later first given slot [] [] ne p h = tt
all-later first given slot [] (r ∷ readers) ne p h = absurd h
all-later first given slot (other ∷ slots) [] ne p h = absurd h
all-later first given slot (other ∷ slots) (r ∷ readers) ne p h =
    (behind-on h.0 (p.others other (λ e. ne.0 (sym e), tt)), all-later first given slot slots readers ne.1 p h.1)

-- ---- what is known of the copies

pub rows-told : (first now : ShelfState) (given : List Item) (slots : List ℕ) (readers : List ItemReader) (more : List Row)
    (copies : List (List ℕ)) → ReadersAtRows first now given slots readers more → AreLeft first slots copies
    → map (row_at (length given)) copies ≡ more
rows-told first now given [] [] [] [] h l = refl
rows-told first now given (s ∷ slots) (r ∷ readers) (row ∷ more) (c ∷ copies) h l =
    ap (λ x. x ∷ map (row_at (length given)) copies) (row-shows c h.0 l.0).is
    ∙ ap (λ xs. row ∷ xs) (rows-told first now given slots readers more copies h.1 l.1)
rows-told first now given [] [] [] (c ∷ copies) h l = absurd l
rows-told first now given (s ∷ slots) (r ∷ readers) (row ∷ more) [] h l = absurd l
rows-told first now given slots readers more copies h l = absurd h

-- ---- rows that are compared with another

pub no-fault : (copy : ℕ) (item : Option Item) (more : List Row) → first_bad copy (row_of item ∷ more) ≡ first_bad (copy + 1) more
no-fault copy (Some item) more = refl
no-fault copy None more = refl

-- a row without a fault is passed over
passed-over : (copy : ℕ) (row : Row) (more : List Row) → first_bad copy (row ∷ more) ≡ None
    → (first_bad (copy + 1) more ≡ None) × ((xs : List Row) → first_bad copy (row ∷ xs) ≡ first_bad (copy + 1) xs)
passed-over copy (rows.Item item) more e = (e, λ xs. refl)
passed-over copy rows.Whole more e = (e, λ xs. refl)
passed-over copy (rows.Fault found) more e = absurd cc

bad-next : (copy : ℕ) (more : List Row) (item : Option Item) → first_bad copy more ≡ None → first_bad copy (more ++ row_of item ∷ []) ≡ None
bad-next copy [] item e = no-fault copy item []
bad-next copy (row ∷ more) item e =
    let p = passed-over copy row more e in p.1 (more ++ row_of item ∷ []) ∙ bad-next (copy + 1) more item p.0

or-then : {A : Type 0} (a b c : Option A) → option_or a (option_or b c) ≡ option_or (option_or a b) c
or-then (Some x) b c = refl
or-then None b c = refl

or-none : {A : Type 0} (a : Option A) → option_or a None ≡ a
or-none (Some x) = refl
or-none None = refl

pub other-next : (n : ℕ) (row : Row) (base copy : ℕ) (more : List Row) (last : Row) → copy ≡ base + length more
    → option_or (first_other n row base more) (option_map (Differ copy) (row_difference n row last))
    ≡ first_other n row base (more ++ last ∷ [])
other-next n row base copy [] last e =
    let here : copy ≡ base = omega (arith, e) in
    ap (λ k. option_map (Differ k) (row_difference n row last)) here ∙ sym (or-none (option_map (Differ base) (row_difference n row last)))
other-next n row base copy (one ∷ more) last e =
    let further : copy ≡ (base + 1) + length more = omega (arith, e) in
    sym (or-then (option_map (Differ base) (row_difference n row one)) (first_other n row (base + 1) more)
    (option_map (Differ copy) (row_difference n row last)))
    ∙ ap (λ o. option_or (option_map (Differ base) (row_difference n row one)) o) (other-next n row (base + 1) copy more last further)

-- ---- the others, one after another

-- the first readers gave these rows, and the others are after the items given
abbrev pub HaveFirst : ShelfState → ShelfState → List Item → List ℕ → List ItemReader → List Row → Type 0
HaveFirst first now given slots readers [] = AreReadersAfter first now given slots readers
HaveFirst first now given (slot ∷ slots) (reader ∷ readers) (row ∷ more) =
    ReaderAtRow first now given slot reader row × HaveFirst first now given slots readers more
HaveFirst first now given slots readers (row ∷ more) = ⊥

-- the next reader's slot is among the slots
slot-among : (P : ℕ → Type 0) (first now : ShelfState) (given : List Item) (slots : List ℕ) (readers : List ItemReader) (more : List Row)
    (d : ItemReader) → HaveFirst first now given slots readers more → length more < length readers → AllByRecursion P slots
    → P (slot_of (get_or readers (length more) d))
slot-among P first now given slots [] [] d h less all = absurd (omega (arith, less))
slot-among P first now given [] (r ∷ readers) [] d h less all = absurd h
slot-among P first now given (s ∷ slots) (r ∷ readers) [] d h less all = subst P (sym h.0.at) all.0
slot-among P first now given (s ∷ slots) (r ∷ readers) (row ∷ more) d h less all =
    slot-among P first now given slots readers more d h.1 (omega (arith, less)) all.1
slot-among P first now given [] readers (row ∷ more) d h less all = absurd h
slot-among P first now given (s ∷ slots) [] (row ∷ more) d h less all = absurd h

-- the next reader gave a row too
pub first-next : (first mid now : ShelfState) (given : List Item) (slots : List ℕ) (readers : List ItemReader)
    (more : List Row) (d next : ItemReader) (item : Option Item) → HaveFirst first mid given slots readers more
    → length more < length readers → AreDifferent slots
    → ((slot : ℕ) → IsReaderAfter first mid given slot (get_or readers (length more) d)
    → ReaderAtRow first now given slot next (row_of item))
    → ReadsAmong mid now (slot_of (get_or readers (length more) d) ∷ [])
    → HaveFirst first now given slots (set readers (length more) next) (more ++ row_of item ∷ [])
first-next first mid now given slots [] [] d next item h less ne read among = absurd (omega (arith, less))
first-next first mid now given [] (r ∷ readers) [] d next item h less ne read among = absurd h
first-next first mid now given (s ∷ slots) (r ∷ readers) [] d next item h less ne read among =
    (read s h.0, all-later first given s slots readers ne.0 (subst (λ (k : ℕ). ReadsAmong mid now (k ∷ [])) h.0.at among) h.1)
first-next first mid now given (s ∷ slots) (r ∷ readers) (row ∷ more) d next item h less ne read among = (
  row-on h.0 (among.others s (slot-among (λ k. s ≢ k) first mid given slots readers more d h.1 (omega (arith, less)) ne.0, tt)),
  first-next first mid now given slots readers more d next item h.1 (omega (arith, less)) ne.1 read among,
)
first-next first mid now given [] readers (row ∷ more) d next item h less ne read among = absurd h
first-next first mid now given (s ∷ slots) [] (row ∷ more) d next item h less ne read among = absurd h

-- all of them gave rows
pub first-all : (first now : ShelfState) (given : List Item) (slots : List ℕ) (readers : List ItemReader) (more : List Row)
    → HaveFirst first now given slots readers more → length more ≡ length readers → ReadersAtRows first now given slots readers more
first-all first now given [] [] [] h e = tt
first-all first now given (s ∷ slots) [] [] h e = absurd h
first-all first now given slots (r ∷ readers) [] h e = absurd (omega (arith, e))
first-all first now given (s ∷ slots) (r ∷ readers) (row ∷ more) h e =
    (h.0, first-all first now given slots readers more h.1 (omega (arith, e)))
first-all first now given [] readers (row ∷ more) h e = absurd h
first-all first now given (s ∷ slots) [] (row ∷ more) h e = absurd h

-- the next reader found a fault
pub first-bad : (base copy : ℕ) (first mid now : ShelfState) (given : List Item) (slots : List ℕ) (readers : List ItemReader)
    (more : List Row) (d next : ItemReader) (bad : BadCopy) → HaveFirst first mid given slots readers more
    → length more < length readers → first_bad base more ≡ None → copy ≡ base + length more
    → ((slot : ℕ) → IsReaderAfter first mid given slot (get_or readers (length more) d)
    → CopyStopped (Refused bad) copy first now given slot next)
    → FindsBad first now given base slots bad
first-bad base copy first mid now given slots [] [] d next bad h less none at read = absurd (omega (arith, less))
first-bad base copy first mid now given [] (r ∷ readers) [] d next bad h less none at read = absurd h
first-bad base copy first mid now given (s ∷ slots) (r ∷ readers) [] d next bad h less none at read =
    let p = read s h.0 in
    let here : bad.copy ≡ base = omega (arith, p.0, at) in
    record { is = is here p.1; truncated = λ t. inl (sym here, p.1.shown.on t) }
  where
    is : bad.copy ≡ base → ReaderAtRow first now given s next (rows.Fault bad.fault)
        → (copies : List (List ℕ)) → AreLeft first (s ∷ slots) copies
        → first_bad base (map (row_at (length given)) copies) ≡ Some bad
    is here p [] l = absurd l
    is here p (c ∷ copies) l = ap (λ x. first_bad base (x ∷ map (row_at (length given)) copies)) (row-shows c p l.0).is
        ∙ ap (λ (n : ℕ). Some (record { copy = n; fault = bad.fault })) (sym here)
first-bad base copy first mid now given (s ∷ slots) (r ∷ readers) (row ∷ more) d next bad h less none at read =
    let p = passed-over base row more none in
    let q = first-bad (base + 1) copy first mid now given slots readers more d next bad h.1 (omega (arith, less)) p.0
    (omega (arith, at)) read in
    record { is = is p.1 q; truncated = λ t. inr (q.truncated t) }
  where
    is : ((xs : List Row) → first_bad base (row ∷ xs) ≡ first_bad (base + 1) xs) → FindsBad first now given (base + 1) slots bad
        → (copies : List (List ℕ)) → AreLeft first (s ∷ slots) copies
        → first_bad base (map (row_at (length given)) copies) ≡ Some bad
    is over q [] l = absurd l
    is over q (c ∷ copies) l = ap (λ x. first_bad base (x ∷ map (row_at (length given)) copies)) (row-shows c h.0 l.0).is
        ∙ over (map (row_at (length given)) copies) ∙ q.is copies l.1
first-bad base copy first mid now given [] readers (row ∷ more) d next bad h less none at read = absurd h
first-bad base copy first mid now given (s ∷ slots) [] (row ∷ more) d next bad h less none at read = absurd h

-- ---- new readers

-- a reader more, of the next slot
pub readers-next : (state : ShelfState) (slots : List ℕ) (slot : ℕ) (left : List ℕ) (readers : List ItemReader) (reader : ItemReader)
    → ((tail : List ItemReader) → AreReadersAfter state state [] (slot ∷ left) tail → AreReadersAfter state state [] slots (readers
    ++ tail))
    → StandsFor reader [] [] → slot_of reader ≡ slot → (tail : List ItemReader) → AreReadersAfter state state [] left tail
    → AreReadersAfter state state [] slots ((readers ++ reader ∷ []) ++ tail)
readers-next state slots slot left readers reader before stands at tail h =
    subst (λ rs. AreReadersAfter state state [] slots rs) (sym (append_assoc readers (reader ∷ []) tail))
    (before (reader ∷ tail) (record { read = []; at = at; gave = gave-none state slot; stands = stands; needed = inl refl }, h))

-- ---- the loop over the others

-- this number of the others gave rows
pub record HaveOthers (index : ℕ) (found : Option Verdict) (ours : Row) (first now : ShelfState) (given : List Item) (slots : List ℕ)
    (readers : List ItemReader) : Type 0 where
  pub more : List Row
  pub count : length more ≡ index
  pub have : HaveFirst first now given slots readers more
  pub sound : first_bad 1 more ≡ None
  pub is : found ≡ first_other (length given) ours 1 more

-- what holds of all slots holds of the slot of one reader
pub given-at : (P : ℕ → Type 0) (readers : List ItemReader) (index : ℕ) (d : ItemReader) → index < length readers
    → AllByRecursion P (map slot_of readers) → P (slot_of (get_or readers index d))
given-at P [] index d less all = absurd (omega (arith, less))
given-at P (r ∷ readers) zero d less all = all.0
given-at P (r ∷ readers) (suc index) d less all = given-at P readers index d (omega (arith, less)) all.1

pub slots-set : (readers : List ItemReader) (index : ℕ) (d next : ItemReader) → index < length readers
    → slot_of next ≡ slot_of (get_or readers index d) → map slot_of (set readers index next) ≡ map slot_of readers
slots-set [] index d next less e = absurd (omega (arith, less))
slots-set (r ∷ readers) zero d next less e = ap (λ k. k ∷ map slot_of readers) e
slots-set (r ∷ readers) (suc index) d next less e = ap (λ ks. slot_of r ∷ ks) (slots-set readers index d next (omega (arith, less)) e)

pub among-more : {first mid now : ShelfState} (slots : List ℕ) (readers : List ItemReader) (index : ℕ) (d : ItemReader)
    → index < length readers → map slot_of readers ≡ slots → ReadsAmong first mid slots
    → ReadsAmong mid now (slot_of (get_or readers index d) ∷ []) → ReadsAmong first now slots
among-more slots readers index d less same p q = record {
  kept = kept-then p.kept q.kept;
  others = λ k ne. q.others k (given-at (λ s. k ≢ s) readers index d less (subst (λ ks. AllByRecursion (λ s. k ≢ s) ks) (sym same) ne), tt)
      ∙ p.others k ne;
}

-- the next reader is after the items given
one-behind : (first now : ShelfState) (given : List Item) (slots : List ℕ) (readers : List ItemReader) (more : List Row)
    (d : ItemReader) → HaveFirst first now given slots readers more → length more < length readers
    → (slot : ℕ) × IsReaderAfter first now given slot (get_or readers (length more) d)
one-behind first now given slots [] [] d h less = absurd (omega (arith, less))
one-behind first now given [] (r ∷ readers) [] d h less = absurd h
one-behind first now given (s ∷ slots) (r ∷ readers) [] d h less = (s, h.0)
one-behind first now given (s ∷ slots) (r ∷ readers) (row ∷ more) d h less =
    one-behind first now given slots readers more d h.1 (omega (arith, less))
one-behind first now given [] readers (row ∷ more) d h less = absurd h
one-behind first now given (s ∷ slots) [] (row ∷ more) d h less = absurd h

module _ (copy index : ℕ) (found : Option Verdict) (row : Row) (first mid now : ShelfState) (given : List Item) (slots : List ℕ)
    (readers : List ItemReader) (d next : ItemReader) (h : HaveOthers index found row first mid given slots readers)
    (less : index < length readers) (at : copy ≡ 1 + index) where
  less-more : length h.more < length readers
  less-more = subst (λ (n : ℕ). n < length readers) (sym h.count) less

  -- the next reader is after the items given
  pub next-behind : (slot : ℕ) × IsReaderAfter first mid given slot (get_or readers index d)
  next-behind =
      let one = one-behind first mid given slots readers h.more d h.have less-more in
      (one.0, subst (λ n. IsReaderAfter first mid given one.0 (get_or readers n d)) h.count one.1)

  pub others-stop : (stop : Stopped BadCopy) (after : List ItemReader)
      → ((slot : ℕ) → IsReaderAfter first mid given slot (get_or readers index d) → CopyStopped stop copy first now given slot next)
      → OthersRead (Err stop) row first now given slots after
  others-stop (Refused bad) after read =
      first-bad 1 copy first mid now given slots readers h.more d next bad h.have less-more h.sound (at ∙ ap (λ n. 1 + n) (sym h.count))
      (subst (λ n. (slot : ℕ) → IsReaderAfter first mid given slot (get_or readers n d)
      → CopyStopped (Refused bad) copy first now given slot next) (sym h.count) read)
  others-stop (Failed failure) after read = read next-behind.0 next-behind.1

  pub others-next : (difference : Option Difference) (after : Option Verdict)
      → ((slot : ℕ) → IsReaderAfter first mid given slot (get_or readers index d)
      → CopyHeld (Ok difference) copy row first now given slot next)
      → ReadsAmong mid now (slot_of (get_or readers index d) ∷ []) → AreDifferent slots
      → after ≡ option_or found (option_map (Differ copy) difference)
      → HaveOthers (index + 1) after row first now given slots (set readers index next)
  others-next difference after read among ne is = record {
    more = h.more ++ row_of item ∷ [];
    count = let all = length-append h.more (row_of item ∷ []) in let count = h.count in omega (arith, all, count);
    have = subst (λ n. HaveFirst first now given slots (set readers n next) (h.more ++ row_of item ∷ [])) h.count
        (first-next first mid now given slots readers h.more d next item h.have less-more ne
        (subst (λ n. (slot : ℕ) → IsReaderAfter first mid given slot (get_or readers n d)
        → ReaderAtRow first now given slot next (row_of item)) (sym h.count)
        (λ slot b. subst (λ (k : ℕ). ReaderAtRow first now given k next (row_of item)) (same-slot next-behind.1 b) held.1))
        (subst (λ n. ReadsAmong mid now (slot_of (get_or readers n d) ∷ [])) (sym h.count) among));
    sound = bad-next 1 h.more item h.sound;
    is = is ∙ ap (λ o. option_or found (option_map (Differ copy) o)) held.2
        ∙ ap (λ o. option_or o (option_map (Differ copy) (row_difference (length given) row (row_of item)))) h.is
        ∙ other-next (length given) row 1 copy h.more (row_of item) (at ∙ ap (λ n. 1 + n) (sym h.count));
  }
    where
      held : (item : Option Item) × ReaderAtRow first now given next-behind.0 next (row_of item)
          × (difference ≡ row_difference (length given) row (row_of item))
      held = read next-behind.0 next-behind.1

      item : Option Item
      item = held.0

pub others-done : (index : ℕ) (found : Option Verdict) (row : Row) (first now : ShelfState) (given : List Item) (slots : List ℕ)
    (readers : List ItemReader) → HaveOthers index found row first now given slots readers → index ≡ length readers
    → OthersRead (Ok found) row first now given slots readers
others-done index found row first now given slots readers h e =
    (h.more, first-all first now given slots readers h.more h.have (h.count ∙ e), h.sound, h.is)

pub others-new : (row : Row) (first now : ShelfState) (given : List Item) (slots : List ℕ) (readers : List ItemReader)
    → AreReadersAfter first now given slots readers → HaveOthers 0 None row first now given slots readers
others-new row first now given slots readers h = record { more = []; count = refl; have = h; sound = refl; is = refl }
