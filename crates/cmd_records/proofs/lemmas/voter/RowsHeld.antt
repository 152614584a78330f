-- What is known of the copies, and how they continue after a row that is held.
use Rattle.std.proofs.Common.{◌≡◌, ◌+◌, ◌<◌, ℕ, Bool, true, false, cond, List, [], ◌∷◌, ◌++◌, map, length, get_or, Option, Some, None, Ok}
use Rattle.std.proofs.Common.{refl, sym, ap, subst, ◌∙◌, append-nil, length-append, arith}
use Rattle.std.specs.Prelude.{is_none}
use Rattle.std.specs.List.{count_by}
use Rattle.std.specs.Option.{option_or}
use Rattle.std.proofs.lemmas.Bool.{cond-true, cond-false}
use Rattle.std.proofs.lemmas.List.{length-map}
use Rattle.det_io.specs.Prefix.{IsPrefix}
use Rattle.det_io.specs.Shelf.{ShelfState}
use Rattle.record_grammar.specs.declared.record_fault.RecordFault.{RecordFault}
use Rattle.record_grammar.specs.declared.item.Item.{Item}
use Rattle.record_grammar.specs.declared.place.Place.{Place}
use Rattle.record_grammar.specs.Record.{items as items_in, fault as fault_in}
use Rattle.record_view.specs.declared.view.ItemView.{ItemView}
use Rattle.record_reader.specs.declared.item_reader.reader.ItemReader.{ItemReader}
use Rattle.record_reader.specs.Kinds.{runs_of}
use Rattle.record_reader.specs.Salvaged.{cycles_of}
use Rattle.record_reader.proofs.Kept.{adds}
use Rattle.record_reader.proofs.Pieces.{cycles-next}
use Rattle.copies.specs.declared.row.Row.{Row}
use Rattle.copies.specs.declared.row.Row.TheVariants as rows
use Rattle.copies.specs.Rows.{first_row, row_at}
use Rattle.copies.specs.Verdict.{shared}
use Rattle.copies.specs.CompareCopies.{AreLeft}
use Rattle.copies.specs.ItemRows.{ReaderAtRow}
use Rattle.copies.specs.Needed.{IsNeeded}
use Rattle.copies.proofs.ItemRows.{behind-begins, row-shows}
use Rattle.copies.proofs.Standing.{wider}
use Rattle.cmd_records.specs.declared.voter.voter_rows.RowView.{RowView}
use Rattle.cmd_records.specs.declared.voter.voter_rows.RowView.TheVariants as views
use Rattle.cmd_records.specs.declared.voter.voter_rows.Voter.{Voter}
use Rattle.cmd_records.specs.declared.voter.voters.HeldItem.{HeldItem}
use Rattle.cmd_records.specs.declared.voter.voters.Voters.{Voters}
use Rattle.cmd_records.specs.voter.Majority.{is_most, are_held}
use Rattle.cmd_records.specs.voter.Rows.{same_row, is_held, MostHeld, is_in_step, VoterIs, AreVoters, VoteIs, HaveVotes, voter_after}
use Rattle.cmd_records.specs.voter.Rows.{voters_after}
use Rattle.cmd_records.specs.voter.Rows.{HoldsAt, HoldsAs, AreHeld, place_behind}
use Rattle.cmd_records.specs.voter.VotersState.{AreMost, IsRecord, EndIs, AreEnded, AreSplit, RowTaken, Counts, held_in, IsHeldIn}
use Rattle.cmd_records.proofs.lemmas.voter.Counting.{most-true, count-cons, passes-at}
use Rattle.cmd_records.proofs.lemmas.voter.Prefixes.{begins_with, begins-yes, begins-parts, parts-longer, parts-shared, parts-next}
use Rattle.cmd_records.proofs.lemmas.voter.Prefixes.{shared-front}
use Rattle.cmd_records.proofs.lemmas.voter.Prefixes.{follows, row_behind, same-is}
use Rattle.cmd_records.proofs.lemmas.voter.Holding.{held-item, held-whole, held-fault, held-none, held-many, held-at}
use Rattle.cmd_records.proofs.lemmas.voter.Parting.{voters_after-many, voters_after-reader, voters_after-row}
use Rattle.cmd_records.proofs.lemmas.voter.Held.{beginning, common-is, held-row, none-held, split-majority}

-- ---- what is told

vote-told : (first now : ShelfState) (given : List Item) (slot : ℕ) (reader : ItemReader) (left : Option ℕ) (row : Option Row)
    (copy : List ℕ) → VoteIs left row first now given slot reader → first.left slot ≡ Some copy → row_behind given copy ≡ row
vote-told first now given slot reader None (Some row) copy h told =
    let s = row-shows copy h told in
    cond-true (begins_with given (items_in copy)) (Some (row_at (length given) copy)) None (begins-yes given (items_in copy) s.begins)
    ∙ ap Some s.is
vote-told first now given slot reader (Some n) None copy h told =
    cond-false (begins_with given (items_in copy)) (Some (row_at (length given) copy)) None
    (begins-parts 0 given (items_in copy) ∙ ap (λ o. is_none o) (h.told copy told))
vote-told first now given slot reader None None copy h told = absurd h
vote-told first now given slot reader (Some n) (Some row) copy h told = absurd h

pub votes-told : (first now : ShelfState) (given : List Item) (slots : List ℕ) (voters : List Voter) (more : List (Option Row))
    (copies : List (List ℕ)) → HaveVotes first now given slots voters more → AreLeft first slots copies
    → map (row_behind given) copies ≡ more
votes-told first now given [] [] [] [] h l = refl
votes-told first now given (s ∷ slots) (v ∷ voters) (row ∷ more) (c ∷ copies) h l =
    ap (λ x. x ∷ map (row_behind given) copies) (vote-told first now given s v.reader v.left row c h.0 l.0)
    ∙ ap (λ xs. row ∷ xs) (votes-told first now given slots voters more copies h.1 l.1)
votes-told first now given [] [] [] (c ∷ copies) h l = absurd l
votes-told first now given (s ∷ slots) (v ∷ voters) (row ∷ more) [] h l = absurd l
votes-told first now given slots voters more copies h l = absurd h

step-told : (first now : ShelfState) (given : List Item) (slot : ℕ) (reader : ItemReader) (left : Option ℕ) (copy : List ℕ)
    → VoterIs left first now given slot reader → first.left slot ≡ Some copy → is_none left ≡ begins_with given (items_in copy)
step-told first now given slot reader None copy h told = sym (begins-yes given (items_in copy) (behind-begins copy h told))
step-told first now given slot reader (Some n) copy h told =
    sym (begins-parts 0 given (items_in copy) ∙ ap (λ o. is_none o) (h.told copy told))

steps-told : (first now : ShelfState) (given : List Item) (slots : List ℕ) (voters : List Voter) (copies : List (List ℕ))
    → AreVoters first now given slots voters → AreLeft first slots copies
    → (count_by is_in_step voters ≡ beginning copies given) × (length voters ≡ length copies)
steps-told first now given [] [] [] h l = (refl, refl)
steps-told first now given (s ∷ slots) (v ∷ voters) (c ∷ copies) h l =
    let rest = steps-told first now given slots voters copies h.1 l.1 in
    let same = rest.1 in (
      count-cons is_in_step v voters (begins_with given (items_in c)) (step-told first now given s v.reader v.left c h.0 l.0)
          ∙ ap (λ n. cond (begins_with given (items_in c)) 1 0 + n) rest.0
          ∙ sym (count-cons (λ copy. begins_with given (items_in copy)) c copies (begins_with given (items_in c)) refl),
      omega (arith, same),
    )
steps-told first now given [] [] (c ∷ copies) h l = absurd l
steps-told first now given (s ∷ slots) (v ∷ voters) [] h l = absurd l
steps-told first now given [] (v ∷ voters) copies h l = absurd h
steps-told first now given (s ∷ slots) [] copies h l = absurd h

-- more than half of the copies begin with what was given
pub held-told : (first now : ShelfState) (given : List Item) (slots : List ℕ) (voters : List Voter) (copies : List (List ℕ))
    → AreVoters first now given slots voters → AreMost voters → AreLeft first slots copies → are_held copies given ≡ true
held-told first now given slots voters copies h most l =
    let same = steps-told first now given slots voters copies h l in
    subst (λ n. is_most (beginning copies given) n ≡ true) same.1 (subst (λ n. is_most n (length voters) ≡ true) same.0 most)

-- ---- no row is held

pub split-told : (first old now : ShelfState) (given : List Item) (slots : List ℕ) (voters after : List Voter) (more : List (Option Row))
    → AreVoters first old given slots voters → AreMost voters → HaveVotes first now given slots after more → MostHeld None more
    → (copies : List (List ℕ)) → AreLeft first slots copies → AreSplit given copies
split-told first old now given slots voters after more h most votes none copies l =
    record {
      common = common-is copies given held (λ x e. no (Some (rows.Item x)) (held-row copies given x ∙ e));
      none = split-majority copies given held no;
    }
  where
    held : are_held copies given ≡ true
    held = held-told first old given slots voters copies h most l

    no : (row : Option Row) → is_held (map (row_behind given) copies) row ≡ true → ⊥
    no row e = none-held more none row
        (subst (λ all. is_held all row ≡ true) (votes-told first now given slots after more copies votes l) e)

-- ---- an item is held

-- what was needed after some items is needed after one more
needed-on : (given : List Item) (x : Item) (read : List ℕ) → IsNeeded (length given) read → IsNeeded (length (given ++ x ∷ [])) read
needed-on given x read h =
    wider (length given) (length (given ++ x ∷ [])) read (let all = length-append given (x ∷ []) in omega (arith, all)) h

item-part : (first now : ShelfState) (given : List Item) (x : Item) (slot : ℕ) (reader : ItemReader) (left : Option ℕ)
    (row : Option Row) → VoteIs left row first now given slot reader
    → VoterIs (cond (same_row (Some (rows.Item x)) row) left (option_or left (Some (length given)))) first now (given ++ x ∷ []) slot
    reader
item-part first now given x slot reader None (Some row) h = by (same_row (Some (rows.Item x)) (Some row)) refl
  where
    by : (b : Bool) → same_row (Some (rows.Item x)) (Some row) ≡ b
        → VoterIs (cond b None (Some (length given))) first now (given ++ x ∷ []) slot reader
    by true e =
        let is : Some (rows.Item x) ≡ Some row = same-is (Some (rows.Item x)) (Some row) e in
        let row-is : row ≡ rows.Item x = cc in
        let r : ReaderAtRow first now given slot reader (rows.Item x) =
        subst (λ z. ReaderAtRow first now given slot reader z) row-is h in
        record { read = r.read; at = r.at; gave = r.gave; stands = r.shown.on; needed = needed-on given x r.read r.needed }
    by false e = record {
      at = h.at;
      told = λ copy l. let s = row-shows copy h l in
          parts-next given x copy s.begins
          ∙ ap (λ z. cond (same_row (Some (rows.Item x)) (Some z)) None (Some (length given))) s.is
          ∙ ap (λ b. cond b None (Some (length given))) e;
      needed = (h.read, h.gave, needed-on given x h.read h.needed);
    }
item-part first now given x slot reader (Some n) None h = record {
  at = h.at;
  told = λ copy l. parts-longer 0 given (x ∷ []) (items_in copy) n (h.told copy l);
  needed = (h.needed.0, h.needed.1, needed-on given x h.needed.0 h.needed.2);
}
item-part first now given x slot reader None None h = absurd h
item-part first now given x slot reader (Some n) (Some row) h = absurd h

items-part : (first now : ShelfState) (given : List Item) (x : Item) (slots : List ℕ) (voters : List Voter) (more : List (Option Row))
    → HaveVotes first now given slots voters more
    → AreVoters first now (given ++ x ∷ []) slots (voters_after (length given) (map (same_row (Some (rows.Item x))) more) voters)
items-part first now given x [] [] [] h = tt
items-part first now given x (s ∷ slots) (v ∷ voters) (row ∷ more) h =
    (item-part first now given x s v.reader v.left row h.0, items-part first now given x slots voters more h.1)
items-part first now given x slots voters more h = absurd h

-- ---- the end of the record is held

ends-whole : (rest : List Item) (end : Option RecordFault) → first_row rest end ≡ rows.Whole → (rest ≡ []) × (end ≡ None)
ends-whole [] None e = (refl, refl)
ends-whole [] (Some f) e = absurd cc
ends-whole (x ∷ rest) end e = absurd cc

whole-there : (given : List Item) (copy : List ℕ) → IsPrefix given (items_in copy) → row_at (length given) copy ≡ rows.Whole
    → IsRecord given copy
whole-there given copy p e =
    let ends = ends-whole p.0 (fault_in copy) (sym (follows given p.0 copy p.1) ∙ e) in
    record { items = sym p.1 ∙ ap (λ r. given ++ r) ends.0 ∙ append-nil given; whole = ends.1 }

-- the row of a whole record after its items
whole-row : (given : List Item) (copy : List ℕ) → IsRecord given copy → row_at (length given) copy ≡ rows.Whole
whole-row given copy w = follows given [] copy (append-nil given ∙ sym w.items) ∙ ap (first_row []) w.whole

whole-part : (first now : ShelfState) (given : List Item) (slot : ℕ) (reader : ItemReader) (left : Option ℕ) (row : Option Row)
    → VoteIs left row first now given slot reader
    → EndIs (cond (same_row (Some rows.Whole) row) left (option_or left (Some (length given)))) first now given slot
whole-part first now given slot reader None (Some row) h = by (same_row (Some rows.Whole) (Some row)) refl
  where
    by : (b : Bool) → same_row (Some rows.Whole) (Some row) ≡ b → EndIs (cond b None (Some (length given))) first now given slot
    by true e =
        let is : Some rows.Whole ≡ Some row = same-is (Some rows.Whole) (Some row) e in
        let row-is : row ≡ rows.Whole = cc in
        let r : ReaderAtRow first now given slot reader rows.Whole = subst (λ z. ReaderAtRow first now given slot reader z) row-is h in
        (r.shown.on, λ copy l. let s = row-shows copy r l in whole-there given copy s.begins s.is)
    by false e = λ copy l. let s = row-shows copy h l in record {
      row = ap (λ all. length (shared given all)) (sym s.begins.1) ∙ ap length (shared-front given s.begins.0);
      other = λ w.
          let is : row ≡ rows.Whole = sym s.is ∙ whole-row given copy w in
          let no : true ≡ false = subst (λ z. same_row (Some rows.Whole) (Some z) ≡ false) is e in cc;
    }
whole-part first now given slot reader (Some n) None h = λ copy l. record {
  row = let e = parts-shared 0 given (items_in copy) n (h.told copy l) in omega (arith, e);
  other = λ w.
      let begins = begins-yes given (items_in copy) ([], append-nil given ∙ sym w.items) in
      let no : true ≡ false = sym begins ∙ begins-parts 0 given (items_in copy) ∙ ap (λ o. is_none o) (h.told copy l) in cc;
}
whole-part first now given slot reader None None h = absurd h
whole-part first now given slot reader (Some n) (Some row) h = absurd h

wholes-part : (first now : ShelfState) (given : List Item) (slots : List ℕ) (voters : List Voter) (more : List (Option Row))
    → HaveVotes first now given slots voters more
    → AreEnded first now given slots (voters_after (length given) (map (same_row (Some rows.Whole)) more) voters)
wholes-part first now given [] [] [] h = tt
wholes-part first now given (s ∷ slots) (v ∷ voters) (row ∷ more) h =
    (whole-part first now given s v.reader v.left row h.0, wholes-part first now given slots voters more h.1)
wholes-part first now given slots voters more h = absurd h

-- ---- how many stay

same-none : (row : Option Row) → same_row row None ≡ false
same-none (Some (rows.Item x)) = refl
same-none (Some rows.Whole) = refl
same-none (Some (rows.Fault f)) = refl
same-none None = refl

one-stays : (n : ℕ) (row : Option Row) (first now : ShelfState) (given : List Item) (slot : ℕ) (reader : ItemReader) (left : Option ℕ)
    (other : Option Row) → VoteIs left other first now given slot reader
    → is_none (cond (same_row row other) left (option_or left (Some n))) ≡ same_row row other
one-stays n row first now given slot reader None (Some other) h = by (same_row row (Some other))
  where
    by : (b : Bool) → is_none (cond b None (Some n)) ≡ b
    by true = refl
    by false = refl
one-stays n row first now given slot reader (Some m) None h =
    ap (λ b. is_none (cond b (Some m) (Some m))) (same-none row) ∙ sym (same-none row)
one-stays n row first now given slot reader None None h = absurd h
one-stays n row first now given slot reader (Some m) (Some other) h = absurd h

stay-many : (n : ℕ) (row : Option Row) (first now : ShelfState) (given : List Item) (slots : List ℕ) (voters : List Voter)
    (more : List (Option Row)) → HaveVotes first now given slots voters more
    → (count_by is_in_step (voters_after n (map (same_row row) more) voters) ≡ count_by (same_row row) more)
    × (length (voters_after n (map (same_row row) more) voters) ≡ length more)
stay-many n row first now given [] [] [] h = (refl, refl)
stay-many n row first now given (s ∷ slots) (v ∷ voters) (other ∷ more) h =
    let rest = stay-many n row first now given slots voters more h.1 in
    let same = rest.1 in (
      count-cons is_in_step (voter_after (same_row row other) n v) (voters_after n (map (same_row row) more) voters) (same_row row other)
          (one-stays n row first now given s v.reader v.left other h.0)
          ∙ ap (λ k. cond (same_row row other) 1 0 + k) rest.0 ∙ sym (count-cons (same_row row) other more (same_row row other) refl),
      omega (arith, same),
    )
stay-many n row first now given slots voters more h = absurd h

most-stay : (n : ℕ) (row : Option Row) (first now : ShelfState) (given : List Item) (slots : List ℕ) (voters : List Voter)
    (more : List (Option Row)) → HaveVotes first now given slots voters more → is_held more row ≡ true
    → AreMost (voters_after n (map (same_row row) more) voters)
most-stay n row first now given slots voters more h held =
    let same = stay-many n row first now given slots voters more h in
    subst (λ k. is_most k (length (voters_after n (map (same_row row) more) voters)) ≡ true) (sym same.0)
    (subst (λ k. is_most (count_by (same_row row) more) k ≡ true) (sym same.1) held)

-- ---- a row is taken

-- a row that is held equals one of them
held-one : (more : List (Option Row)) (row : Option Row) → is_held more row ≡ true
    → (k : ℕ) × (same_row row (get_or more k None) ≡ true)
held-one more row held =
    let n = most-true (count_by (same_row row) more) (length more) held in
    let at = passes-at (same_row row) more None (omega (arith, n)) in (at.0, at.2)

no-fault : (f : RecordFault) (other : Option Row) → same_row (Some (rows.Fault f)) other ≡ true → ⊥
no-fault f other e = cc

no-none : (other : Option Row) → same_row None other ≡ true → ⊥
no-none other e = cc

-- the item that is held, in the copies that have left or stayed
held-still : (place : Place) (n : ℕ) (same : List Bool) (voters : List Voter) (held : HeldItem) (x : Item) (d : Voter)
    → length voters ≡ length same → held.copy < length voters → HoldsAt place (get_or voters held.copy d).reader held.view x
    → IsHeldIn (voters_after n same voters) held place x
held-still place n same voters held x d all less holds = record {
  there = let kept = voters_after-many n same voters all in omega (arith, less, kept);
  holds = λ e. subst (λ (r : ItemReader). HoldsAt place r held.view x) (sym (voters_after-reader n same voters held.copy e d all less))
      holds;
}

module _ (first now : ShelfState) (given : List Item) (slots : List ℕ) (after : List Voter) (more : List (Option Row))
    (votes : HaveVotes first now given slots after more) (all : AreHeld (place_behind given) after more) (copy : ℕ) (d : Voter)
    (less : copy < length after) (mid new : Voters) (row : Option Row) (held : is_held more row ≡ true)
    (parts : mid.voters.items ≡ voters_after (length given) (map (same_row row) more) after) (n : mid.rows ≡ length given)
    (cycles : mid.cycles ≡ cycles_of given) where
  many : length after ≡ length (map (same_row row) more)
  many = held-many (place_behind given) after more all ∙ sym (length-map more (same_row row))

  voters_after-by : (r : Option Row) → row ≡ r → voters_after (length given) (map (same_row row) more) after
      ≡ voters_after (length given) (map (same_row r) more) after
  voters_after-by r e = ap (λ o. voters_after (length given) (map (same_row o) more) after) e

  item-taken : (view : ItemView) (x : Item) → row ≡ Some (rows.Item x) → HoldsAt (place_behind given) (get_or after copy d).reader view x
      → Counts (Some (record { copy = copy; view = view })) mid new
      → RowTaken (Ok (Some (record { copy = copy; view = view }))) first now given slots new
  item-taken view x e holds counts = (
    x,
    record {
      readers = subst (λ vs. AreVoters first now (given ++ x ∷ []) slots vs) (sym (voters ∙ voters_after-by (Some (rows.Item x)) e))
          (items-part first now given x slots after more votes);
      most = subst AreMost (sym voters) (most-stay (length given) row first now given slots after more votes held);
      rows = let longer = length-append given (x ∷ []) in
          ap (λ (s : Voters). s.rows) counts ∙ ap (λ k. k + 1) n ∙ omega (arith, longer);
      cycles = ap (λ (s : Voters). s.cycles) counts ∙ ap (λ k. k + runs_of view.span.kind) cycles
          ∙ ap (λ k. cycles_of given + k) (adds view.place view.span.kind _ _ x holds.holds.shows.parts).runs
          ∙ sym (cycles-next given x);
    },
    subst (λ vs. IsHeldIn vs (record { copy = copy; view = view }) (place_behind given) x) (sym voters)
        (held-still (place_behind given) (length given) (map (same_row row) more) after (record { copy = copy; view = view }) x d many less
        holds),
  )
    where
      voters : new.voters.items ≡ voters_after (length given) (map (same_row row) more) after
      voters = ap (λ (s : Voters). s.voters.items) counts ∙ parts

  end-taken : row ≡ Some rows.Whole → Counts None mid new → RowTaken (Ok None) first now given slots new
  end-taken e counts = record {
    ended = subst (λ vs. AreEnded first now given slots vs) (sym (voters ∙ voters_after-by (Some rows.Whole) e))
        (wholes-part first now given slots after more votes);
    most = subst AreMost (sym voters) (most-stay (length given) row first now given slots after more votes held);
    cycles = ap (λ (s : Voters). s.cycles) counts ∙ cycles;
  }
    where
      voters : new.voters.items ≡ voters_after (length given) (map (same_row row) more) after
      voters = ap (λ (s : Voters). s.voters.items) counts ∙ parts

  taken-as : (view : Option RowView) → HoldsAs view (place_behind given) (get_or after copy d).reader row
      → Counts (held_in copy view) mid new → RowTaken (Ok (held_in copy view)) first now given slots new
  taken-as (Some (views.Item view)) h counts =
      let x = held-item view (place_behind given) (get_or after copy d).reader row h in item-taken view x.0 x.1 x.2 counts
  taken-as (Some views.Whole) h counts = end-taken (held-whole (place_behind given) (get_or after copy d).reader row h) counts
  taken-as (Some views.Fault) h counts =
      let f = held-fault (place_behind given) (get_or after copy d).reader row h in
      let one = held-one more row held in
      absurd (no-fault f.0 (get_or more one.0 None) (subst (λ r. same_row r (get_or more one.0 None) ≡ true) f.1 one.1))
  taken-as None h counts =
      let one = held-one more row held in
      absurd (no-none (get_or more one.0 None)
      (subst (λ r. same_row r (get_or more one.0 None) ≡ true) (held-none (place_behind given) (get_or after copy d).reader row h) one.1))

  -- the row of a copy of those that were parted
  pub row-taken : (v : Voter) → get_or mid.voters.items copy v ≡ v → row ≡ get_or more copy None → Counts (held_in copy v.row) mid new
      → RowTaken (Ok (held_in copy v.row)) first now given slots new
  row-taken v is at counts =
      taken-as v.row
      (subst (λ (o : Option RowView). HoldsAs o (place_behind given) (get_or after copy d).reader row) (sym same)
      (subst (λ (r : Option Row). HoldsAs (get_or after copy d).row (place_behind given) (get_or after copy d).reader r) (sym at)
      (held-at (place_behind given) after more copy d all less))) counts
    where
      same : v.row ≡ (get_or after copy d).row
      same = ap (λ (w : Voter). w.row) (sym is) ∙ ap (λ vs. (get_or vs copy v).row) parts
          ∙ voters_after-row (length given) (map (same_row row) more) after copy v d many less
