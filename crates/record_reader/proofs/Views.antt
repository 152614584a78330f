-- A loop that gives the items of a record to a taker, as views of the bytes that a reader holds: how it begins, goes on, and ends.
use Rattle.std.proofs.Common.{◌≡◌, ℕ, inl, List, [], ◌∷◌, ◌++◌, Option, Some, None, Result, Ok, Err, refl, sym, ap, subst}
use Rattle.std.proofs.Common.{◌∙◌, append_assoc, arith}
use Rattle.det_io.specs.declared.failure.Failure.{Failure}
use Rattle.det_io.specs.declared.failure.Failure.TheVariants.{Read, Write, OutOfMemory}
use Rattle.det_io.specs.declared.failure.Stopped.{Stopped}
use Rattle.det_io.specs.declared.failure.Stopped.TheVariants.{Refused, Failed}
use Rattle.det_io.specs.Prefix.{IsPrefix}
use Rattle.det_io.specs.Shelf.{ShelfState, Reads, IsAtEnd}
use Rattle.det_io.specs.Sink.{Grew}
use Rattle.det_io.specs.Traffic.{SinkRun, ShelfTraffic, SinkTraffic, failure_in}
use Rattle.det_io.proofs.Counts.{rose-before}
use Rattle.det_io.proofs.Growth.{grew-none, grew-then, part-whole}
use Rattle.det_io.proofs.Prefixes.{prefix-append, prefix-behind, prefix-same, prefix-then}
use Rattle.det_io.proofs.SlotReads.{reads-none, reads-then}
use Rattle.record_grammar.specs.declared.record_fault.RecordFault.{RecordFault}
use Rattle.record_grammar.specs.declared.item.Item.{Item}
use Rattle.record_grammar.specs.Record.{items as items_in, fault_so_far}
use Rattle.record_view.specs.declared.view.ItemView.{ItemView}
use Rattle.record_view.specs.Shows.{IsSpelling}
use Rattle.record_reader.specs.declared.item_reader.reader.ItemReader.{ItemReader}
use Rattle.record_reader.specs.item_reader.StandsFor.{StandsFor, HasRead, ReadsIfNeeded, ItemIs, Holds, slot_of}
use Rattle.record_reader.proofs.lemmas.item_reader.Needed.{while-weaker, while-then}
use Rattle.record_reader.specs.ItemTaker.{AreFirst, IsNext, ItemTaker, Takes, Took, Wrote, StopsAt, RefusedBy, Finds, RecordRead, IsNeeded, ItemsRead}
use Rattle.record_reader.proofs.Items.{are_first, more_items}
use Rattle.record_reader.proofs.ItemTaker.{at_none, all-before, step, Lifts, quiet-sink}

-- ---- the loop

-- items of a record were passed to a taker, and a sink took what is written of them
pub record Running {E : Type 0} (taking : ItemTaker E) (first now : ShelfState) (slot : ℕ) (reader : ItemReader)
    (before after : List ℕ → Type 0) : Type 0 where
  pub read : List ℕ
  pub given : List Item
  pub at : slot_of reader ≡ slot
  pub reads : Reads first now slot read
  pub gave : StandsFor reader read given
  pub needed : IsNeeded given read
  pub stands : taking.stands given
  pub grew : Grew before after (taking.written given)

pub running-new : {E : Type 0} (taking : ItemTaker E) (state : ShelfState) (reader : ItemReader) (took : List ℕ → Type 0)
    → StandsFor reader [] [] → taking.stands [] → taking.written [] ≡ [] → Running taking state state (slot_of reader) reader took took
running-new taking state reader took gave stands none = record {
  read = [];
  given = [];
  at = refl;
  reads = reads-none state (slot_of reader);
  gave = gave;
  needed = inl refl;
  stands = stands;
  grew = subst (Grew took took) (sym none) (grew-none took);
}

-- bytes that were read after some were needed, as those were
needed-then : (given : List Item) (read more : List ℕ) → IsNeeded given read → ReadsIfNeeded read given more → IsNeeded given (read ++ more)
needed-then given read more before need =
    while-then (λ first. IsPrefix (items_in first) given × (fault_so_far first ≡ None)) read more before
    (while-weaker _ _ more (λ first all. (
      subst (IsPrefix (items_in (read ++ first))) all.0 (prefix-same (items_in (read ++ first))),
      all.1,
    )) need)

-- what was needed for some items was needed for one more
needed-longer : (given : List Item) (item : Item) (read : List ℕ) → IsNeeded given read → IsNeeded (given ++ item ∷ []) read
needed-longer given item read h =
    while-weaker _ _ read (λ first p. (
      prefix-then (items_in first) given (given ++ item ∷ []) p.0 (prefix-append given (item ∷ [])),
      p.1,
    )) h

-- the result of a reader, by all bytes that were read
abbrev pub Answered : {E : Type 0} {taking : ItemTaker E} {first mid : ShelfState} {slot : ℕ} {reader : ItemReader}
    {before after : List ℕ → Type 0} → Running taking first mid slot reader before after → ShelfState → ItemReader
    → Result (Option ItemView) (Stopped RecordFault) → Type 0
Answered {first = first} {slot = slot} h now next result = (more : List ℕ)
    × (Reads first now slot (h.read ++ more) × IsNeeded h.given (h.read ++ more))
    × ItemIs result next (IsAtEnd now slot) (h.read ++ more) h.given

pub answered : {E : Type 0} {taking : ItemTaker E} {first mid : ShelfState} {slot : ℕ} {reader : ItemReader} {before after : List ℕ
    → Type 0}
    (h : Running taking first mid slot reader before after) {now : ShelfState} (next : ItemReader)
    (result : Result (Option ItemView) (Stopped RecordFault))
    → HasRead mid now reader (ItemIs result next (IsAtEnd now (slot_of reader))) → Answered h now next result
answered {mid = mid} h {now = now} next result p = (
  p.0,
  (
    reads-then h.reads (subst (λ (k : ℕ). Reads mid now k p.0) h.at p.1),
    needed-then h.given h.read p.0 h.needed (p.2 h.read h.given h.gave).0,
  ),
  subst (λ (k : ℕ). ItemIs result next (IsAtEnd now k) (h.read ++ p.0) h.given) h.at (p.2 h.read h.given h.gave).1,
)

-- the same, by the case of the result
pub answered-as : {E : Type 0} {taking : ItemTaker E} {first mid now : ShelfState} {slot : ℕ} {reader : ItemReader}
    {before after : List ℕ → Type 0} (h : Running taking first mid slot reader before after) (next : ItemReader)
    {given item : Option ItemView} → given ≡ item → HasRead mid now reader (ItemIs (Ok given) next (IsAtEnd now (slot_of reader)))
    → Answered h now next (Ok item)
answered-as {now = now} h next {given} is read =
    subst (λ (o : Option ItemView). Answered h now next (Ok o)) is (answered h next (Ok given) read)

-- the returned items come first among those of all bytes that begin with the ones read
come-first : {E : Type 0} {taking : ItemTaker E} {first mid : ShelfState} {slot : ℕ} {reader : ItemReader} {before after : List ℕ → Type 0}
    (h : Running taking first mid slot reader before after) (more rest : List ℕ)
    → IsPrefix h.given (items_in ((h.read ++ more) ++ rest))
come-first {reader = reader} h more rest =
    let all = more_items reader h.read h.given h.gave (more ++ rest) in
    (all.0, sym all.1 ∙ ap items_in (sym (append_assoc h.read more rest)))

module _ {E : Type 0} {taking : ItemTaker E} {first mid : ShelfState} {slot : ℕ} {reader : ItemReader} {before after : List ℕ → Type 0}
    (h : Running taking first mid slot reader before after) where
  grew-as : (taken : ItemTaker E) → taken.written ≡ taking.written → Grew before after (taken.written h.given)
  grew-as taken same = subst (λ (w : List Item → List ℕ). Grew before after (w h.given)) (sym same) h.grew

  took : {a b : ℕ} → Took taking h.given (step before after a b)
  took = record { stands = h.stands; grew = h.grew }

module _ {E : Type 0} {taking : ItemTaker E} {first mid : ShelfState} {slot : ℕ} {reader : ItemReader} {before after : List ℕ → Type 0}
    (h : Running taking first mid slot reader before after) {now : ShelfState} (next : ItemReader) where
  -- the returned items and the next one come first in a record
  pub next-first : (view : ItemView) (answer : Answered h now next (Ok (Some view))) → AreFirst (h.given ++ answer.2.item ∷ [])
  next-first view answer = are_first next (h.read ++ answer.0) (h.given ++ answer.2.item ∷ []) answer.2.stands

  -- the next item by its bytes
  pub next-given : (view : ItemView) (answer : Answered h now next (Ok (Some view))) (bytes : List ℕ)
      → ((item : Item) → Holds next view item → IsSpelling view item bytes) → IsNext h.given answer.2.item view bytes
  next-given view answer bytes spelled = record {
    first = next-first view answer;
    after = (h.read ++ answer.0, answer.2.behind.0, answer.2.behind.1);
    spelling = spelled answer.2.item answer.2.holds;
  }

  next-all : (view : ItemView) (answer : Answered h now next (Ok (Some view))) (rest : List ℕ)
      → IsPrefix (h.given ++ answer.2.item ∷ []) (items_in ((h.read ++ answer.0) ++ rest))
  next-all view answer rest =
      let all = more_items next (h.read ++ answer.0) (h.given ++ answer.2.item ∷ []) answer.2.stands rest in (all.0, sym all.1)

  -- an item was taken
  pub running-next : (view : ItemView) {u : Unit {0}} {last : List ℕ → Type 0} {a b : ℕ} (taken : ItemTaker E)
      → taken.written ≡ taking.written
      → (answer : Answered h now next (Ok (Some view))) → slot_of next ≡ slot_of reader
      → Takes (Ok u) taken h.given answer.2.item [] (step after last a b) → Running taken first now slot next before last
  running-next view {last = last} taken same answer at take = record {
    read = h.read ++ answer.0;
    given = h.given ++ answer.2.item ∷ [];
    at = at ∙ h.at;
    reads = answer.1.0;
    gave = answer.2.stands;
    needed = needed-longer h.given answer.2.item (h.read ++ answer.0) answer.1.1;
    stands = take.after;
    grew = subst (Grew before last) (sym take.all) (grew-then (grew-as h taken same) take.wrote);
  }

  -- ---- how it ends

  -- all items were taken
  pub all-taken : {u : Unit {0}} {a b : ℕ} {stays : Type 0} → Answered h now next (Ok None)
      → ItemsRead (Ok u) taking (record { first = first; last = now; stays = stays }) slot (step before after a b)
  all-taken {u} {a} {b} answer = record {
    read = h.read ++ answer.0;
    given = h.given;
    reads_to = answer.2.1;
    needed = answer.1.1;
    record_read = record {
      reads = answer.1.0;
      each = λ rest end. at_none (λ (bytes : List ℕ). RecordRead (Ok u) taking h.given bytes (step before after a b)) (h.read ++ answer.0)
          rest (end answer.2.1)
          (record { items = answer.2.2; fault = answer.2.3 }, took h);
    };
  }

  -- the reader stopped
  pub reader-stopped : (stop : Stopped RecordFault) (end : Stopped E) {a b : ℕ} {stays : Type 0} → Lifts taking stop end
      → Answered h now next (Err stop)
      → ItemsRead (Err end) taking (record { first = first; last = now; stays = stays }) slot (step before after a b)
  reader-stopped (Refused f) (Refused why) {a} {b} lifts answer = record {
    read = h.read ++ answer.0;
    given = h.given;
    reads_to = subst (λ (o : Option RecordFault). Finds o h.given (h.read ++ answer.0) (IsAtEnd now slot)) (sym lifts) answer.2.0;
    needed = answer.1.1;
    record_read = record {
      reads = answer.1.0;
      each = λ rest end. subst (λ (o : Option RecordFault). RefusedBy o why taking h.given ((h.read ++ answer.0) ++ rest)
          (step before after a b)) (sym lifts)
          (all-before answer.2.0 rest end, took h);
    };
  }
  reader-stopped (Refused f) (Failed failure) lifts answer = absurd lifts
  reader-stopped (Failed Read) end {a} {b} {stays} lifts answer =
      subst (λ (x : Stopped E). ItemsRead (Err x) taking (record { first = first; last = now; stays = stays }) slot (step before after a b))
      (sym lifts) (record {
        read = h.read ++ answer.0;
        given = h.given;
        reads_to = (answer.2.1, answer.2.2);
        needed = answer.1.1;
        record_read = record { reads = answer.1.0; each = λ rest at. (come-first h answer.0 rest, took h) };
      })
  reader-stopped (Failed Write) end lifts answer = absurd answer.2
  reader-stopped (Failed OutOfMemory) end {a} {b} {stays} lifts answer =
      subst (λ (x : Stopped E). ItemsRead (Err x) taking (record { first = first; last = now; stays = stays }) slot (step before after a b))
      (sym lifts) (record {
        read = h.read ++ answer.0;
        given = h.given;
        reads_to = tt;
        needed = answer.1.1;
        record_read = record {
          reads = answer.1.0;
          each =
              λ rest at. (come-first h answer.0 rest, part-whole before after (taking.written h.given) h.grew);
        };
      })

-- the taker stopped at an item
pub taker-stopped : {E : Type 0} {taking : ItemTaker E} {first mid now : ShelfState} {slot : ℕ} {reader : ItemReader}
    {before after last : List ℕ → Type 0} {a b c d : ℕ} {stays : Type 0} (next : ItemReader) (view : ItemView) (stop : Stopped E)
    (taken : ItemTaker E)
    → taken.written ≡ taking.written
    → (h : Running taking first mid slot reader before after) (answer : Answered h now next (Ok (Some view)))
    → Takes (Err stop) taken h.given answer.2.item [] (step after last a b)
    → ItemsRead (Err stop) taken (record { first = first; last = now; stays = stays }) slot (step before last c d)
taker-stopped {E} {first = first} {now = now} {slot = slot} {before = before} {after = after} {last = last} {a = a} {b = b} {c = c} {d = d}
    {stays = stays} next view stop taken same h answer take = by stop take
  where
    read : List ℕ
    read = h.read ++ answer.0

    behind : (part : List ℕ) → Grew after last ([] ++ part) → Grew before last (taken.written h.given ++ part)
    behind part grew = grew-then (grew-as h taken same) grew

    there : (stop : Stopped E) (rest : List ℕ) (take : Takes (Err stop) taken h.given answer.2.item [] (step after last a b))
        → Wrote (Err stop) (taken.written h.given) take.more (step before last c d)
        → StopsAt stop taken h.given (read ++ rest) (step before last c d)
    there stop rest take wrote =
        (answer.2.item, next-all h next view answer rest, record { more = take.more; all = take.all; wrote = wrote; after = take.after })

    by : (stop : Stopped E) → Takes (Err stop) taken h.given answer.2.item [] (step after last a b)
        → ItemsRead (Err stop) taken (record { first = first; last = now; stays = stays }) slot (step before last c d)
    by (Refused why) take = record {
      read = read;
      given = h.given;
      reads_to = subst (λ (o : Option RecordFault). Finds o h.given read (IsAtEnd now slot)) (sym take.after.0) tt;
      needed = answer.1.1;
      record_read = record {
        reads = answer.1.0;
        each = λ rest end. subst (λ (o : Option RecordFault). RefusedBy o why taken h.given (read ++ rest) (step before last c d))
            (sym take.after.0) (there (Refused why) rest take (take.wrote.0, take.wrote.1, behind take.wrote.0 take.wrote.2));
      };
    }
    by (Failed Read) take = absurd take.after
    by (Failed Write) take = record {
      read = read;
      given = h.given;
      reads_to = tt;
      needed = answer.1.1;
      record_read = record {
        reads = answer.1.0;
        each = λ rest end. there (Failed Write) rest take (take.wrote.0, take.wrote.1, behind take.wrote.0 take.wrote.2);
      };
    }
    by (Failed OutOfMemory) take = record {
      read = read;
      given = h.given ++ answer.2.item ∷ [];
      reads_to = tt;
      needed = needed-longer h.given answer.2.item read answer.1.1;
      record_read = record {
        reads = answer.1.0;
        each = λ rest end. (
          next-all h next view answer rest,
          (
            taken.written h.given ++ take.wrote.0,
            subst (IsPrefix (taken.written h.given ++ take.wrote.0)) (sym take.all)
                (prefix-behind (taken.written h.given) take.wrote.0 take.more take.wrote.1),
            behind take.wrote.0 take.wrote.2,
          ),
        );
      };
    }

-- ---- traffic

-- a shelf over two steps; only the second can fail
pub shelf-then : {first mid last : ShelfState} {A B C : Type 0} {failure : Option Failure} → (A → B → C)
    → ShelfTraffic (record { first = first; last = mid; stays = A }) None
    → ShelfTraffic (record { first = mid; last = last; stays = B }) failure
    → ShelfTraffic (record { first = first; last = last; stays = C }) failure
shelf-then {first} {mid} {last} on p q = record {
  cause = λ e. rose-before first.faults mid.faults last.faults p.counted (q.cause e);
  counted = let a = p.counted in let b = q.counted in omega (arith, a, b);
  stays = on p.stays q.stays;
}

-- a stop reports one failure, whatever the type of the call's value
pub same-failure : (A B : Type 0) {E : Type 0} (stop : Stopped E) → failure_in {A = A} (Err stop) ≡ failure_in {A = B} (Err stop)
same-failure A B (Refused why) = refl
same-failure A B (Failed failure) = refl

-- a reader writes nothing
pub no-write : {E : Type 0} {taking : ItemTaker E} {first mid now : ShelfState} {slot : ℕ} {reader : ItemReader}
    {before after : List ℕ → Type 0} {out : SinkRun} (h : Running taking first mid slot reader before after) (next : ItemReader)
    (stop : Stopped RecordFault) → Answered h now next (Err stop) → SinkTraffic out None
    → SinkTraffic out (failure_in {A = Unit {0}} (Err stop))
no-write r next (Refused f) answer h = quiet-sink (λ e. cc) h
no-write r next (Failed Read) answer h = quiet-sink (λ e. cc) h
no-write r next (Failed Write) answer h = absurd answer.2
no-write r next (Failed OutOfMemory) answer h = quiet-sink (λ e. cc) h

pub none-left : (item : Option ItemView) → ((x : ItemView) → item ≡ Some x → ⊥) → item ≡ None
none-left (Some x) none = absurd (none x refl)
none-left None none = refl
