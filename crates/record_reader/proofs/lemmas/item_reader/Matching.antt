-- What comparing as bytes come leaves of a reader.
use Rattle.std.proofs.Common.{◌≡◌, ◌≢◌, ℕ, ◌+◌, ◌-◌, ◌<◌, ◌≤◌, ◌⊎◌, inl, inr, List, [], ◌∷◌, ◌++◌, length, take, drop, Result, Ok, Err}
use Rattle.std.proofs.Common.{refl, sym, ap, subst, ◌∙◌, arith, append_assoc, length-append, length-drop}
use Rattle.std.proofs.lemmas.List.{append-nil, take-append-le, drop_at, drop-append-le, length-take-le, take_all}
use Rattle.std.proofs.lemmas.List.Elements.{All-append, All-take}
use Rattle.det_io.specs.Shelf.{ShelfState, Reads, IsAtEnd}
use Rattle.det_io.specs.declared.failure.Failure.{Failure}
use Rattle.det_io.specs.declared.failure.Failure.TheVariants.{Read, Write, OutOfMemory}
use Rattle.det_io.proofs.SlotReads.{reads-then, reads-none}
use Rattle.record_grammar.specs.Spelling.{AreBytes}
use Rattle.record_reader.specs.declared.item_reader.reader.ItemReader.{ItemReader}
use Rattle.record_reader.specs.declared.item_reader.comparison.Front.{Front}
use Rattle.record_reader.specs.declared.item_reader.comparison.Front.TheVariants as fronts
use Rattle.record_reader.specs.item_reader.Held.{held, Took, Matched}
use Rattle.record_reader.specs.item_reader.StandsFor.{unread}
use Rattle.record_reader.specs.item_reader.Steps.{ReadsOn, Forgot, count_of}
use Rattle.record_reader.specs.item_reader.Fronts.{Begins, Aside, AreNeeded, FrontIs, Passing, Passed, Restored, ComparedIs, Compared}
use Rattle.record_reader.proofs.lemmas.item_reader.Lists.{take-add}
use Rattle.record_reader.proofs.lemmas.item_reader.Passing.{are_none}
use Rattle.record_reader.proofs.lemmas.item_reader.Reading.{unread_held}

pub aside_then : (old mid new : ItemReader) → Aside old mid → Aside mid new → Aside old new
aside_then old mid new p q =
    record { slot = q.slot ∙ p.slot; place = q.place ∙ p.place; fault = q.fault ∙ p.fault; begins = q.begins }

pub aside_on : (old new : ItemReader) → Begins old → ReadsOn old new → Aside old new
aside_on old new b on = record {
  slot = on.slot;
  place = on.place;
  fault = on.fault;
  begins = record { last = on.last ∙ b.last; scan = on.scan ∙ b.scan };
}

-- ---- bytes are passed

pub passing_none : (bytes : List ℕ) (state : ShelfState) (r : ItemReader) → Begins r → Passing bytes 0 state state r r
passing_none bytes state r b = record {
  more = [];
  reads = reads-none _ _;
  are = are_none;
  needed = inl refl;
  is = append-nil (held r.window);
  passed = omega arith;
  aside = record { slot = refl; place = refl; fault = refl; begins = b };
}

pub passing_on : (bytes : List ℕ) (m n : ℕ) (before after : ShelfState) (old at new : ItemReader) → m ≤ length bytes
    → Passing bytes m before after old at → Matched bytes m n (held at.window) (held new.window) → new.before + m ≡ at.before + n
    → Aside at new → Passing bytes n before after old new
passing_on bytes m n before after old at new le p q count aside =
    let k : m + (n - m) ≡ n = omega (arith, q.order) in
    record {
      more = p.more;
      reads = p.reads;
      are = p.are;
      needed = p.needed;
      is =
          p.is ∙ ap (λ (xs : List ℕ). take m bytes ++ xs) q.is
          ∙ sym (append_assoc (take m bytes) (take (n - m) (drop m bytes)) (held new.window))
          ∙ ap (λ (xs : List ℕ). xs ++ held new.window) (sym (take-add m (n - m) bytes le) ∙ ap (λ (i : ℕ). take i bytes) k);
      passed = omega (arith, p.passed, count, q.order);
      aside = aside_then old at new p.aside aside;
    }

still_needed : (start bytes one two : List ℕ) (m : ℕ) → AreNeeded start bytes one → m < length bytes → start ++ one ≡ take m bytes
    → AreNeeded start bytes (one ++ two)
still_needed start bytes one [] m p lt e = subst (λ (xs : List ℕ). AreNeeded start bytes xs) (sym (append-nil one)) p
still_needed start bytes one (b ∷ two) m p lt e =
    inr (record { first = one; last = b ∷ two; is = refl; some = λ x. cc; count = m; short = lt; front = e })

pub passing_read : (bytes : List ℕ) (m : ℕ) (result : Result ℕ Failure) (before mid after : ShelfState) (old at new : ItemReader)
    → Passing bytes m before mid old at → held at.window ≡ [] → m < length bytes
    → (t : Took result mid after at.slot (held at.window) (held new.window)) → ReadsOn at new → Passing bytes m before after old new
passing_read bytes m result before mid after old at new p none lt t on = record {
  more = p.more ++ t.more;
  reads = reads-then p.reads (subst (λ (slot : ℕ). Reads mid after slot t.more) p.aside.slot t.reads);
  are = All-append (λ b. b < 256) p.more t.more p.are t.are;
  needed =
      still_needed (held old.window) bytes p.more t.more m p.needed lt
      (p.is ∙ ap (λ (xs : List ℕ). take m bytes ++ xs) none ∙ append-nil (take m bytes));
  is =
      sym (append_assoc (held old.window) p.more t.more) ∙ ap (λ (xs : List ℕ). xs ++ t.more) p.is
      ∙ append_assoc (take m bytes) (held at.window) t.more ∙ ap (λ (xs : List ℕ). take m bytes ++ xs) (sym t.is);
  passed = on.before ∙ p.passed;
  aside = aside_then old at new p.aside (aside_on at new p.aside.begins on);
}

-- another byte is held
pub other_byte : (bytes left : List ℕ) (m : ℕ) → m ≢ length bytes → left ≢ []
    → (m ≡ length bytes) ⊎ ((left ≡ []) ⊎ (take 1 left ≢ take 1 (drop m bytes))) → take 1 left ≢ take 1 (drop m bytes)
other_byte bytes left m short some (inl e) = absurd (short e)
other_byte bytes left m short some (inr (inl e)) = absurd (some e)
other_byte bytes left m short some (inr (inr ne)) = ne

pub nothing_held : (left : List ℕ) → length left ≤ 0 → left ≡ []
nothing_held [] le = refl
nothing_held (x ∷ xs) le = absurd (omega arith)

pub something_held : (left : List ℕ) → 0 < length left → left ≢ []
something_held left lt e = let n : length left ≡ 0 = ap length e in omega arith

pub front_failed : (failure : Failure) (before after : ShelfState) (slot : ℕ) (old new bytes : List ℕ) (m : ℕ) (left : List ℕ)
    (at_end : Type 0) → Took (Err failure) before after slot old new → m < length bytes → FrontIs (Err failure) bytes m left at_end
front_failed Read before after slot old new bytes m left at_end t lt = lt
front_failed Write before after slot old new bytes m left at_end t lt = absurd t.told
front_failed OutOfMemory before after slot old new bytes m left at_end t lt = lt

-- ---- what was compared

-- if bytes were passed up to a place, all of them are before it
pub all_is : (old start new : ItemReader) (bytes more : List ℕ) (m : ℕ) → held start.window ≡ unread old
    → held start.window ++ more ≡ take m bytes ++ held new.window → unread old ++ more ≡ take m bytes ++ held new.window
all_is old start new bytes more m e is = ap (λ (xs : List ℕ). xs ++ more) (sym e) ∙ is

unlike : (bytes left tail rest : List ℕ) (m : ℕ) → m < length bytes → left ≢ [] → take 1 left ≢ take 1 (drop m bytes)
    → (take m bytes ++ left) ++ tail ≢ bytes ++ rest
unlike bytes [] tail rest m lt some ne e = absurd (some refl)
unlike bytes (x ∷ left) tail rest m lt some ne e =
    let n : length (take m bytes) ≡ m = length-take-le m bytes (omega arith) in
    let one : 1 ≤ length (drop m bytes) = omega (arith, length-drop m bytes) in
    let split : (take m bytes ++ (x ∷ left)) ++ tail ≡ take m bytes ++ ((x ∷ left) ++ tail) = append_assoc (take m bytes) (x ∷ left) tail in
    let d : (x ∷ left) ++ tail ≡ drop m bytes ++ rest = sym (drop_at (take m bytes) ((x ∷ left) ++ tail) m n) ∙ ap (drop m) (sym split)
    ∙ ap (drop m) e ∙ drop-append-le m bytes rest (omega arith) in
    ne (ap (take 1) d ∙ take-append-le 1 (drop m bytes) rest one)

module _ (old start new : ItemReader) (bytes more : List ℕ) (m : ℕ) (at_end : Type 0) (fits : m ≤ length bytes)
    (start_is : held start.window ≡ unread old) (start_count : count_of start ≡ count_of old)
    (is : held start.window ++ more ≡ take m bytes ++ held new.window) (passed : new.before ≡ start.before + m) where
  lengths : length (held start.window) + length more ≡ m + length (held new.window)
  lengths =
      sym (length-append (held start.window) more) ∙ ap length is ∙ length-append (take m bytes) (held new.window)
      ∙ ap (λ (n : ℕ). n + length (held new.window)) (length-take-le m bytes fits)

  pub compared_whole : (front : Result Front Failure) → m ≡ length bytes → new.last ≡ 0
      → FrontIs front bytes m (held new.window) at_end
      → ComparedIs front bytes (unread old ++ more) (count_of old + length more) new at_end
  compared_whole (Ok fronts.Whole) e none f = (
    all_is old start new bytes more m start_is is
        ∙ ap (λ (xs : List ℕ). xs ++ held new.window) (take_all m bytes (omega arith))
        ∙ ap (λ (xs : List ℕ). bytes ++ xs) (sym (unread_held new none)),
    omega (arith, lengths, start_count, passed),
  )
  compared_whole (Ok fronts.Differs) e none f = absurd (omega (arith, f.0))
  compared_whole (Ok fronts.Ends) e none f = absurd (omega (arith, f.0))
  compared_whole (Err Read) e none f = absurd (omega (arith, f))
  compared_whole (Err Write) e none f = absurd f
  compared_whole (Err OutOfMemory) e none f = absurd (omega (arith, f))

  module _ (last : ItemReader) (none : last.last ≡ 0) (back : held last.window ≡ take m bytes ++ held new.window)
      (before : last.before + m ≡ new.before) where
    restored : Restored (unread old ++ more) (count_of old + length more) last
    restored = record {
      is = unread_held last none ∙ back ∙ sym (all_is old start new bytes more m start_is is);
      counted =
          omega (
            arith,
            ap length back,
            length-append (take m bytes) (held new.window),
            length-take-le m bytes fits,
            lengths,
            start_count,
            passed,
            before,
          );
    }

    pub compared_part : (front : Result Front Failure) → m ≢ length bytes → AreBytes bytes
        → FrontIs front bytes m (held new.window) at_end
        → ComparedIs front bytes (unread old ++ more) (count_of old + length more) last at_end
    compared_part (Ok fronts.Whole) ne are f = absurd (ne f)
    compared_part (Ok fronts.Differs) ne are f = (
      restored,
      subst AreBytes (sym (all_is old start new bytes more m start_is is))
          (All-append (λ b. b < 256) (take m bytes) (held new.window) (All-take (λ b. b < 256) m bytes are) f.3),
      λ tail rest e. unlike bytes (held new.window) tail rest m f.0 f.1 f.2
          (ap (λ (xs : List ℕ). xs ++ tail) (sym (all_is old start new bytes more m start_is is)) ∙ e),
    )
    compared_part (Ok fronts.Ends) ne are f = (
      restored,
      f.2,
      (
        m,
        f.0,
        all_is old start new bytes more m start_is is ∙ ap (λ (xs : List ℕ). take m bytes ++ xs) f.1
            ∙ append-nil (take m bytes),
      ),
    )
    compared_part (Err Read) ne are f = restored
    compared_part (Err Write) ne are f = absurd f
    compared_part (Err OutOfMemory) ne are f = tt

-- the reader in the same place of the record, before any byte of the item was passed
pub record IsStart (old start : ItemReader) : Type 0 where
  pub is : held start.window ≡ unread old
  pub count : count_of start ≡ count_of old
  pub slot : start.slot ≡ old.slot
  pub place : start.place ≡ old.place
  pub fault : start.fault ≡ old.fault

pub start_of : (old mid : ItemReader) → Forgot old mid → IsStart old mid
start_of old mid f = record {
  is = sym (unread_held mid f.last) ∙ f.stays.unread;
  count = f.stays.count;
  slot = f.stays.slot;
  place = f.stays.place;
  fault = f.stays.fault;
}

compared : (result front : Result Front Failure) (bytes : List ℕ) (m : ℕ) (before after : ShelfState) (old start new last : ItemReader)
    → IsStart old start → (p : Passed front bytes m before after start new) → Aside start last
    → ComparedIs result bytes (unread old ++ p.so_far.more) (count_of old + length p.so_far.more) last (IsAtEnd after old.slot)
    → Compared result bytes before after old last
compared result front bytes m before after old start new last s p aside is = record {
  more = p.so_far.more;
  reads = subst (λ (slot : ℕ). Reads before after slot p.so_far.more) s.slot p.so_far.reads;
  are = p.so_far.are;
  needed = subst (λ (xs : List ℕ). AreNeeded xs bytes p.so_far.more) s.is p.so_far.needed;
  aside = record {
    slot = aside.slot ∙ s.slot;
    place = aside.place ∙ s.place;
    fault = aside.fault ∙ s.fault;
    begins = aside.begins;
  };
  is = is;
}

pub compared_all : (front : Result Front Failure) (bytes : List ℕ) (m : ℕ) (before after : ShelfState) (old start new : ItemReader)
    → IsStart old start → m ≤ length bytes → m ≡ length bytes → Passed front bytes m before after start new
    → Compared front bytes before after old new
compared_all front bytes m before after old start new s fits e p =
    compared front front bytes m before after old start new new s p p.so_far.aside
    (compared_whole old start new bytes p.so_far.more m (IsAtEnd after old.slot) fits s.is s.count p.so_far.is p.so_far.passed front e
    p.so_far.aside.begins.last
    (subst (λ (slot : ℕ). FrontIs front bytes m (held new.window) (IsAtEnd after slot)) s.slot p.front))

pub compared_some : (front : Result Front Failure) (bytes : List ℕ) (m : ℕ) (before after : ShelfState)
    (old start new last : ItemReader) → IsStart old start → m ≤ length bytes → m ≢ length bytes → AreBytes bytes
    → Passed front bytes m before after start new → Aside new last → held last.window ≡ take m bytes ++ held new.window
    → last.before + m ≡ new.before → Compared front bytes before after old last
compared_some front bytes m before after old start new last s fits ne are p aside back count =
    compared front front bytes m before after old start new last s p (aside_then start new last p.so_far.aside aside)
    (compared_part old start new bytes p.so_far.more m (IsAtEnd after old.slot) fits s.is s.count p.so_far.is p.so_far.passed last
    aside.begins.last back count front ne are
    (subst (λ (slot : ℕ). FrontIs front bytes m (held new.window) (IsAtEnd after slot)) s.slot p.front))

pub compared_none : (front : Result Front Failure) (bytes : List ℕ) (m : ℕ) (before after : ShelfState)
    (old start new last : ItemReader) → IsStart old start → Passed front bytes m before after start new → Aside new last
    → Compared (Err OutOfMemory) bytes before after old last
compared_none front bytes m before after old start new last s p aside =
    compared (Err OutOfMemory) front bytes m before after old start new last s p (aside_then start new last p.so_far.aside aside) tt
