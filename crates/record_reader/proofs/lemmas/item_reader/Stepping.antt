-- One step of a reader after another.
use Rattle.std.proofs.Common.{◌≡◌, ℕ, ◌<◌, ◌⊎◌, inl, inr, List, [], ◌∷◌, ◌++◌, length, Some, None, Err}
use Rattle.std.proofs.Common.{refl, sym, ap, subst, ◌∙◌, append_assoc}
use Rattle.std.proofs.lemmas.List.{append-nil}
use Rattle.std.proofs.lemmas.List.Elements.{All-append}
use Rattle.det_io.specs.Shelf.{ShelfState, Reads}
use Rattle.det_io.specs.declared.failure.Failure.{Failure}
use Rattle.det_io.specs.declared.failure.Failure.TheVariants.{Read, Write, OutOfMemory}
use Rattle.det_io.specs.declared.failure.Stopped.TheVariants.{Failed}
use Rattle.det_io.proofs.SlotReads.{reads-then}
use Rattle.record_grammar.specs.declared.record_fault.RecordFault.{RecordFault}
use Rattle.record_grammar.specs.declared.item.Item.{Item}
use Rattle.record_grammar.specs.declared.place.Place.{Place}
use Rattle.record_grammar.specs.Grammar.{item_at}
use Rattle.record_grammar.specs.Record.{items as items_in, fault as fault_in, fault_so_far}
use Rattle.record_grammar.proofs.Leads.{all_at_more}
use Rattle.record_reader.specs.declared.item_reader.reader.ItemReader.{ItemReader}
use Rattle.record_reader.specs.item_reader.Held.{held, Took}
use Rattle.record_reader.specs.item_reader.StandsFor.{StandsFor, unread, ReadsIfNeeded, HasRead, slot_of, FoundFault, ItemIs}
use Rattle.record_reader.specs.item_reader.Steps.{GaveAll, ReadsOn}
use Rattle.record_reader.proofs.lemmas.item_reader.Needed.{while-weaker, while-then}
use Rattle.record_reader.proofs.lemmas.item_reader.Reading.{reads_stand, unread_grows}

-- nothing was read in this step
pub read_none : (P : List ℕ → Type 0) (read : List ℕ) → P read → P (read ++ [])
read_none P read h = subst P (sym (append-nil read)) h

pub read_empty : (P : List ℕ → Type 0) (read more : List ℕ) → more ≡ [] → P read → P (read ++ more)
read_empty P read more e h = subst (λ (xs : List ℕ). P (read ++ xs)) (sym e) (read_none P read h)

pub gave : (r : ItemReader) (read : List ℕ) (given : List Item) → GaveAll r read given → (items_in read ≡ given)
    × (fault_so_far read ≡ None)
gave r read given h = let all = all_at_more given r.place read (unread r) h.stands.leads h.more in (all.0, all.1)

-- a piece is read once all items were returned
pub needed : (read : List ℕ) (given : List Item) (more : List ℕ) → items_in read ≡ given → fault_so_far read ≡ None
    → ReadsIfNeeded read given more
needed read given [] all sound = inl refl
needed read given (b ∷ more) all sound = inr (record {
  first = [];
  last = b ∷ more;
  is = refl;
  some = λ e. cc;
  before = (ap items_in (append-nil read) ∙ all, ap fault_so_far (append-nil read) ∙ sound);
})

-- all items were returned, and there was no fault, when these bytes were read after others
abbrev All : List ℕ → List Item → List ℕ → Type 0
All read given first = (items_in (read ++ first) ≡ given) × (fault_so_far (read ++ first) ≡ None)

pub needed_then : (read : List ℕ) (given : List Item) (one two : List ℕ) → ReadsIfNeeded read given one
    → ReadsIfNeeded (read ++ one) given two → ReadsIfNeeded read given (one ++ two)
needed_then read given one two p q =
    while-then (All read given) one two p (while-weaker (All (read ++ one) given) (λ first. All read given (one ++ first)) two
    (λ first all. (
      ap items_in (sym (append_assoc read one first)) ∙ all.0,
      ap fault_so_far (sym (append_assoc read one first)) ∙ all.1,
    )) q)

pub read_then : {before mid after : ShelfState} (old at : ItemReader) (P : ℕ → List ℕ → List Item → Type 0) → slot_of at ≡ slot_of old
    → HasRead before mid old (StandsFor at) → HasRead mid after at (P (slot_of at)) → HasRead before after old (P (slot_of old))
read_then {before} {mid} {after} old at P same p q = (
  p.0 ++ q.0,
  reads-then p.1 (subst (λ (s : ℕ). Reads mid after s q.0) same q.1),
  λ read given h. (
    needed_then read given p.0 q.0 (p.2 read given h).0 (q.2 (read ++ p.0) given (p.2 read given h).1).0,
    subst (λ (s : ℕ). P s (read ++ (p.0 ++ q.0)) given) same
        (subst (λ (xs : List ℕ). P (slot_of at) xs given) (append_assoc read p.0 q.0) (q.2 (read ++ p.0) given (p.2 read given h).1).1),
  ),
  All-append (λ b. b < 256) p.0 q.0 p.3 q.3,
)

-- a fault that was found stays one, whether the slot has more bytes or not
pub faulty : (f : RecordFault) (at_end : Type 0) (read : List ℕ) (given : List Item) → FoundFault f ⊥ read given
    → FoundFault f at_end read given
faulty f at_end read given h =
    record { before = h.before; is = h.is; found = found h.found; truncated = λ t. absurd (h.truncated t) }
  where
    found : {A B : Type 0} → A ⊎ ⊥ → A ⊎ B
    found (inl x) = inl x
    found (inr x) = absurd x

-- the end of a slot leaves what was known
pub gave_still : (old new : ItemReader) (read more : List ℕ) (given : List Item) → old.last ≡ 0 → ReadsOn old new
    → held new.window ≡ held old.window ++ more → more ≡ [] → GaveAll old read given → GaveAll new (read ++ more) given
gave_still old new read more given none on is e h = record {
  stands = reads_stand old new read more given none on is h.stands;
  more =
      ap (λ (p : Place). item_at p (unread new)) on.place
      ∙ ap (item_at old.place) (unread_grows old new more none on is ∙ ap (λ (xs : List ℕ). unread old ++ xs) e ∙ append-nil (unread old))
      ∙ h.more;
}

-- the slot has no more bytes, and its record isn't whole
pub ended : (f : RecordFault) (r : ItemReader) (at_end : Type 0) (read : List ℕ) (given : List Item) → at_end → GaveAll r read given
    → fault_in read ≡ Some f → FoundFault f at_end read given
ended f r at_end read given at h is =
    record { before = (gave r read given h).0; is = is; found = inr at; truncated = λ t. at }

-- a read that failed
pub failed : (failure : Failure) (old new : ItemReader) (at_end : Type 0) {before after : ShelfState} {slot : ℕ} (read : List ℕ)
    (given : List Item) → (t : Took (Err failure) before after slot (held old.window) (held new.window)) → old.last ≡ 0 → ReadsOn old new
    → GaveAll old read given → ItemIs (Err (Failed failure)) new at_end (read ++ t.more) given
failed Read old new at_end read given t none on h = (
  reads_stand old new read t.more given none on t.is h.stands,
  read_empty (λ (xs : List ℕ). items_in xs ≡ given) read t.more t.told (gave old read given h).0,
  read_empty (λ (xs : List ℕ). fault_so_far xs ≡ None) read t.more t.told (gave old read given h).1,
)
failed Write old new at_end read given t none on h = absurd t.told
failed OutOfMemory old new at_end read given t none on h = tt

pub no_bytes : (n : ℕ) (xs : List ℕ) → n ≡ length xs → n ≡ 0 → xs ≡ []
no_bytes n [] e z = refl
no_bytes n (x ∷ xs) e z = cc
