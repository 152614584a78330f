-- Reads of slots, one after another.
use Rattle.std.proofs.Common.{◌≡◌, ◌≢◌, ◌<◌, ◌⊎◌, inl, inr, ℕ, eqb, true, false, List, [], ◌++◌, append_assoc, refl, sym, ◌∙◌, ap}
use Rattle.std.proofs.lemmas.Bool.Decides.{eqb_tells}
use Rattle.std.proofs.lemmas.List.{append-nil}
use Rattle.std.specs.Prelude.{Option, Some, None}
use Rattle.std.specs.Option.{option_map}
use Rattle.det_io.specs.Shelf.{ShelfState, Reads, Gave, Kept, IsAtEnd}

append_twice : (a b : List ℕ) (o : Option (List ℕ))
    → option_map (λ rest. a ++ rest) (option_map (λ rest. b ++ rest) o) ≡ option_map (λ rest. (a ++ b) ++ rest) o
append_twice a b (Some rest) = ap Some (sym (append_assoc a b rest))
append_twice a b None = refl

append_none : (o : Option (List ℕ)) → o ≡ option_map (λ rest. [] ++ rest) o
append_none (Some rest) = refl
append_none None = refl

-- a state that stays reads nothing
pub reads-none : (state : ShelfState) (slot : ℕ) → Reads state state slot []
reads-none state slot = record { slots = refl; holds = refl; asked = refl; left = append_none (state.left slot); others = λ k ne. refl }

-- two reads of a slot in a row are one read of both their bytes
pub reads-then : {before mid after : ShelfState} {slot : ℕ} {a b : List ℕ} → Reads before mid slot a → Reads mid after slot b
    → Reads before after slot (a ++ b)
reads-then {after = after} {slot = slot} {a = a} {b = b} p q = record {
  slots = q.slots ∙ p.slots;
  holds = q.holds ∙ p.holds;
  asked = q.asked ∙ p.asked;
  left = p.left ∙ ap (option_map (λ rest. a ++ rest)) q.left ∙ append_twice a b (after.left slot);
  others = λ k ne. q.others k ne ∙ p.others k ne;
}

append_none_is : (o : Option (List ℕ)) → option_map (λ rest. [] ++ rest) o ≡ o
append_none_is (Some rest) = refl
append_none_is None = refl

-- after a read that moved nothing every slot has the same left, and so after a failed one
pub reads-nothing : {before after : ShelfState} {slot : ℕ} → Reads before after slot [] → (k : ℕ) → after.left k ≡ before.left k
reads-nothing {before = before} {after = after} {slot = slot} p k = at (eqb_tells k slot)
  where
    at : ((eqb k slot ≡ true) × (k ≡ slot)) ⊎ ((eqb k slot ≡ false) × (k ≢ slot)) → after.left k ≡ before.left k
    at (inl same) = rw same.1 (sym (p.left ∙ append_none_is (after.left slot)))
    at (inr other) = p.others k other.1

-- the condition on a slot stays true over a read
pub reads-given : {before after : ShelfState} {slot : ℕ} {bytes : List ℕ} (k : ℕ) → Reads before after slot bytes → k < before.slots
    → k < after.slots
reads-given k p h = rw p.slots h

-- a read keeps slots and names
pub reads-kept : {before after : ShelfState} {slot : ℕ} {bytes : List ℕ} → Reads before after slot bytes → Kept before after
reads-kept p = record { slots = p.slots; holds = p.holds; asked = p.asked }

-- a state that stays keeps slots and names
pub kept-same : (state : ShelfState) → Kept state state
kept-same state = record { slots = refl; holds = refl; asked = refl }

-- two steps that keep slots and names keep them together
pub kept-then : {before mid after : ShelfState} → Kept before mid → Kept mid after → Kept before after
kept-then p q = record { slots = q.slots ∙ p.slots; holds = q.holds ∙ p.holds; asked = q.asked ∙ p.asked }

-- a slot of which bytes were read gave them
pub reads-gave : {before after : ShelfState} {slot : ℕ} {bytes : List ℕ} → Reads before after slot bytes → Gave before after slot bytes
reads-gave p = record { left = p.left }

-- a slot gives nothing if nothing happens
pub gave-none : (state : ShelfState) (slot : ℕ) → Gave state state slot []
gave-none state slot = record { left = append_none (state.left slot) }

-- a read adds to the bytes that a slot gave
pub gave-reads : {before mid after : ShelfState} {slot : ℕ} {a b : List ℕ} → Gave before mid slot a → Reads mid after slot b
    → Gave before after slot (a ++ b)
gave-reads {after = after} {slot = slot} {a = a} {b = b} p q =
    record { left = p.left ∙ ap (option_map (λ rest. a ++ rest)) q.left ∙ append_twice a b (after.left slot) }

-- a slot that gave these bytes had them at the front of its rest
pub gave-told : {before after : ShelfState} {slot : ℕ} {bytes : List ℕ} (all : List ℕ) → Gave before after slot bytes
    → before.left slot ≡ Some all
    → (rest : List ℕ) × (after.left slot ≡ Some rest) × (bytes ++ rest ≡ all)
gave-told {after = after} {slot = slot} {bytes = bytes} all p told = split (after.left slot) refl (sym told ∙ p.left)
  where
    split : (o : Option (List ℕ)) → after.left slot ≡ o → Some all ≡ option_map (λ rest. bytes ++ rest) (after.left slot)
        → (rest : List ℕ) × (after.left slot ≡ Some rest) × (bytes ++ rest ≡ all)
    split (Some rest) e h = (rest, e, (let g = rw e at h in cc))
    split None e h = (let g = rw e at h in cc)

-- a slot that gave bytes up to its end gave its whole rest, if that is known
pub gave-all : {before after : ShelfState} {slot : ℕ} {bytes : List ℕ} (all : List ℕ) → Gave before after slot bytes → IsAtEnd after slot
    → before.left slot ≡ Some all → bytes ≡ all
gave-all {after = after} {slot = slot} {bytes = bytes} all p end told =
    let t = gave-told all p told in
    let none : t.0 ≡ [] = (let g = rw t.1 at end in g) in
    sym (append-nil bytes) ∙ ap (λ l. bytes ++ l) (sym none) ∙ t.2

-- a slot from which these bytes were read had them at the front of its rest
pub reads-told : {before after : ShelfState} {slot : ℕ} {bytes : List ℕ} (all : List ℕ) → Reads before after slot bytes
    → before.left slot ≡ Some all
    → (rest : List ℕ) × (after.left slot ≡ Some rest) × (bytes ++ rest ≡ all)
reads-told all p told = gave-told all (reads-gave p) told

-- reads of a slot up to its end gave its whole rest, if that is known
pub reads-all : {before after : ShelfState} {slot : ℕ} {bytes : List ℕ} (all : List ℕ) → Reads before after slot bytes → IsAtEnd after slot
    → before.left slot ≡ Some all → bytes ≡ all
reads-all all p end told = gave-all all (reads-gave p) end told
