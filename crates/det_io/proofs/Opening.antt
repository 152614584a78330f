-- Names that are opened one after another, and reads between them.
use Rattle.std.proofs.Common.{◌≡◌, ◌≢◌, ◌<◌, ℕ, List, [], ◌++◌, append_assoc, sym, ◌∙◌, ap, arith}
use Rattle.std.proofs.lemmas.List.{append-nil}
use Rattle.std.specs.Prelude.{Some}
use Rattle.det_io.specs.Shelf.{ShelfState, Opens, Asks, AsksPrefix}
use Rattle.det_io.proofs.Prefixes.{prefix-none, prefix-same, prefix-behind}

-- a shelf whose names stay was asked for none
pub asks-kept : {before after : ShelfState} → after.asked ≡ before.asked → Asks before after []
asks-kept same = record { told = λ all h. (all, sym same ∙ h, append-nil all) }

-- names asked for one after another are asked for in this order
pub asks-then : {before mid after : ShelfState} {a b : List (List ℕ)} → Asks before mid a → Asks mid after b → Asks before after (a ++ b)
asks-then {a = a} {b = b} p q = record {
  told = λ all h.
      let later = q.told all h in
      let earlier = p.told later.0 later.1 in
      (earlier.0, earlier.1, sym (append_assoc earlier.0 a b) ∙ ap (λ l. l ++ b) earlier.2 ∙ later.2);
}

-- reads after opens ask for no further name
pub asks-then-kept : {before mid after : ShelfState} {names : List (List ℕ)} → Asks before mid names → after.asked ≡ mid.asked
    → Asks before after names
asks-then-kept p same = record { told = λ all h. p.told all (sym same ∙ h) }

-- all the names are a prefix of themselves
pub asks-all : (before after : ShelfState) (names : List (List ℕ)) → Asks before after names → AsksPrefix before after names
asks-all before after names p = (names, prefix-same names, p)

-- no name is a prefix of any names
pub asks-prefix-none : (before after : ShelfState) (names : List (List ℕ)) → after.asked ≡ before.asked → AsksPrefix before after names
asks-prefix-none before after names same = ([], prefix-none names, asks-kept same)

-- after these names a prefix of those: a prefix of both in a row
pub asks-then-prefix : (before mid after : ShelfState) (a b : List (List ℕ)) → Asks before mid a → AsksPrefix mid after b
    → AsksPrefix before after (a ++ b)
asks-then-prefix before mid after a b p q = (a ++ q.0, prefix-behind a q.0 b q.1, asks-then p q.2)

-- an open leaves the rest of an earlier slot unchanged
pub opens-other : {before after : ShelfState} {name : List ℕ} {slot : ℕ} (k : ℕ) → Opens before after name slot → k < before.slots
    → after.left k ≡ before.left k
opens-other k p h = p.others k (λ e. let n = p.number in omega arith)

-- the new slot is given
pub opens-new : {before after : ShelfState} {name : List ℕ} {slot : ℕ} → Opens before after name slot → slot < after.slots
opens-new p = rw (p.slots, p.number) (omega arith)

-- two slots opened one after the other differ
pub opens-apart : {before after : ShelfState} {name : List ℕ} {slot : ℕ} (k : ℕ) → Opens before after name slot → k < before.slots
    → k ≢ slot
opens-apart k p h = λ e. let n = p.number in omega arith

-- if the bytes under a name are known, the new slot has all of them
pub opens-left : {before after : ShelfState} {name : List ℕ} {slot : ℕ} (bytes : List ℕ) → Opens before after name slot
    → before.holds name ≡ Some bytes → after.left slot ≡ Some bytes
opens-left bytes p told = let l = p.left in let h = rw told at l in h
