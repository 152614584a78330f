-- What more bytes add to the items and the fault of a record.
use Rattle.std.proofs.Common.{◌≡◌, ℕ, suc, ◌+◌, ◌-◌, List, [], ◌∷◌, ◌++◌, length, Option, Some, None, refl, sym, ap, ◌∙◌, arith, inl, inr}
use Rattle.std.proofs.Common.{◌⊎◌, length-append}
use Rattle.std.proofs.lemmas.List.{append-nil}
use Rattle.det_io.specs.Prefix.{IsPrefix}
use Rattle.record_grammar.specs.declared.record_fault.Reason.{Reason}
use Rattle.record_grammar.specs.declared.record_fault.Reason.TheVariants.{Truncated}
use Rattle.record_grammar.specs.declared.record_fault.RecordFault.{RecordFault}
use Rattle.record_grammar.specs.declared.place.Place.{Place}
use Rattle.record_grammar.specs.declared.place.Place.TheVariants as places
use Rattle.record_grammar.specs.declared.item.Item.{Item}
use Rattle.record_grammar.specs.Read.{Read, Got, More, Bad}
use Rattle.record_grammar.specs.Grammar.{item_at}
use Rattle.record_grammar.specs.Record.{items as items_in, fault, fault_from, fault_so_far, fault_so_far_from, Ending, whole, early, faulty}
use Rattle.record_grammar.specs.Record.{decoded_all}
use Rattle.record_grammar.specs.Leads.{Leads}
use Rattle.record_grammar.proofs.SteadyFields.{item_steady}
use Rattle.record_grammar.proofs.Leads.{leads_grow, all_at_more, all_at_bad, all_at_got}
use Rattle.record_grammar.specs.record_laws.Statements.{IsStillRefused, FaultStays, ItemsGrow, EarlyEnd}
use Rattle.record_grammar.proofs.lemmas.record_laws.Whole.{IsStuck, reads}

abbrev a_fault : ℕ → Reason → Option RecordFault
a_fault offset reason = Some (record { offset = offset; reason = reason })

at_bad : (given : List Item) (to : Place) (bytes rest more : List ℕ) (reason : Reason) (left : ℕ) (f : RecordFault)
    → Leads places.Header bytes given to rest → item_at to rest ≡ Bad reason left → fault_so_far bytes ≡ Some f
    → IsStillRefused bytes more f
at_bad given to bytes rest more reason left f h b e =
    let here = all_at_bad given to bytes rest reason left h b in
    let there = all_at_bad given to (bytes ++ more) (rest ++ more) reason (left + length more)
    (leads_grow given places.Header to bytes rest more h) ((item_steady to).bad rest more reason left b) in
    let o : length (bytes ++ more) - (left + length more) ≡ length bytes - left = omega (arith, length-append bytes more) in
    let same : a_fault (length (bytes ++ more) - (left + length more)) reason ≡ Some f = ap (λ (n : ℕ). a_fault n reason) o ∙ sym here.1
    ∙ e in
    record { items = there.0 ∙ sym here.0; so_far = there.1 ∙ same; fault = there.2 ∙ same }

-- after a fault nothing more: the items and the fault stay
pub after_fault : FaultStays
after_fault bytes more f e =
    let d = reads (suc (length bytes)) places.Header bytes (omega arith) (item_at places.Header bytes) refl in
    by_stop d.0 d.1 d.2 d.3 d.4
  where
    by_stop : (given : List Item) (to : Place) (rest : List ℕ) → Leads places.Header bytes given to rest → IsStuck to rest
        → IsStillRefused bytes more f
    by_stop given to rest h (inl m) = absurd (cc ((all_at_more given to bytes rest h m).1, e))
    by_stop given to rest h (inr b) = at_bad given to bytes rest more b.0 b.1 f h b.2 e

-- a fault so far is the fault
pub fault_is : (bytes : List ℕ) (f : RecordFault) → fault_so_far bytes ≡ Some f → fault bytes ≡ Some f
fault_is bytes f e = ap fault (sym (append-nil bytes)) ∙ (after_fault bytes [] f e).fault

-- the items of bytes that lead to a place begin with those that led there
first_items : (given : List Item) (to : Place) (bytes rest : List ℕ) (r : Read Item) → Leads places.Header bytes given to rest
    → item_at to rest ≡ r → IsPrefix given (items_in bytes)
first_items given to bytes rest (Got x) h e = let g = all_at_got given to bytes rest x.0 x.1 h e in (x.0 ∷ g.0, sym g.1)
first_items given to bytes rest More h e = ([], append-nil given ∙ sym (all_at_more given to bytes rest h e).0)
first_items given to bytes rest (Bad reason left) h e = ([], append-nil given ∙ sym (all_at_bad given to bytes rest reason left h e).0)

-- more bytes add items after those that are there
pub items_grow : ItemsGrow
items_grow bytes more =
    let d = reads (suc (length bytes)) places.Header bytes (omega arith) (item_at places.Header bytes) refl in
    let p = first_items d.0 d.1 (bytes ++ more) (d.2 ++ more) (item_at d.1 (d.2 ++ more))
    (leads_grow d.0 places.Header d.1 bytes d.2 more d.3) refl in
    (p.0, ap (λ (xs : List Item). xs ++ p.0) (given_is d.0 d.1 d.2 d.3 d.4) ∙ p.1)
  where
    given_is : (given : List Item) (to : Place) (rest : List ℕ) → Leads places.Header bytes given to rest → IsStuck to rest → items_in bytes
        ≡ given
    given_is given to rest h (inl m) = (all_at_more given to bytes rest h m).0
    given_is given to rest h (inr b) = (all_at_bad given to bytes rest b.0 b.1 h b.2).0

ends_early : (len : ℕ) (e : Ending) → fault_so_far_from len e ≡ None → (fault_from len e ≡ None)
    ⊎ (fault_from len e ≡ a_fault len Truncated)
ends_early len whole h = inl refl
ends_early len early h = inr refl
ends_early len (faulty reason left) h = absurd cc

pub early_end : EarlyEnd
early_end bytes h = ends_early (length bytes) (decoded_all bytes).ending h
