-- Facts about the bytes that were read of a record, for the three loops that read one.
use Rattle.std.proofs.Common.{◌≡◌, ℕ, List, [], ◌++◌, Option, Some, None, refl, sym, ap, subst, ◌∙◌, append_assoc, append-nil}
use Rattle.det_io.specs.Shelf.{Reads, IsAtEnd}
use Rattle.det_io.specs.Traffic.{ShelfRun}
use Rattle.record_reader.specs.ItemTaker.{OfSlot}

-- what is nothing else is None
pub none-of : {X : Type 0} (o : Option X) → ((x : X) → o ≡ Some x → ⊥) → o ≡ None
none-of (Some x) other = absurd (other x refl)
none-of None other = refl

-- a fact about what was read is one about the whole record where nothing follows
pub at_record : (P : List ℕ → Type 0) (bytes rest : List ℕ) → rest ≡ [] → P bytes → P (bytes ++ rest)
at_record P bytes rest none p = subst P (sym (ap (λ l. bytes ++ l) none ∙ append-nil bytes)) p

-- a fact about every record that begins with what was read, as one about the slot
pub by-slot : {shelf : ShelfRun} {slot : ℕ} {more : List ℕ} (read : List ℕ) (P : List ℕ → Type 0) → Reads shelf.first shelf.last slot more
    → ((rest : List ℕ) → (IsAtEnd shelf.last slot → rest ≡ []) → P ((read ++ more) ++ rest))
    → OfSlot shelf slot more (λ bytes. P (read ++ bytes))
by-slot {more = more} read P reads each =
    record { reads = reads; each = λ rest end. subst P (append_assoc read more rest) (each rest end) }
