-- The items of a record, and its fault.
use Rattle.std.specs.Prelude.{ℕ, zero, suc, ◌-◌, List, [], ◌∷◌, length, Option, Some, None}
use Rattle.record_grammar.specs.declared.record_fault.Reason.{Reason}
use Rattle.record_grammar.specs.declared.record_fault.Reason.TheVariants.{Truncated}
use Rattle.record_grammar.specs.declared.record_fault.RecordFault.{RecordFault}
use Rattle.record_grammar.specs.declared.place.Place.{Place}
use Rattle.record_grammar.specs.declared.place.Place.TheVariants as places
use Rattle.record_grammar.specs.declared.item.Item.{Item}
use Rattle.record_grammar.specs.Read.{Read, Got, More, Bad}
use Rattle.record_grammar.specs.Grammar.{item_at}
use Rattle.record_grammar.specs.Places.{after}

-- how the bytes of a record end
pub data Ending : Type 0 where
  -- after Terminate
  whole : Ending
  -- before that
  early : Ending
  -- at a byte that can't come there; the number counts the bytes from it to the end
  faulty : Reason → ℕ → Ending

abbrev pub ending_at : Place → Ending
ending_at places.End = whole
ending_at place = early

pub record Decoded : Type 0 where
  pub items : List Item
  pub ending : Ending

abbrev pub with_next : Place → Read Item → (Place → List ℕ → Decoded) → Decoded
with_next place (Got x) next =
    let later = next (after place x.0) x.1 in
    record { items = x.0 ∷ later.items; ending = later.ending }
with_next place More next = record { items = []; ending = ending_at place }
with_next place (Bad reason left) next = record { items = []; ending = faulty reason left }

-- the items from a place on, at most this number of them
unfoldable pub decoded : ℕ → Place → List ℕ → Decoded
decoded zero place bytes = record { items = []; ending = early }
decoded (suc more) place bytes = with_next place (item_at place bytes) (decoded more)

-- each item has at least one byte
abbrev pub decoded_all : List ℕ → Decoded
decoded_all bytes = decoded (suc (length bytes)) places.Header bytes

-- the header and the frames at the front that are whole
abbrev pub items : List ℕ → List Item
items bytes = (decoded_all bytes).items

abbrev pub fault_from : ℕ → Ending → Option RecordFault
fault_from len whole = None
fault_from len early = Some (record { offset = len; reason = Truncated })
fault_from len (faulty reason left) = Some (record { offset = len - left; reason = reason })

-- why these bytes are not a whole record
abbrev pub fault : List ℕ → Option RecordFault
fault bytes = fault_from (length bytes) (decoded_all bytes).ending

abbrev pub fault_so_far_from : ℕ → Ending → Option RecordFault
fault_so_far_from len whole = None
fault_so_far_from len early = None
fault_so_far_from len (faulty reason left) = Some (record { offset = len - left; reason = reason })

-- the fault, if its byte is among these bytes, so whatever comes after them
abbrev pub fault_so_far : List ℕ → Option RecordFault
fault_so_far bytes = fault_so_far_from (length bytes) (decoded_all bytes).ending
