-- The laws over the definitions of a record.
use Rattle.std.specs.Prelude.{◌≡◌, ℕ, ◌^◌, ◌≤◌, ◌⊎◌, List, ◌++◌, length, Some, None}
use Rattle.det_values.specs.declared.frames.Frame.{Frame}
use Rattle.det_values.specs.Values.{ProfileValue}
use Rattle.det_io.specs.Prefix.{IsPrefix}
use Rattle.record_grammar.specs.declared.record_fault.Reason.TheVariants.{Truncated}
use Rattle.record_grammar.specs.declared.record_fault.RecordFault.{RecordFault}
use Rattle.record_grammar.specs.declared.place.Place.{Place}
use Rattle.record_grammar.specs.declared.place.Place.TheVariants as places
use Rattle.record_grammar.specs.declared.item.Item.{Item}
use Rattle.record_grammar.specs.Record.{items, fault, fault_so_far}
use Rattle.record_grammar.specs.Spelling.{AreBytes, Spells, SpellsWhole}
use Rattle.record_grammar.specs.Laws.{HaveOneSpelling, IsDecoded, IsInOrder, items_of}

-- two bytes can spell the number of each of the place's events
abbrev pub EventsFit : Place → Type 0
EventsFit (places.Runs layout before) = layout.events ≤ 2 ^ 16
EventsFit place = Unit {0}

abbrev pub OneSpelling : Type 0
OneSpelling =
    (place : Place) (a b : Item) (x y : List ℕ) → EventsFit place → HaveOneSpelling place a b x y

abbrev pub OneRecord : Type 0
OneRecord =
    (p q : ProfileValue) (fs gs : List Frame) (bytes : List ℕ) → Spells p fs bytes
    → Spells q gs bytes → (p ≡ q) × (fs ≡ gs)

abbrev pub Decoding : Type 0
Decoding = (bytes : List ℕ) → AreBytes bytes → IsDecoded bytes

-- without a fault so far there is none, or the bytes end too early
abbrev pub EarlyEnd : Type 0
EarlyEnd =
    (bytes : List ℕ) → fault_so_far bytes ≡ None → (fault bytes ≡ None)
    ⊎ (fault bytes ≡ Some (record { offset = length bytes; reason = Truncated }))

abbrev pub ItemsGrow : Type 0
ItemsGrow = (bytes more : List ℕ) → IsPrefix (items bytes) (items (bytes ++ more))

-- refused bytes, with more after them
pub record IsStillRefused (bytes more : List ℕ) (f : RecordFault) : Type 0 where
  pub items : items (bytes ++ more) ≡ items bytes
  pub so_far : fault_so_far (bytes ++ more) ≡ Some f
  pub fault : fault (bytes ++ more) ≡ Some f

abbrev pub FaultStays : Type 0
FaultStays =
    (bytes more : List ℕ) (f : RecordFault) → fault_so_far bytes ≡ Some f
    → IsStillRefused bytes more f

abbrev pub InOrder : Type 0
InOrder =
    (profile : ProfileValue) (frames : List Frame) (bytes : List ℕ) → IsInOrder profile frames bytes

-- how a spelling is read
pub record IsRead (profile : ProfileValue) (frames : List Frame) (bytes : List ℕ) : Type 0 where
  pub items : items bytes ≡ items_of profile frames
  pub no_fault : fault_so_far bytes ≡ None
  pub whole : SpellsWhole profile frames bytes → fault bytes ≡ None

abbrev pub SpelledIsRead : Type 0
SpelledIsRead =
    (profile : ProfileValue) (frames : List Frame) (bytes : List ℕ) → Spells profile frames bytes
    → IsRead profile frames bytes
