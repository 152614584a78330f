-- What decoding means, in terms of whole records: items in their places, first faults and longest
-- prefixes of items.
use Rattle.std.specs.Prelude.{◌≡◌, ℕ, ◌<◌, ◌≤◌, ◌==◌, ◌↔◌, if◌then◌else◌, List, [], ◌∷◌, ◌++◌}
use Rattle.std.specs.Prelude.{length, map, Some, None}
use Rattle.det_values.specs.declared.frames.Frame.{Frame}
use Rattle.det_values.specs.declared.frames.Frame.TheVariants.{Register, Discover, Init, Run}
use Rattle.det_values.specs.declared.frames.Frame.TheVariants.{Terminate}
use Rattle.det_values.specs.Values.{ProfileValue}
use Rattle.record_grammar.specs.declared.record_fault.Reason.{Reason}
use Rattle.record_grammar.specs.declared.record_fault.Reason.TheVariants.{Magic, Version, Range}
use Rattle.record_grammar.specs.declared.record_fault.Reason.TheVariants.{TooMany}
use Rattle.record_grammar.specs.declared.record_fault.Reason.TheVariants.{Trailing}
use Rattle.record_grammar.specs.declared.record_fault.RecordFault.{RecordFault}
use Rattle.record_grammar.specs.declared.place.Place.{Place}
use Rattle.record_grammar.specs.declared.place.Place.TheVariants as places
use Rattle.record_grammar.specs.declared.item.Item.{Item}
use Rattle.record_grammar.specs.declared.item.Item.TheVariants as items
use Rattle.record_grammar.specs.Grammar.{tag_reason}
use Rattle.record_grammar.specs.Places.{after, format_of}
use Rattle.record_grammar.specs.Record.{items as items_in, fault, fault_so_far}
use Rattle.record_grammar.specs.Spelling.{IsHeader, IsFrame, spelled_header, spelled_frame, Spells}
use Rattle.record_grammar.specs.Spelling.{SpellsWhole}

-- ---- items in their places

abbrev pub item_spelling : Place → Item → List ℕ
item_spelling place (items.Header p) = spelled_header p
item_spelling place (items.Frame f) = spelled_frame (format_of place) f

-- the item may come in the place, and each of its fields is in its range
abbrev pub MayStand : Place → Item → Type 0
MayStand places.Header (items.Header p) = IsHeader p
MayStand (places.Register layout) (items.Frame Register) = Unit {0}
MayStand (places.Discover layout) (items.Frame Discover) = Unit {0}
MayStand (places.Init layout) (items.Frame (Init elements)) =
    IsFrame layout.format layout.events (Init elements)
MayStand (places.Runs layout before) (items.Frame (Run r)) =
    (before < 1000000) × IsFrame layout.format layout.events (Run r)
MayStand (places.Runs layout before) (items.Frame Terminate) = Unit {0}
MayStand place item = ⊥

-- these items come in order, from one place to another
abbrev pub AreItems : Place → List Item → Place → Type 0
AreItems place [] to = place ≡ to
AreItems place (x ∷ xs) to = MayStand place x × AreItems (after place x) xs to

abbrev pub items_spelling : Place → List Item → List ℕ
items_spelling place [] = []
items_spelling place (x ∷ xs) = item_spelling place x ++ items_spelling (after place x) xs

-- a header and frames as items
abbrev pub items_of : ProfileValue → List Frame → List Item
items_of profile frames = items.Header profile ∷ map items.Frame frames

-- the order by places is that of a run: all its frames, or its first frames
pub record IsInOrder (profile : ProfileValue) (frames : List Frame) (bytes : List ℕ) : Type 0 where
  pub begun : Spells profile frames bytes
      ↔ ((to : Place) × AreItems places.Header (items_of profile frames) to
      × (bytes ≡ items_spelling places.Header (items_of profile frames)))
  pub whole : SpellsWhole profile frames bytes
      ↔ (AreItems places.Header (items_of profile frames) places.End
      × (bytes ≡ items_spelling places.Header (items_of profile frames)))

-- ---- one spelling

-- of two items that may come in a place, whatever bytes follow them
abbrev pub HaveOneSpelling : Place → Item → Item → List ℕ → List ℕ → Type 0
HaveOneSpelling place a b x y =
    MayStand place a → MayStand place b → item_spelling place a ++ x ≡ item_spelling place b ++ y
    → (a ≡ b) × (x ≡ y)

-- ---- whole records

-- a whole record, and a prefix of one
abbrev pub IsWhole : List ℕ → Type 0
IsWhole bytes =
    (xs : List Item) × AreItems places.Header xs places.End
    × (bytes ≡ items_spelling places.Header xs)

abbrev pub Begins : List ℕ → Type 0
Begins bytes = (tail : List ℕ) × IsWhole (bytes ++ tail)

-- ---- why a byte is refused, by its place

-- at a tag
abbrev pub tag_reason_at : Place → ℕ → Reason
tag_reason_at places.End b = Trailing
tag_reason_at (places.Runs layout before) b = if b == 4 then TooMany else tag_reason b
tag_reason_at place b = tag_reason b

-- Six bytes of magic and two of version. After them, a tag comes where the bytes before it are
-- whole items.
pub record IsReason (before : List ℕ) (byte : ℕ) (reason : Reason) : Type 0 where
  pub magic : length before < 6 → reason ≡ Magic
  pub version : 6 ≤ length before → length before < 8 → reason ≡ Version
  pub tag : 8 ≤ length before → (xs : List Item) (to : Place) → AreItems places.Header xs to
      → before ≡ items_spelling places.Header xs → reason ≡ tag_reason_at to byte
  pub field : 8 ≤ length before
      → ((xs : List Item) (to : Place) → AreItems places.Header xs to → before
      ≡ items_spelling places.Header xs → ⊥) → reason ≡ Range

-- the first byte such that no whole record begins with the bytes up to it
pub record IsFirstFault (bytes : List ℕ) (offset : ℕ) (reason : Reason) : Type 0 where
  pub before : List ℕ
  pub byte : ℕ
  pub behind : List ℕ
  pub parts : bytes ≡ before ++ byte ∷ behind
  pub place : length before ≡ offset
  pub begins : Begins before
  pub ends : Begins (before ++ byte ∷ []) → ⊥
  pub why : IsReason before byte reason

-- the bytes begin with the spelling of these items, and with that of no longer list of items
pub record AreLongest (bytes : List ℕ) (xs : List Item) : Type 0 where
  pub to : Place
  pub rest : List ℕ
  pub items : AreItems places.Header xs to
  pub spelling : bytes ≡ items_spelling places.Header xs ++ rest
  pub longest : (ys : List Item) (end : Place) (others : List ℕ) → AreItems places.Header ys end
      → bytes ≡ items_spelling places.Header ys ++ others → length ys ≤ length xs

-- the definitions that compute agree with the relations
pub record IsDecoded (bytes : List ℕ) : Type 0 where
  pub items : AreLongest bytes (items_in bytes)
  -- without a fault so far, some whole record begins with the bytes
  pub sound : fault_so_far bytes ≡ None → Begins bytes
  -- with a fault, no whole record begins with the bytes up to this one, itself included
  pub first : (f : RecordFault) → fault_so_far bytes ≡ Some f → IsFirstFault bytes f.offset f.reason
  -- without a fault at the end, the bytes are a whole record, and conversely
  pub whole : fault bytes ≡ None → IsWhole bytes
  pub no_fault : IsWhole bytes → fault bytes ≡ None
