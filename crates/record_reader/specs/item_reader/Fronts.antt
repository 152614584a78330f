-- How far the next bytes of a slot are equal to those of an item.
use Rattle.std.specs.Prelude.{◌≡◌, ◌≢◌, ℕ, ◌+◌, ◌<◌, ◌⊎◌, List, [], ◌++◌, length}
use Rattle.std.specs.Prelude.{take, drop, Result, Ok, Err}
use Rattle.det_io.specs.Shelf.{ShelfState, Reads, IsAtEnd}
use Rattle.det_io.specs.declared.failure.Failure.{Failure}
use Rattle.det_io.specs.declared.failure.Failure.TheVariants.{Read, Write, OutOfMemory}
use Rattle.record_grammar.specs.Spelling.{AreBytes}
use Rattle.record_view.specs.declared.partial.Partial.TheVariants.{Nothing}
use Rattle.record_reader.specs.declared.item_reader.reader.ItemReader.{ItemReader}
use Rattle.record_reader.specs.declared.item_reader.comparison.Front.{Front}
use Rattle.record_reader.specs.declared.item_reader.comparison.Front.TheVariants as fronts
use Rattle.record_reader.specs.item_reader.Held.{held}
use Rattle.record_reader.specs.item_reader.StandsFor.{unread}
use Rattle.record_reader.specs.item_reader.Steps.{count_of}

-- no last item is held, and nothing was read of the next one
pub record Begins (r : ItemReader) : Type 0 where
  pub last : r.last ≡ 0
  pub scan : r.scan ≡ record { partial = Nothing; read = 0 }

-- only the held and the dropped bytes differ
pub record Aside (old new : ItemReader) : Type 0 where
  pub slot : new.slot ≡ old.slot
  pub place : new.place ≡ old.place
  pub fault : new.fault ≡ old.fault
  pub begins : Begins new

-- before the last piece was read, all bytes were a proper prefix of the item's
pub record IsLastNeeded (start bytes more : List ℕ) : Type 0 where
  pub first : List ℕ
  pub last : List ℕ
  pub is : more ≡ first ++ last
  pub some : last ≢ []
  pub count : ℕ
  pub short : count < length bytes
  pub front : start ++ first ≡ take count bytes

abbrev pub AreNeeded : List ℕ → List ℕ → List ℕ → Type 0
AreNeeded start bytes more = (more ≡ []) ⊎ IsLastNeeded start bytes more

-- why this number of bytes was passed, and no more
abbrev pub FrontIs : Result Front Failure → List ℕ → ℕ → List ℕ → Type 0 → Type 0
FrontIs (Ok fronts.Whole) bytes matched left at_end = matched ≡ length bytes
FrontIs (Ok fronts.Differs) bytes matched left at_end =
    (matched < length bytes) × (left ≢ []) × (take 1 left ≢ take 1 (drop matched bytes))
    × AreBytes left
FrontIs (Ok fronts.Ends) bytes matched left at_end =
    (matched < length bytes) × (left ≡ []) × at_end
FrontIs (Err Read) bytes matched left at_end = matched < length bytes
FrontIs (Err Write) bytes matched left at_end = ⊥
FrontIs (Err OutOfMemory) bytes matched left at_end = matched < length bytes

-- this number of bytes was passed, as they came
pub record Passing (bytes : List ℕ) (matched : ℕ) (before after : ShelfState) (old new : ItemReader)
    : Type 0 where
  pub more : List ℕ
  pub reads : Reads before after old.slot more
  pub are : AreBytes more
  pub needed : AreNeeded (held old.window) bytes more
  pub is : held old.window ++ more ≡ take matched bytes ++ held new.window
  pub passed : new.before ≡ old.before + matched
  pub aside : Aside old new

pub record Passed (result : Result Front Failure) (bytes : List ℕ) (matched : ℕ)
    (before after : ShelfState) (old new : ItemReader) : Type 0 where
  pub so_far : Passing bytes matched before after old new
  pub front : FrontIs result bytes matched (held new.window) (IsAtEnd after old.slot)

-- all bytes that were read are held again
pub record Restored (all : List ℕ) (count : ℕ) (new : ItemReader) : Type 0 where
  pub is : unread new ≡ all
  pub counted : count_of new ≡ count

-- the result of a comparison, by all bytes from the item on
abbrev pub ComparedIs : Result Front Failure → List ℕ → List ℕ → ℕ → ItemReader → Type 0 → Type 0
ComparedIs (Ok fronts.Whole) bytes all count new at_end =
    (all ≡ bytes ++ unread new) × (count_of new ≡ count)
ComparedIs (Ok fronts.Differs) bytes all count new at_end = Restored all count new × AreBytes all
    × ((tail rest : List ℕ) → all ++ tail ≢ bytes ++ rest)
ComparedIs (Ok fronts.Ends) bytes all count new at_end = Restored all count new × at_end
    × ((matched : ℕ) × (matched < length bytes) × (all ≡ take matched bytes))
ComparedIs (Err Read) bytes all count new at_end = Restored all count new
ComparedIs (Err Write) bytes all count new at_end = ⊥
ComparedIs (Err OutOfMemory) bytes all count new at_end = Unit {0}

pub record Compared (result : Result Front Failure) (bytes : List ℕ) (before after : ShelfState)
    (old new : ItemReader) : Type 0 where
  pub more : List ℕ
  pub reads : Reads before after old.slot more
  pub are : AreBytes more
  pub needed : AreNeeded (unread old) bytes more
  pub aside : Aside old new
  pub is : ComparedIs result bytes (unread old ++ more) (count_of old + length more) new
      (IsAtEnd after old.slot)
