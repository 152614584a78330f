-- A part of a record, what a call that writes it reports, and what it changes.
use Rattle.std.specs.Prelude.{◌≡◌, ℕ, ℤ, ◌≤◌, List, [], ◌∷◌, ◌++◌, length, take, drop}
use Rattle.std.specs.List.{All}
use Rattle.det_values.specs.declared.format.Format.{Format}
use Rattle.det_values.specs.declared.format.Format.TheVariants.{One, Two}
use Rattle.det_values.specs.declared.event.Policy.TheVariants.{Last}
use Rattle.det_values.specs.declared.frames.Frame.TheVariants as frames
use Rattle.record_grammar.specs.declared.place.Place.TheVariants as places
use Rattle.record_grammar.specs.declared.item.Item.{Item}
use Rattle.record_grammar.specs.declared.item.Item.TheVariants as items
use Rattle.record_grammar.specs.Grammar.{policy_of}
use Rattle.record_grammar.specs.Places.{after, CanFollow}
use Rattle.record_grammar.specs.Laws.{AreItems, item_spelling, items_spelling}
use Rattle.record_grammar.specs.Spelling.{IsHeader, IsFrame}
use Rattle.c_types.specs.declared.profile.DetProfile.{DetProfile}
use Rattle.c_types.specs.declared.profile.DetEvent.{DetEvent}
use Rattle.c_types.specs.declared.record.DetRecord.{DetRecord}
use Rattle.c_types.specs.Places.{format_of, place_of}
use Rattle.c_types.specs.CValues.{init_of, refused_of}
use Rattle.c_types.specs.Ranges.{IsSoundHeader, AreSoundElements, IsSoundFinish, IsSoundRefusal}
use Rattle.det_record_c.specs.Items.{header_in, finished_in}
use Rattle.det_record_c.specs.Answers.{ReportsCall}
use Rattle.det_record_c.specs.declared.part.Part.{Part}
use Rattle.det_record_c.specs.declared.part.Part.TheVariants as parts

-- ---- what is written

-- these items were written, as these bytes
pub record Written (r : DetRecord) (items : List Item) (bytes : List ℕ) : Type 0 where
  pub stand : AreItems places.Header items (place_of r)
  pub spelling : bytes ≡ items_spelling places.Header items

-- what C lends to a call: the state of its record, the room for bytes, and the number of bytes
-- written
pub record CallState : Type 0 where
  pub state : DetRecord
  pub out : List ℕ
  pub written : ℕ

abbrev pub call_state : DetRecord → List ℕ → ℕ → CallState
call_state r out written = record { state = r; out = out; written = written }

-- these bytes were put at the front of the room, their number is told, and the rest of the room
-- stays
pub record PutsFront (bytes old new : List ℕ) (written : ℕ) : Type 0 where
  pub bytes_are : take written new ≡ bytes
  pub room : written ≤ length old
  pub behind : drop written new ≡ drop written old

-- an item was written after those before it, and nothing else changed
pub record IsAdded (item : Item) (old new : CallState) : Type 0 where
  pub written : (items : List Item) (bytes : List ℕ) → Written old.state items bytes
      → Written new.state (items ++ item ∷ []) (bytes ++ take new.written new.out)
  pub place : place_of new.state ≡ after (place_of old.state) item
  pub spelling : PutsFront (item_spelling (place_of old.state) item) old.out new.out new.written

-- ---- the result of a call

abbrev pub Fits : DetRecord → Item → List ℕ → Type 0
Fits r item out = length (item_spelling (place_of r) item) ≤ length out

-- what a call returns for an item, and what it changes: the item is added, or nothing is changed
abbrev pub Reports : ℕ → Item → Type 0 → CallState → CallState → Type 0
Reports answer item sound old new =
    ReportsCall answer (CanFollow (place_of old.state) item) sound (Fits old.state item old.out)
    (IsAdded item old new) (new ≡ old)

-- ---- ranges

-- format 1 has no policy but the last samples
abbrev pub HasPolicies : Format → List DetEvent → Type 0
HasPolicies One events = All (λ e. policy_of e.policy ≡ Last) events
HasPolicies Two events = Unit {0}

pub record IsSoundIn (format : Format) (p : DetProfile) (params : List ℤ) (events : List DetEvent)
    : Type 0 where
  pub fields : IsSoundHeader p params events
  pub policies : HasPolicies format events

-- ---- parts by their values

abbrev pub item_in : DetRecord → Part → Item
item_in r (parts.Header profile params events) =
    header_in (format_of r.format) profile.now params.now events.now
item_in r parts.Register = items.Frame frames.Register
item_in r parts.Discover = items.Frame frames.Discover
item_in r (parts.Init elements) = init_of elements.now
item_in r (parts.Finished time samples elements output) =
    finished_in (format_of r.format) time.now samples.now elements.now output.now
item_in r (parts.Refused time samples refusal) = refused_of time.now samples.now refusal.now
item_in r parts.Terminate = items.Frame frames.Terminate

abbrev pub IsSound : DetRecord → Part → Type 0
IsSound r (parts.Header profile params events) =
    IsSoundIn (format_of r.format) profile.now params.now events.now
IsSound r parts.Register = Unit {0}
IsSound r parts.Discover = Unit {0}
IsSound r (parts.Init elements) = AreSoundElements elements.now
IsSound r (parts.Finished time samples elements output) =
    IsSoundFinish r.events samples.now elements.now output.now
IsSound r (parts.Refused time samples refusal) = IsSoundRefusal r.events samples.now refusal.now
IsSound r parts.Terminate = Unit {0}

-- the spelling of an item in a record of this format, whatever its place
abbrev pub spelling_in : DetRecord → Item → List ℕ
spelling_in r item = item_spelling (places.Register (record {
  format = format_of r.format;
  events = r.events;
})) item

-- its fields are in their ranges
abbrev pub HasFields : DetRecord → Item → Type 0
HasFields r (items.Header p) = IsHeader p
HasFields r (items.Frame f) = IsFrame (format_of r.format) r.events f
