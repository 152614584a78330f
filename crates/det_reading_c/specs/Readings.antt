-- What the struct of a reading stands for.
use Rattle.std.specs.Prelude.{◌≡◌, ℕ, ◌+◌, ◌^◌, ◌-◌, ◌≤◌, ◌==◌, nat_le, min, List, length, drop}
use Rattle.std.specs.Prelude.{Result, Ok, Err, if◌then◌else◌}
use Rattle.det_values.specs.Values.{ProfileValue}
use Rattle.record_grammar.specs.declared.place.Place.TheVariants as places
use Rattle.record_grammar.specs.declared.item.Item.{Item}
use Rattle.record_grammar.specs.declared.item.Item.TheVariants as items
use Rattle.record_grammar.specs.Read.{Got}
use Rattle.record_grammar.specs.Grammar.{profile_at}
use Rattle.record_grammar.specs.Places.{after}
use Rattle.record_view.specs.declared.stop.Stop.{Stop}
use Rattle.record_view.specs.declared.stop.Stop.TheVariants as stops
use Rattle.record_view.specs.declared.view.ItemSpan.{ItemSpan}
use Rattle.record_view.specs.Gives.{Stops}
use Rattle.record_view.specs.Shows.{Shows}
use Rattle.record_view.specs.declared.partial.Partial.{Partial}
use Rattle.record_view.specs.declared.partial.Partial.TheVariants as partials
use Rattle.record_view.specs.declared.partial.Scan.{Scan}
use Rattle.record_view.specs.Scans.{IsScan}
use Rattle.c_types.specs.CValues.{time_of}
use Rattle.c_types.specs.Places.{place_of}
use Rattle.det_reading_c.specs.declared.reading.DetScan.{DetScan}
use Rattle.det_reading_c.specs.declared.reading.DetReading.{DetReading}

abbrev pub partial_of : DetScan → Partial
partial_of s =
    if s.part == 1 then partials.Init s.elements s.left
    else if s.part == 2 then partials.Run (record {
      input = record {
        time = time_of s.time;
        samples = s.samples;
        samples_at = s.samples_at;
        outcome_at = s.outcome_at;
      };
      elements = s.elements;
      elements_at = s.elements_at;
      left = s.left;
    })
    else partials.Nothing

abbrev pub scan_of : DetScan → Scan
scan_of s = record { partial = partial_of s; read = s.read }

-- of an item of which nothing was read
abbrev pub fresh_scan : Scan
fresh_scan = record { partial = partials.Nothing; read = 0 }

-- the scan from which a call goes on; one that has read more bytes than there are is dropped
abbrev pub scan_for : DetReading → ℕ → Scan
scan_for r count = if nat_le r.scan.read count then scan_of r.scan else fresh_scan

-- what was scanned are the first bytes of these, of the item that comes next
abbrev pub HasScanned : DetReading → List ℕ → Type 0
HasScanned r bytes = IsScan (place_of r.record) (scan_for r (length bytes)) bytes

-- the offset after some bytes; none is above 2^64 - 1
abbrev pub offset_after : ℕ → ℕ → ℕ
offset_after offset count = min (offset + count) (2 ^ 64 - 1)

-- an item of this length was read, and nothing of the next one
pub record IsAfter (item : Item) (len : ℕ) (old new : DetReading) : Type 0 where
  pub place : place_of new.record ≡ after (place_of old.record) item
  pub offset : new.offset ≡ offset_after old.offset len
  pub scanned : (bytes : List ℕ) → HasScanned new bytes

-- no offset of a fault is beyond the bytes
abbrev pub FitsIn : Stop → ℕ → Type 0
FitsIn stops.More len = Unit {0}
FitsIn (stops.Bad reason left) len = left ≤ len

-- the view of a header, or why there is none
abbrev pub IsHeaderView : Result ItemSpan Stop → List ℕ → Type 0
IsHeaderView (Ok span) bytes = (p : ProfileValue)
    × (profile_at bytes ≡ Got (p, drop span.len bytes))
    × Shows places.Header span bytes (items.Header p)
IsHeaderView (Err stop) bytes = Stops stop (profile_at bytes) × FitsIn stop (length bytes)
