-- What a reading keeps of an item.
use Rattle.std.proofs.Common.{◌≡◌, ℕ, Bool, true, false, cond, nat_le, List, ◌++◌, length, drop, Result, Ok, Err, refl, sym, ap, subst}
use Rattle.det_values.specs.Values.{ProfileValue}
use Rattle.record_grammar.specs.declared.record_fault.Reason.{Reason}
use Rattle.record_grammar.specs.declared.place.Place.{Place}
use Rattle.record_grammar.specs.declared.place.Place.TheVariants as places
use Rattle.record_grammar.specs.declared.item.Item.{Item}
use Rattle.record_grammar.specs.declared.item.Item.TheVariants as items
use Rattle.record_grammar.specs.Read.{Read, Got, More, Bad, ◌>>=◌}
use Rattle.record_grammar.specs.Grammar.{profile_at, item_at}
use Rattle.record_grammar.proofs.Steady.{bind_got, got_is}
use Rattle.record_view.specs.declared.stop.Stop.{Stop}
use Rattle.record_view.specs.declared.stop.Stop.TheVariants as stops
use Rattle.record_view.specs.declared.view.ItemSpan.{ItemSpan}
use Rattle.record_view.specs.declared.partial.Scan.{Scan}
use Rattle.record_view.specs.Scans.{IsScan, IsAnswer, FitsAs}
use Rattle.record_view.specs.Shows.{Shows}
use Rattle.record_view.proofs.Growing.{scanned_grows}
use Rattle.det_reading_c.specs.declared.reading.DetScan.{DetScan}
use Rattle.det_reading_c.specs.Readings.{scan_of, fresh_scan, IsHeaderView}

or_fresh : (t : Bool) (place : Place) (scan : Scan) (bytes : List ℕ) → IsScan place scan bytes → IsScan place (cond t scan fresh_scan) bytes
or_fresh true place scan bytes h = h
or_fresh false place scan bytes h = refl

-- a struct of a scan that is right, or nothing where it doesn't fit the bytes
pub scanned : (s : DetScan) (place : Place) (scan : Scan) (bytes : List ℕ) → scan_of s ≡ scan → IsScan place scan bytes
    → IsScan place (cond (nat_le s.read (length bytes)) (scan_of s) fresh_scan) bytes
scanned s place scan bytes e h =
    or_fresh (nat_le s.read (length bytes)) place (scan_of s) bytes (subst (λ (t : Scan). IsScan place t bytes) (sym e) h)

pub scanned_more : (s : DetScan) (place : Place) (scan : Scan) (bytes more : List ℕ) → scan_of s ≡ scan → IsScan place scan bytes
    → IsScan place (cond (nat_le s.read (length (bytes ++ more))) (scan_of s) fresh_scan) (bytes ++ more)
scanned_more s place scan bytes more e h = scanned s place scan (bytes ++ more) e (scanned_grows place scan bytes more h)

-- ---- a header

as_item : ProfileValue × List ℕ → Read Item
as_item p = Got (items.Header p.0, p.1)

header_wants : (r : Read ProfileValue) → (r >>= λ p. Got (items.Header p.0, p.1)) ≡ More → r ≡ More
header_wants (Got x) e = absurd cc
header_wants More e = refl
header_wants (Bad why left) e = absurd cc

bad_item : Reason → ℕ → Read Item
bad_item why left = Bad why left

header_refused : (r : Read ProfileValue) (reason : Reason) (left : ℕ) → (r >>= λ p. Got (items.Header p.0, p.1)) ≡ Bad reason left
    → r ≡ Bad reason left
header_refused (Got x) reason left e = absurd cc
header_refused More reason left e = absurd cc
header_refused (Bad why n) reason left e = cc

pub header_view : (answer : Result ItemSpan Stop) (scan : Scan) (bytes : List ℕ) → IsAnswer places.Header answer scan bytes
    → FitsAs answer scan (length bytes) → IsHeaderView answer bytes
unfolding item_at
header_view (Ok span) scan bytes h fits =
    let b = bind_got (profile_at bytes) (λ p. Got (items.Header p.0, p.1)) (h.0, drop span.len bytes) h.1.read in
    let same = got_is {A = Item} (items.Header b.0.0, b.0.1) (h.0, drop span.len bytes) b.2 in
    let is : items.Header b.0.0 ≡ h.0 = ap (λ (x : Item × List ℕ). x.0) same in
    let rest : b.0.1 ≡ drop span.len bytes = ap (λ (x : Item × List ℕ). x.1) same in (
      b.0.0,
      subst (λ (r : List ℕ). profile_at bytes ≡ Got (b.0.0, r)) rest b.1,
      subst (λ (x : Item). Shows places.Header span bytes x) (sym is) h.1,
    )
header_view (Err stops.More) scan bytes h fits = (header_wants (profile_at bytes) h.0, tt)
header_view (Err (stops.Bad reason left)) scan bytes h fits = (header_refused (profile_at bytes) reason left h, fits)
