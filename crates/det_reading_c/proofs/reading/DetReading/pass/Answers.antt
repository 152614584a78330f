use Rattle.std.proofs.Common.{refl, ap, drop, ◌∙◌}
use Rattle.record_grammar.specs.declared.place.Place.{Place}
use Rattle.record_grammar.specs.Places.{after}
use Rattle.record_grammar.proofs.Leads.{can_follow}
use Rattle.c_types.specs.Places.{place_of}
use Rattle.det_reading_c.specs.Readings.{fresh_scan}
use Rattle.det_reading_c.proofs.Readings.{scanned}
use Rattle.det_reading_c.proofs.reading.DetReading.pass.Goals as goal

pub returns : goal.returns
returns c item bytes s =
    let to = c.place_after.ensures item c.args.span.len bytes
    (can_follow c.args.place bytes item (drop c.args.span.len bytes) s.read) s.parts in
    record {
      place = c.from_place-self.ensures ∙ to ∙ ap (λ (p : Place). after p item) c.requires;
      offset = c.saturating_add-self.ensures;
      scanned = λ bytes. scanned c.from_scan-self.result (place_of c.from_place-self.result) fresh_scan bytes (c.from_scan-self.ensures.scan ∙ c.no_scan.ensures) refl;
    }
