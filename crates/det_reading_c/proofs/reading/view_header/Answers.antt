use Rattle.std.proofs.Common.{refl, sym, subst}
use Rattle.record_grammar.specs.declared.place.Place.TheVariants as places
use Rattle.record_view.specs.declared.partial.Scan.{Scan}
use Rattle.record_view.specs.Scans.{IsScan}
use Rattle.det_reading_c.proofs.Readings.{header_view}
use Rattle.det_reading_c.proofs.reading.view_header.Goals as goal

pub returns : goal.returns
returns c =
    header_view c.view_item.result.answer c.view_item.result.scan c.args.bytes.now
    (c.view_item.ensures.viewed (subst (λ (s : Scan). IsScan places.Header s c.args.bytes.now) (sym c.no_scan.ensures) refl))
    c.view_item.ensures.fits
