use Rattle.std.proofs.Common.{◌≡◌, length, refl, sym, subst}
use Rattle.record_view.specs.declared.partial.Scan.{Scan}
use Rattle.record_view.specs.Scans.{IsScan}
use Rattle.det_reading_c.proofs.Items.{step_shows}
use Rattle.det_reading_c.proofs.Comparing.{exact}
use Rattle.det_reading_c.proofs.frame_comparison.whole_frame.Goals as goal

pub returns-then-span-bytes : goal.returns-then-span-bytes
returns-then-span-bytes c frame is =
    let s = step_shows c.args.place c.view_item.result c.in-Ok.span c.args.bytes.now c.in-Ok.is
    (c.view_item.ensures.viewed (subst (λ (s : Scan). IsScan c.args.place s c.args.bytes.now) (sym c.no_scan.ensures) refl)) in
    let e : c.in-Ok.span.len ≡ length c.args.bytes.now = (exact c.args.place c.in-Ok.span c.args.bytes.now s.0 frame s.1 is).1 in
    absurd (c.if-span-bytes.true e)
