use Rattle.std.proofs.Common.{Some, None, refl, ap, ◌∙◌}
use Rattle.record_grammar.specs.declared.place.Layout.{Layout}
use Rattle.det_reading_c.specs.Comparisons.{frame_place, layout_with}
use Rattle.det_reading_c.proofs.Comparing.{compares}
use Rattle.det_reading_c.proofs.frame_comparison.det_frame_difference.Goals as goal

pub returns-in-None : goal.returns-in-None
returns-in-None c =
    compares 0 c.frame_place-at.result (frame_place (layout_with c.args.format c.args.events) c.args.number) c.args.number c.args.left.now
    c.args.right.now c.in-Some.one c.in-Some-whole_frame.other None c.args.place.now c.args.place.now
    (c.frame_place-at.ensures ∙ ap (λ (l : Layout). frame_place l c.args.number) c.layout_with.ensures) c.in-Some.ensures
    c.in-Some-whole_frame.ensures c.in-None.ensures refl (λ e. cc) (λ e. refl)

pub returns-in-Some-frame_difference : goal.returns-in-Some-frame_difference
returns-in-Some-frame_difference c =
    compares 1 c.frame_place-at.result (frame_place (layout_with c.args.format c.args.events) c.args.number) c.args.number c.args.left.now
    c.args.right.now c.in-Some.one c.in-Some-whole_frame.other (Some c.in-Some-frame_difference.difference) c.args.place.now c.place_of.result
    (c.frame_place-at.ensures ∙ ap (λ (l : Layout). frame_place l c.args.number) c.layout_with.ensures) c.in-Some.ensures
    c.in-Some-whole_frame.ensures c.in-Some-frame_difference.ensures (refl, c.place_of.ensures) (λ e. cc) (λ e. absurd (e refl))
