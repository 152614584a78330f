use Rattle.std.proofs.Common.{◌≡◌, ◌∙◌, sym, ap, refl, true, false}
use Rattle.stimulus.specs.Reading.{BadLine}
use Rattle.det_stimulus_c.specs.Taken.{place_of}
use Rattle.det_stimulus_c.proofs.Places.{few_lines}
use Rattle.det_stimulus_c.proofs.Ends.{ends_whole, ends_bad}
use Rattle.det_stimulus_c.proofs.export.det_stimulus_end.Goals as goal

pub returns-then-is_whole : goal.returns-then-is_whole
returns-then-is_whole c text bytes h count same =
    let end = (c.if-is_whole.ensures).0 refl in (ends_whole c.args.stimulus.now text bytes end.0 (count ∙ end.1) h, refl)

pub returns : goal.returns
returns c text bytes h count same =
    ends_bad c.args.stimulus.now text bytes
    (λ p. let e : false ≡ true = (c.if-is_whole.ensures).1 (p.0, sym count ∙ p.1) in cc) same h
    ∙ ap BadLine (sym (c.next_line.ensures (few_lines c.args.stimulus.now.lines (place_of c.args.stimulus.now) h.few)))
