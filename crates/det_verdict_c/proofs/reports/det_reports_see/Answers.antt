use Rattle.std.proofs.Common.{ap, ◌∙◌}
use Rattle.probes.specs.Shipped.{gap_between, greater}
use Rattle.probes.proofs.Shown.{shows-then}
use Rattle.det_verdict_c.specs.Reports.{last_of, gap_of}
use Rattle.det_verdict_c.proofs.Seen.{seen-finished, seen-first, seen-later}
use Rattle.det_verdict_c.proofs.reports.det_reports_see.Goals as goal

pub returns-then-not-frame-clause-run : goal.returns-then-not-frame-clause-run
returns-then-not-frame-clause-run c = λ tag runs run seen view.
    let old = c.args.reports.now in
    let last = c.see_time.ensures.last ∙ c.time.ensures in
    let gap = c.see_time.ensures.gap ∙ ap (λ t. greater (gap_of old) (gap_between (last_of old) t)) c.time.ensures in
    shows-then seen
    (seen-finished old c.see_time.new.self c.see_finished.new.self c.args.frame.now run view last gap
    c.see_time.ensures.rest c.if-not-frame.true c.see_finished.ensures)

pub returns-then-reports-eq0-clause-run : goal.returns-then-reports-eq0-clause-run
returns-then-reports-eq0-clause-run c = λ tag runs run seen view.
    let old = c.args.reports.now in
    let last = c.see_time.ensures.last ∙ c.time.ensures in
    let gap = c.see_time.ensures.gap ∙ ap (λ t. greater (gap_of old) (gap_between (last_of old) t)) c.time.ensures in
    shows-then seen
    (seen-first old c.see_time.new.self c.see_first_refused.new.self c.args.frame.now run view last gap
    c.see_time.ensures.rest c.if-not-frame.false c.if-reports-eq0.true c.see_first_refused.ensures)

pub returns-else-reports-eq0-clause-run : goal.returns-else-reports-eq0-clause-run
returns-else-reports-eq0-clause-run c = λ tag runs run seen view.
    let old = c.args.reports.now in
    let last = c.see_time.ensures.last ∙ c.time.ensures in
    let gap = c.see_time.ensures.gap ∙ ap (λ t. greater (gap_of old) (gap_between (last_of old) t)) c.time.ensures in
    shows-then seen
    (seen-later old c.see_time.new.self c.see_refused.new.self c.args.frame.now run view last gap
    c.see_time.ensures.rest c.if-not-frame.false c.if-reports-eq0.false c.see_refused.ensures)
