use Rattle.std.proofs.Common.{◌≡◌, ◌<◌, arith, ◌∙◌}
use Rattle.det_verdict_c.proofs.Reported.{reports-without-refusal, reports-after-refusal}
use Rattle.det_verdict_c.proofs.report_texts.all_reports.Goals as goal

pub returns-then-reports-eq0 : goal.returns-then-reports-eq0
returns-then-reports-eq0 c =
    let counts = c.reports_without_refusal.ensures.counts in
    c.reports_without_refusal.ensures.text ∙ reports-without-refusal c.args.reports.now counts.0 counts.1 c.if-reports-eq0.true

pub returns : goal.returns
returns c =
    let counts = c.reports_after_refusal.ensures.counts in
    let more : 0 < c.args.reports.now.refused_at = omega arith in
    c.reports_after_refusal.ensures.text ∙ reports-after-refusal c.args.reports.now counts.0 counts.1 more
