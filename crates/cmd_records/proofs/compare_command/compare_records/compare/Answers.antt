use Rattle.std.proofs.Common.{◌≡◌, Some, subst, Err}
use Rattle.det_io.specs.declared.failure.Failure.TheVariants.{Write}
use Rattle.det_io.specs.declared.failure.Stopped.{Stopped}
use Rattle.det_io.specs.Traffic.{ShelfTraffic, shelf_run, failure_in}
use Rattle.copies.specs.declared.verdict.BadCopy.{BadCopy}
use Rattle.copies.specs.declared.verdict.Verdict.{Verdict}
use Rattle.copies.specs.CompareCopies.{Compared}
use Rattle.cmd_records.proofs.lemmas.open_names.Copies.{keeps-copies}
use Rattle.cmd_records.proofs.lemmas.compare_command.CompareMeets.{meets-verdict, meets-bad, meets-failed}
use Rattle.cmd_records.proofs.compare_command.compare_records.compare.Goals as goal

pub returns-in-Ok-compare-clause-meets : goal.returns-in-Ok-compare-clause-meets
returns-in-Ok-compare-clause-meets g c =
    meets-verdict c.args.recorded.now c.deref.ensures.value c.in-Ok.ensures.opened c.in-Ok-compare.verdict
    c.in-Ok-compare.ensures.compared c.print_verdict.ensures.meets

pub returns-in-Err-Refused-clause-meets : goal.returns-in-Err-Refused-clause-meets
returns-in-Err-Refused-clause-meets g c =
    let mid = g.S.Slots.sees c.open_all.new.shelf in
    let last = g.S.Slots.sees c.compare.new.shelf in
    rw c.in-Err-Refused.bad-is
    (meets-bad c.args.recorded.now c.deref.ensures.value c.in-Ok.ensures.opened c.in-Err-Refused.bad
    (subst (λ stop. Compared (Err stop) mid last c.deref.result.now) c.in-Err-Refused.field-0-is c.in-Err-Refused.ensures.compared))

pub returns-clause-meets : goal.returns-clause-meets
returns-clause-meets g c =
    let e = c.in-Err-Failed.ensures in
    let shelf = shelf_run g.S.Slots.sees g.S.Slots.stays c.open_all.new.shelf c.compare.new.shelf in
    rw (c.from-in-Err-Failed.ensures, c.in-Err-Failed.failure-is)
    (meets-failed c.args.recorded.now c.deref.ensures.value c.in-Ok.ensures.opened c.in-Err-Failed.failure c.in-Ok.ensures.traffic.counted
    (subst (λ (s : Stopped BadCopy). ShelfTraffic shelf (failure_in {A = Verdict} (Err s))) c.in-Err-Failed.field-0-is e.traffic)
    (subst (λ (s : Stopped BadCopy). failure_in {A = Verdict} (Err s) ≡ Some Write → ⊥) c.in-Err-Failed.field-0-is e.writes_nothing))

pub returns-in-Ok-compare-clause-earlier : goal.returns-in-Ok-compare-clause-earlier
returns-in-Ok-compare-clause-earlier g c =
    keeps-copies c.args.recorded.now c.deref.ensures.value c.in-Ok.ensures.opened c.in-Ok.ensures.earlier c.compare.ensures.reads

pub returns-in-Err-Refused-clause-earlier : goal.returns-in-Err-Refused-clause-earlier
returns-in-Err-Refused-clause-earlier g c =
    keeps-copies c.args.recorded.now c.deref.ensures.value c.in-Ok.ensures.opened c.in-Ok.ensures.earlier c.compare.ensures.reads

pub returns-clause-earlier : goal.returns-clause-earlier
returns-clause-earlier g c =
    keeps-copies c.args.recorded.now c.deref.ensures.value c.in-Ok.ensures.opened c.in-Ok.ensures.earlier c.compare.ensures.reads
