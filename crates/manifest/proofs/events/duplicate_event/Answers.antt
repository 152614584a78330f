use Rattle.std.proofs.Common.{◌∙◌, sym}
use Rattle.manifest.proofs.Steps.{duplicate_at}
use Rattle.manifest.proofs.events.duplicate_event.Goals as goal

pub returns-then-is_named_in : goal.returns-then-is_named_in
returns-then-is_named_in c =
    sym (c.loop-i.invariant ∙ duplicate_at c.args.events.now c.loop-i.i c.index-events-i.result _ c.index-events-i.is c.loop-i-test.true
    (sym c.is_named_in.ensures ∙ c.if-is_named_in.true))

pub loop-i-preserved : goal.loop-i-preserved
loop-i-preserved c =
    c.loop-i.invariant ∙ duplicate_at c.args.events.now c.loop-i.i c.index-events-i.result _ c.index-events-i.is c.loop-i-test.true
    (sym c.is_named_in.ensures ∙ c.if-is_named_in.false)
