use Rattle.stimulus.proofs.parser.StimulusParser.next_cycle.Goals as goal

pub returns-in-Ok-Item-clause-next : goal.returns-in-Ok-Item-clause-next
returns-in-Ok-Item-clause-next c bytes given h =
    let line = rw c.in-Ok-Item.field-0-is at (c.in-Ok-Item.ensures.line bytes given (c.each_line.invariant.stands bytes given h)) in line

pub returns-in-Ok-Open-clause-next : goal.returns-in-Ok-Open-clause-next
returns-in-Ok-Open-clause-next c bytes given h =
    let line = rw c.in-Ok-Open.field-0-is at (c.in-Ok-Open.ensures.line bytes given (c.each_line.invariant.stands bytes given h)) in line
