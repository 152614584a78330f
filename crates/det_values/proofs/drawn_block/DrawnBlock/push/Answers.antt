use Rattle.det_values.proofs.FlatReading.{try_push}
use Rattle.det_values.proofs.drawn_block.DrawnBlock.push.Goals as goal

pub invariant_of-self-2 : goal.invariant_of-self-2
invariant_of-self-2 c = (try_push _ _ _ _ _ c.self.view_is c.self.invariant c.put_drawn.ensures.fields c.requires.room
    c.in_ok-put_drawn.ensures.ok).flat

pub returns-clause-ok : goal.returns-clause-ok
returns-clause-ok c = (try_push _ _ _ _ _ c.self.view_is c.self.invariant c.put_drawn.ensures.fields c.requires.room
    c.in_ok-put_drawn.ensures.ok).view
