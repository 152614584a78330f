use Rattle.std.proofs.Common.{length}
use Rattle.page.proofs.LentSlots.{lent-reads, lent-ends}
use Rattle.page.proofs.lent_shelf.LentShelfSlots.read.Goals as goal

pub returns-clause-reads : goal.returns-clause-reads
returns-clause-reads c = lent-reads c.args.self.now.rests.items c.args.slot c.fill_front-count.result c.index-rest.result.now c.bytes_after.result
    c.requires c.index-rest.ensures c.bytes_after.ensures _ c.fill_front-count.ensures.front

pub returns-clause-end : goal.returns-clause-end
returns-clause-end c = lent-ends c.args.self.now.rests.items c.args.slot c.fill_front-count.result c.index-rest.result.now c.bytes_after.result
    c.requires c.index-rest.ensures c.bytes_after.ensures (length c.args.buf.now) c.fill_front-count.ensures.count
