use Rattle.std.proofs.Common.{arith, length}
use Rattle.std.proofs.lemmas.Slice.{between_to_end}
use Rattle.det_io.proofs.Places.{one_slot-reads}
use Rattle.det_io.proofs.text_shelf.TextShelfSlots.read.Goals as goal

pub returns-clause-reads : goal.returns-clause-reads
returns-clause-reads c =
    let rest = between_to_end c.args.self.now.bytes c.args.self.now.at (length c.args.self.now.bytes) (omega arith) in
    one_slot-reads c.args.self.now.bytes _ c.args.self.now.at c.read_memory-n.result c.args.slot c.requires
    (let front = rw c.as_slice.ensures.items at c.read_memory-n.ensures.front in let told = rw rest at front in told)
