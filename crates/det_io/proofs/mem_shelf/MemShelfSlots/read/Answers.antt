use Rattle.std.proofs.Common.{◌∙◌, ap, length, min}
use Rattle.det_io.proofs.Places.{places-read, places-end, places-rest}
use Rattle.det_io.proofs.mem_shelf.MemShelfSlots.read.Goals as goal

pub returns-clause-reads : goal.returns-clause-reads
returns-clause-reads c = places-read c.args.self.now.files c.args.self.now.slots.items c.args.self.now.names_known
    c.args.self.now.asked.items _
    _
    c.args.slot c.copy_file_bytes-n.result c.index-place.result.now _ c.requires c.index-place.ensures
    (rw c.as_slice.ensures.items at c.copy_file_bytes-n.ensures.front)

pub returns-clause-end : goal.returns-clause-end
returns-clause-end c = places-end c.args.self.now.files c.args.self.now.slots.items c.args.slot c.copy_file_bytes-n.result c.args.self.now.most _
    c.index-place.result.now c.requires c.index-place.ensures (rw c.as_slice.ensures.items at c.copy_file_bytes-n.ensures.count)
    c.args.self.now.moves

pub returns-clause-amount : goal.returns-clause-amount
returns-clause-amount c =
    let count = rw c.as_slice.ensures.items at c.copy_file_bytes-n.ensures.count in
    count ∙ ap (λ rest. min (min (length c.args.buf.now) c.args.self.now.most) (length rest))
    (places-rest c.args.self.now.files c.args.self.now.slots.items c.args.slot c.index-place.result.now c.requires c.index-place.ensures)
