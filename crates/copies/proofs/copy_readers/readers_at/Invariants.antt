use Rattle.std.proofs.Common.{List, [], ◌++◌, drop}
use Rattle.det_io.specs.Shelf.{ShelfState}
use Rattle.record_reader.specs.declared.item_reader.reader.ItemReader.{ItemReader}
use Rattle.copies.specs.ItemRows.{AreReadersAfter}
use Rattle.copies.proofs.copy_readers.readers_at.Given as goal

abbrev pub invariant-slots : goal.invariant-slots
invariant-slots l = (state : ShelfState) (tail : List ItemReader) → AreReadersAfter state state [] (drop l.slot-index l.slots) tail
    → AreReadersAfter state state [] l.slots (l.readers.items ++ tail)
