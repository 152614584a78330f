use Rattle.std.proofs.Common.{sym, subst}
use Rattle.std.specs.Prelude.{Result}
use Rattle.det_io.specs.declared.failure.Stopped.{Stopped}
use Rattle.record_reader.specs.declared.item_reader.comparison.Comparison.{Comparison}
use Rattle.det_io.specs.Shelf.{IsAtEnd}
use Rattle.record_reader.specs.item_reader.StandsFor.{place_of, slot_of}
use Rattle.record_reader.specs.item_reader.Comparison.{ComparisonIs}
use Rattle.copies.specs.declared.verdict.BadCopy.{BadCopy}
use Rattle.copies.specs.Copies.{CopyLike}
use Rattle.copies.proofs.Needed.{reads-row}
use Rattle.copies.proofs.ItemRows.{copy-like}
use Rattle.copies.proofs.copy_readers.compare_next_item.Goals as goal

pub returns-clause-like : goal.returns-clause-like
returns-clause-like g c first given slot item behind spelled =
    subst (λ (r : Result Comparison (Stopped BadCopy)). CopyLike r c.args.copy item first (g.S.Slots.sees c.compare_next.new.shelf) given
    slot
    c.compare_next.new.self) (sym c.with_copy_number.ensures)
    (copy-like c.compare_next.new.self c.args.copy c.compare_next.ensures.slot behind c.compare_next.result (place_of c.args.reader.now)
    c.args.view c.args.bytes.now item spelled c.compare_next.ensures.like)

pub returns-clause-read : goal.returns-clause-read
returns-clause-read g c =
    reads-row (ComparisonIs c.compare_next.result c.args.view c.args.bytes.now (place_of c.args.reader.now) c.compare_next.new.self
    (IsAtEnd (g.S.Slots.sees c.compare_next.new.shelf) (slot_of c.args.reader.now))) c.compare_next.ensures.like c.compare_next.ensures.slot
