use Rattle.std.proofs.Common.{sym, subst}
use Rattle.std.specs.Prelude.{Option, Result}
use Rattle.det_io.specs.declared.failure.Stopped.{Stopped}
use Rattle.det_io.specs.Shelf.{IsAtEnd}
use Rattle.record_reader.specs.item_reader.StandsFor.{ItemIs, slot_of}
use Rattle.record_view.specs.declared.view.ItemView.{ItemView}
use Rattle.copies.specs.declared.verdict.BadCopy.{BadCopy}
use Rattle.copies.specs.Copies.{CopyNext}
use Rattle.copies.proofs.Needed.{reads-row}
use Rattle.copies.proofs.ItemRows.{copy-next}
use Rattle.copies.proofs.copy_readers.next_of_copy.Goals as goal

pub returns-clause-row : goal.returns-clause-row
returns-clause-row g c first given slot behind =
    subst (λ (r : Result (Option ItemView) (Stopped BadCopy)). CopyNext r c.args.copy first (g.S.Slots.sees c.next.new.shelf) given slot
    c.next.new.self) (sym c.with_copy_number.ensures)
    (copy-next c.next.new.self c.args.copy c.next.ensures.slot behind c.next.result c.next.ensures.item)

pub returns-clause-read : goal.returns-clause-read
returns-clause-read g c =
    reads-row (ItemIs c.next.result c.next.new.self (IsAtEnd (g.S.Slots.sees c.next.new.shelf) (slot_of c.args.reader.now)))
    c.next.ensures.item c.next.ensures.slot
