use Rattle.std.proofs.Common.{sym, subst}
use Rattle.std.specs.Prelude.{Result}
use Rattle.det_io.specs.declared.failure.Failure.{Failure}
use Rattle.det_io.specs.Shelf.{IsAtEnd}
use Rattle.record_reader.specs.item_reader.StandsFor.{ItemIs, slot_of}
use Rattle.copies.proofs.Needed.{reads-row}
use Rattle.cmd_records.specs.declared.voter.voter_rows.RowView.{RowView}
use Rattle.cmd_records.specs.voter.Rows.{RowGiven}
use Rattle.cmd_records.proofs.lemmas.voter.InTurn.{row-given}
use Rattle.cmd_records.proofs.voter.voter_rows.next_voter_row.Goals as goal

pub returns-clause-row : goal.returns-clause-row
returns-clause-row g c first given slot behind =
    subst (λ (r : Result RowView Failure). RowGiven r first (g.S.Slots.sees c.next.new.shelf) given slot c.next.new.self)
    (sym c.vote_row.ensures) (row-given c.next.new.self c.next.ensures.slot behind c.next.result c.next.ensures.item)

pub returns-clause-read : goal.returns-clause-read
returns-clause-read g c =
    reads-row (ItemIs c.next.result c.next.new.self (IsAtEnd (g.S.Slots.sees c.next.new.shelf) (slot_of c.args.reader.now)))
    c.next.ensures.item c.next.ensures.slot
