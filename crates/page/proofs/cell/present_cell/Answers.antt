use Rattle.std.proofs.Common.{ℕ, List, ap, length, replicate}
use Rattle.page.specs.declared.cell.PageCell.{PageCell}
use Rattle.page.proofs.Fills.{overlay_front}
use Rattle.page.proofs.cell.present_cell.Goals as goal

abbrev a_cell : ℕ → ℕ → List ℕ → PageCell
a_cell len draws bytes = record { bytes = bytes; length = len; draws = draws; present = 1 }

pub returns : goal.returns
returns c =
    let e = c.fill_front.ensures in
    ap (a_cell (length c.args.bytes.now) c.args.draws)
    (overlay_front c.fill_front.result c.args.bytes.now (replicate 64 0) c.fill_front.new.buf e.count e.front e.rest)
