use Rattle.std.proofs.Common.{◌≡◌, ◌≤◌, ◌+◌, length, map}
use Rattle.record_grammar.specs.Record.{decoded_all}
use Rattle.page.specs.Walks.{left, runs_left}
use Rattle.page.specs.Cells.{cell_in, cells_of}
use Rattle.page.proofs.Fills.{Fill}
use Rattle.page.proofs.cell.put_cells.Given as goal

abbrev pub invariant-runs : goal.invariant-runs
invariant-runs l = record {
  fill : Fill (cells_of l.part l.bytes) (map (cell_in l.part) (runs_left l.walk)) l.cells l.fn.cells l.count;
  ending : (left l.walk).ending ≡ (decoded_all l.bytes).ending;
  room : l.count + length l.walk.rest.now ≤ length l.bytes;
}

abbrev pub decreases-runs : goal.decreases-runs
decreases-runs l = length l.walk.rest.now
