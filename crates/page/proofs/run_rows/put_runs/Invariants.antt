use Rattle.std.proofs.Common.{◌≡◌, ◌≤◌, ◌+◌, length, map}
use Rattle.record_grammar.specs.Record.{decoded_all}
use Rattle.page.specs.Walks.{left, runs_left}
use Rattle.page.specs.Rows.{row_of, rows_of}
use Rattle.page.proofs.Fills.{Fill}
use Rattle.page.proofs.run_rows.put_runs.Given as goal

abbrev pub invariant-runs : goal.invariant-runs
invariant-runs l = record {
  fill : Fill (rows_of l.bytes) (map row_of (runs_left l.walk)) l.rows l.fn.rows l.count;
  ending : (left l.walk).ending ≡ (decoded_all l.bytes).ending;
  room : l.count + length l.walk.rest.now ≤ length l.bytes;
}

abbrev pub decreases-runs : goal.decreases-runs
decreases-runs l = length l.walk.rest.now
