use Rattle.std.proofs.Common.{refl, ap, map, arith, ◌∙◌}
use Rattle.page.specs.Rows.{row_of}
use Rattle.page.proofs.Fills.{fill_put}
use Rattle.page.proofs.run_rows.put_runs.Goals as goal

pub runs-preserved : goal.runs-preserved
runs-preserved c =
    let some = c.in-Some.ensures.some in
    let h = c.runs.invariant in
    record {
      fill = fill_put (row_of some.0) c.run_row.result _ _ _ h.fill (ap (map row_of) some.2)
          (c.run_row.ensures some.0 some.1) c.put_row.ensures refl;
      ending = c.in-Some.ensures.ending ∙ h.ending;
      room = omega (arith, h.room, c.in-Some.ensures.shorter);
    }
