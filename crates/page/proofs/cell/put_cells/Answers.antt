use Rattle.std.proofs.Common.{refl, ap, map, arith, ◌∙◌}
use Rattle.page.specs.Cells.{cell_in}
use Rattle.page.proofs.Fills.{fill_put}
use Rattle.page.proofs.cell.put_cells.Goals as goal

pub runs-preserved : goal.runs-preserved
runs-preserved c =
    let some = c.in-Some.ensures.some in
    let h = c.runs.invariant in
    record {
      fill = fill_put (cell_in c.args.part some.0) c.run_cell.result _ _ _ h.fill (ap (map (cell_in c.args.part)) some.2)
          (c.run_cell.ensures some.0 some.1) c.put_row.ensures refl;
      ending = c.in-Some.ensures.ending ∙ h.ending;
      room = omega (arith, h.room, c.in-Some.ensures.shorter);
    }
