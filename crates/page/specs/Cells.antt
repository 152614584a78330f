-- The bytes of an element or of an output, cycle by cycle.
use Rattle.std.specs.Prelude.{ℕ, List, length, map, Option, Some, None, slice_get, replicate}
use Rattle.det_values.specs.declared.frames.DrawnElement.{DrawnElement}
use Rattle.det_values.specs.declared.frames.Outcome.{Outcome}
use Rattle.det_values.specs.declared.frames.Outcome.TheVariants.{Finished, Refused}
use Rattle.det_values.specs.declared.frames.RunFrame.{RunFrame}
use Rattle.page.specs.declared.cell.PageCell.{PageCell}
use Rattle.page.specs.declared.cell.Part.{Part}
use Rattle.page.specs.declared.cell.Part.TheVariants.{Element, Output}
use Rattle.page.specs.Rows.{overlay}
use Rattle.page.specs.Walks.{runs_of}

abbrev pub present_cell : List ℕ → ℕ → PageCell
present_cell bytes draws = record {
  bytes = overlay bytes (replicate 64 0);
  length = length bytes;
  draws = draws;
  present = 1;
}

abbrev pub absent_cell : PageCell
absent_cell = record { bytes = replicate 64 0; length = 0; draws = 0; present = 0 }

abbrev pub element_cell : Option DrawnElement → PageCell
element_cell None = absent_cell
element_cell (Some e) = present_cell e.bytes e.draws

abbrev pub part_cell : Part → List DrawnElement → List ℕ → PageCell
part_cell (Element number) elements output = element_cell (slice_get elements number)
part_cell Output elements output = present_cell output 0

abbrev pub outcome_cell : Part → Outcome → PageCell
outcome_cell part (Finished elements output) = part_cell part elements output
outcome_cell part (Refused at) = absent_cell

-- what is shown of a cycle
abbrev pub cell_in : Part → RunFrame → PageCell
cell_in part run = outcome_cell part run.outcome

-- the cells of all cycles of a record
abbrev pub cells_of : Part → List ℕ → List PageCell
cells_of part bytes = map (cell_in part) (runs_of bytes)
