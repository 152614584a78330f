-- The cycles of a record as rows of numbers.
use Rattle.std.specs.Prelude.{ℕ, ◌+◌, List, [], ◌∷◌, length, map, Option, Some, None}
use Rattle.det_values.specs.Values.{RefusedAtValue}
use Rattle.det_values.specs.declared.refused_at.Phase.{Phase}
use Rattle.det_values.specs.declared.refused_at.Phase.TheVariants as phases
use Rattle.det_values.specs.declared.frames.CycleInput.{CycleInput}
use Rattle.det_values.specs.declared.frames.DrawnElement.{DrawnElement}
use Rattle.det_values.specs.declared.frames.Outcome.{Outcome}
use Rattle.det_values.specs.declared.frames.Outcome.TheVariants.{Finished, Refused}
use Rattle.det_values.specs.declared.frames.RunFrame.{RunFrame}
use Rattle.page.specs.declared.run_rows.PageRun.{PageRun}
use Rattle.page.specs.Walks.{runs_of}

-- the first of these in place of the first old ones, as far as there is room
abbrev pub overlay : {X : Type 0} → List X → List X → List X
overlay [] old = old
overlay (x ∷ xs) [] = []
overlay (x ∷ xs) (y ∷ old) = x ∷ overlay xs old

abbrev pub phase_number : Phase → ℕ
phase_number phases.Prepare = 1
phase_number phases.Pool = 2
phase_number phases.Conclude = 3

abbrev pub time_or_0 : Option ℕ → ℕ
time_or_0 None = 0
time_or_0 (Some time) = time

abbrev pub is_known : Option ℕ → ℕ
is_known None = 0
is_known (Some time) = 1

-- how many random numbers elements drew
abbrev pub all_draws : List DrawnElement → ℕ
all_draws [] = 0
all_draws (e ∷ es) = e.draws + all_draws es

abbrev pub finished_row : CycleInput → List DrawnElement → List ℕ → PageRun
finished_row input elements output = record {
  time = time_or_0 input.time;
  draws = all_draws elements;
  output = length output;
  known = is_known input.time;
  samples = length input.samples;
  elements = length elements;
  outcome = 0;
  pass = 0;
  element = 0;
  code = 0;
}

abbrev pub refused_row : CycleInput → RefusedAtValue → PageRun
refused_row input at = record {
  time = time_or_0 input.time;
  draws = 0;
  output = 0;
  known = is_known input.time;
  samples = length input.samples;
  elements = 0;
  outcome = phase_number at.phase;
  pass = at.pass;
  element = at.element;
  code = at.code;
}

abbrev pub outcome_row : CycleInput → Outcome → PageRun
outcome_row input (Finished elements output) = finished_row input elements output
outcome_row input (Refused at) = refused_row input at

-- the row of a cycle
abbrev pub row_of : RunFrame → PageRun
row_of run = outcome_row run.input run.outcome

-- the rows of all cycles of a record
abbrev pub rows_of : List ℕ → List PageRun
rows_of bytes = map row_of (runs_of bytes)
