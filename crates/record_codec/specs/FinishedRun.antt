-- The frame of a run that finished.
use Rattle.std.specs.Prelude.{ℕ, List}
use Rattle.det_values.specs.declared.frames.CycleInput.{CycleInput}
use Rattle.det_values.specs.declared.frames.DrawnElement.{DrawnElement}
use Rattle.det_values.specs.declared.frames.Outcome.TheVariants.{Finished}
use Rattle.det_values.specs.declared.frames.Frame.{Frame}
use Rattle.det_values.specs.declared.frames.Frame.TheVariants.{Run}

-- the Run frame with this input that finished with these elements and this output
abbrev pub finished_run : CycleInput → List DrawnElement → List ℕ → Frame
finished_run input elements output =
    Run (record { input = input; outcome = Finished elements output })
