-- Runs of a cycle, by their views.
use Rattle.std.specs.Prelude.{List, ℕ, length}
use Rattle.det_values.specs.declared.frames.RunFrame.{RunFrame}
use Rattle.record_codec.specs.Parts.{ShowsRun}
use Rattle.copies.specs.declared.item_differences.RunView.{RunView}

-- these are the bytes of a Run frame, whose parts are where the view says
abbrev pub IsRunIn : RunView → List ℕ → RunFrame → Type 0
IsRunIn view bytes run = ShowsRun view.place view.input view.outcome (length bytes) bytes run
