-- What was decoded from the view of a frame into memory that is reused.
use Rattle.std.specs.Prelude.{◌≡◌, Bool, true, false, Result, Ok, Err}
use Rattle.det_values.specs.declared.frames.CycleInput.{CycleInput}
use Rattle.det_values.specs.declared.frames.Frame.{Frame}
use Rattle.det_values.specs.declared.frames.Frame.TheVariants.{Run}
use Rattle.det_values.specs.declared.frames.RunFrame.{RunFrame}
use Rattle.std.specs.declared.alloc.AllocError.{AllocError}
use Rattle.record_codec.specs.declared.run_room.RunRoom.{RunRoom}

-- the input of a Run frame is there, or the frame is of another kind
abbrev pub InputFilled : Result Bool AllocError → Frame → CycleInput → Type 0
InputFilled (Ok true) (Run run) input = input ≡ run.input
InputFilled (Ok true) frame input = ⊥
InputFilled (Ok false) (Run run) input = ⊥
InputFilled (Ok false) frame input = Unit {0}
InputFilled (Err e) frame input = Unit {0}

abbrev pub run_in : RunRoom → RunFrame
run_in room = room.run

-- the run of a Run frame is there, or the frame is of another kind
abbrev pub RunFilled : Result Bool AllocError → Frame → RunRoom → Type 0
RunFilled (Ok true) (Run run) room = run_in room ≡ run
RunFilled (Ok true) frame room = ⊥
RunFilled (Ok false) (Run run) room = ⊥
RunFilled (Ok false) frame room = Unit {0}
RunFilled (Err e) frame room = Unit {0}
