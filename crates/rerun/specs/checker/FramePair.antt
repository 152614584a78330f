-- A frame that was read, and the frame that the run gives in its place.
use Rattle.std.specs.Option.{unwrap_or}
use Rattle.det_values.specs.declared.frames.Frame.{Frame}
use Rattle.rerun.specs.declared.checker.frame_pair.FramePair.{FramePair}

-- the frame that the run gives
abbrev pub rerun_frame_in : FramePair → Frame
rerun_frame_in compared = unwrap_or compared.other compared.read
