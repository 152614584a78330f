-- What may alter the frames of a copy.
use Rattle.std.specs.Prelude.{ℕ, List, [], ◌∷◌, ◌&&◌, ◌==◌, if◌then◌else◌}
use Rattle.std.specs.Int.Bits.{bit_xor}
use Rattle.det_values.specs.declared.frames.Outcome.{Outcome}
use Rattle.det_values.specs.declared.frames.Outcome.TheVariants.{Finished, Refused}
use Rattle.det_values.specs.declared.frames.Frame.{Frame}
use Rattle.det_values.specs.declared.frames.Frame.TheVariants.{Register, Discover, Init, Run}
use Rattle.det_values.specs.declared.frames.Frame.TheVariants.{Terminate}

-- the kind of a frame, counted from 0 in the order of a run
abbrev pub kind_of : Frame → ℕ
kind_of Register = 0
kind_of Discover = 1
kind_of (Init elements) = 2
kind_of (Run run) = 3
kind_of Terminate = 4

-- ---- a bit that is flipped

-- the bytes, with the lowest bit of the last one flipped
abbrev pub flipped_last : List ℕ → List ℕ
flipped_last [] = []
flipped_last (byte ∷ []) = bit_xor byte 1 ∷ []
flipped_last (byte ∷ next ∷ more) = byte ∷ flipped_last (next ∷ more)

-- a finished cycle whose output is altered like this
abbrev pub flipped_output : Outcome → Outcome
flipped_output (Finished elements output) = Finished elements (flipped_last output)
flipped_output (Refused at) = Refused at

abbrev pub flipped_frame : Frame → Frame
flipped_frame (Run run) = Run (record run { outcome = flipped_output run.outcome })
flipped_frame frame = frame

-- one frame of one copy, altered like this
abbrev pub flipped_at : ℕ → ℕ → ℕ → ℕ → Frame → Frame
flipped_at copy number its_copy its_number frame =
    if (its_copy == copy) && (its_number == number) then flipped_frame frame else frame
