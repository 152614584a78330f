-- Where a record departs from the run that its inputs give.
use Rattle.std.specs.Prelude.{ℕ, suc, List, ◌∷◌, take, true, Option, None}
use Rattle.std.specs.Prelude.{if◌then◌else◌}
use Rattle.std.specs.List.{flat_map}
use Rattle.std.specs.Option.{is_none, option_or}
use Rattle.det_values.specs.Values.{ProfileValue}
use Rattle.det_values.specs.declared.frames.RunFrame.{RunFrame}
use Rattle.det_values.specs.declared.frames.Frame.{Frame}
use Rattle.job.specs.Meaning.{Meaning}
use Rattle.cycle_engine.specs.Frames.{frames}
use Rattle.record_grammar.specs.declared.item.Item.TheVariants as items
use Rattle.record_grammar.specs.Record.{items as items_in}
use Rattle.record_reader.specs.InItems.{frame_in, run_in}
use Rattle.copies.specs.declared.difference.Difference.{Difference}
use Rattle.copies.specs.FirstDifference.{frame_difference}
use Rattle.rerun.specs.replayer.ReplayRecord.{inputs}

-- ---- frames, number by number

-- the number of frames before the first one that differs from the one of its number in another list
unfoldable pub agreeing_count : ℕ → List Frame → List Frame → ℕ
agreeing_count number (frame ∷ others) (given ∷ later) =
    if is_none (frame_difference number frame given) then suc (agreeing_count (suc number) others later)
    else 0
agreeing_count number others later = 0

-- the difference at that place; the first frames have this number
unfoldable pub departure_from : ℕ → List Frame → List Frame → Option Difference
departure_from number (frame ∷ others) (given ∷ later) =
    option_or (frame_difference number frame given) (departure_from (suc number) others later)
departure_from number others later = None

-- ---- the frames of a record

abbrev pub frames_in : List ℕ → List Frame
frames_in record_bytes = flat_map frame_in (items_in record_bytes)

-- the run of a frame, or none
abbrev pub run_of : Frame → List RunFrame
run_of frame = run_in (items.Frame frame)

module _ {S G E L P : Type 0} (m : Meaning S G E L P) (profile : ProfileValue) where
  -- the frames of the whole run that a record's inputs give
  abbrev pub given_by : List ℕ → List Frame
  given_by record_bytes = frames m profile (inputs record_bytes) true

  -- the number of frames of a record before the first that differs from the frame of its number in
  -- that run
  abbrev pub genuine_frames : List ℕ → ℕ
  genuine_frames record_bytes = agreeing_count 0 (frames_in record_bytes) (given_by record_bytes)

  -- the first difference of a record's frame from the frame of its number in that run
  abbrev pub departure : List ℕ → Option Difference
  departure record_bytes = departure_from 0 (frames_in record_bytes) (given_by record_bytes)

  -- the runs of a record up to and including the one in which it departs, or all
  abbrev pub checked_runs : List ℕ → List RunFrame
  checked_runs record_bytes =
      flat_map run_of (take (suc (genuine_frames record_bytes)) (frames_in record_bytes))
