use Rattle.std.proofs.Common.{◌≡◌, None}
use Rattle.det_io.specs.Traffic.{ShelfTraffic, shelf_run}
use Rattle.record_reader.specs.Frames.{slot_of, room}
use Rattle.rerun.specs.replayer.NextInput.{HasGiven, ReadsOn}
use Rattle.rerun.proofs.replayer.record_inputs.next_input.Given as goal

abbrev pub invariant-frames : goal.invariant-frames
invariant-frames g l = record {
  on : ReadsOn (g.S.Slots.sees l.fn.shelf) (g.S.Slots.sees l.shelf) l.fn.frames (λ profile. HasGiven profile l.frames);
  slot : slot_of l.frames ≡ slot_of l.fn.frames;
  traffic : ShelfTraffic (shelf_run g.S.Slots.sees g.S.Slots.stays l.fn.shelf l.shelf) None;
}

abbrev pub decreases-frames : goal.decreases-frames
decreases-frames g l = room l.frames
