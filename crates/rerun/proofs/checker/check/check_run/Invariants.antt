use Rattle.std.proofs.Common.{◌≡◌, ℕ, List, None}
use Rattle.det_values.specs.declared.frames.Frame.{Frame}
use Rattle.det_io.specs.Traffic.{ShelfTraffic, shelf_run}
use Rattle.record_reader.specs.Frames.{slot_of, room}
use Rattle.probes.specs.Shows.{seen}
use Rattle.rerun.proofs.lemmas.checker.Running.{Comparing}
use Rattle.rerun.proofs.checker.check.check_run.Given as goal

abbrev pub invariant-reading : goal.invariant-reading
invariant-reading g l = record {
  comparing : (more : List ℕ) × (front : List Frame)
      × Comparing g.J.Job.meaning l.fn.recording.profile (g.S.Slots.sees l.fn.shelf) (g.S.Slots.sees l.shelf) (slot_of l.fn.frames)
      (seen (λ b. (goal.Probe-dyn g (b.vtable, b.value)).life b.value) l.fn.audience)
      (seen (λ b. (goal.Probe-dyn g (b.vtable, b.value)).life b.value) l.audience)
      l.fn.frames l.frames l.recording l.checker more front;
  profile : l.recording.profile ≡ l.fn.recording.profile;
  slot : slot_of l.frames ≡ slot_of l.fn.frames;
  traffic : ShelfTraffic (shelf_run g.S.Slots.sees g.S.Slots.stays l.fn.shelf l.shelf) None;
}

abbrev pub decreases-reading : goal.decreases-reading
decreases-reading g l = room l.frames
