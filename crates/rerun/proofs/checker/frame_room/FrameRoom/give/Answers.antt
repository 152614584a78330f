use Rattle.std.proofs.Common.{◌++◌, sym, subst}
use Rattle.std.specs.Prelude.{Result, Ok, Err, OnOk}
use Rattle.det_values.specs.declared.frames.Frame.{Frame}
use Rattle.record_view.specs.Shows.{IsFrameSpelling}
use Rattle.record_codec.proofs.Made.{of_run}
use Rattle.rerun.specs.checker.RerunFrames.{IsEngineAfter, input_of}
use Rattle.rerun.proofs.checker.frame_room.FrameRoom.give.Goals as goal

on-ok : {A E X Y : Type 0} (result : Result A E) → (X → Y) → OnOk result X → OnOk result Y
on-ok (Ok value) then h = then h
on-ok (Err e) then h = tt

pub returns-in-Run-clause-behind : goal.returns-in-Run-clause-behind
returns-in-Run-clause-behind g c =
    on-ok c.next_run_frame.result (λ behind given read h spells.
    let k = of_run c.args.view _ _ read c.args.bytes.now c.in-Run.is spells in
    subst (λ (frame : Frame). IsEngineAfter g.J.Job.meaning c.next_run_frame.new.recording (given ++ input_of frame)) (sym k.is)
    (behind given k.run h (subst (λ (frame : Frame). IsFrameSpelling c.args.view frame c.args.bytes.now) k.is spells)))
    c.next_run_frame.ensures.behind
