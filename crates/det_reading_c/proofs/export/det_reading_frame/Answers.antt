use Rattle.std.proofs.Common.{refl, ◌∙◌}
use Rattle.det_reading_c.specs.Answers.{frame_call}
use Rattle.det_reading_c.proofs.Items.{frame_whole}
use Rattle.det_reading_c.proofs.export.det_reading_frame.Goals as goal

pub returns-in-Ok : goal.returns-in-Ok
returns-in-Ok c = record {
  misplaced = (λ e. absurd cc, λ e. absurd (c.in_default.not-Header (c.place-place.ensures ∙ e)));
  read = λ other scanned.
      frame_whole (frame_call c.args.reading.now c.args.frame.now c.args.fault.now)
      (frame_call c.pass.new.self c.frame_struct.result c.args.fault.now) c.place-place.result c.in-Ok.span c.args.bytes.now
      c.place-place.ensures c.frame_struct.ensures.length c.frame_struct.ensures.parts c.pass.ensures c.in_default.not-Header
      c.step-answer.result c.in-Ok.is (c.step-answer.ensures.viewed scanned);
  changes = record {
    frame = λ e. absurd (e refl);
    place = λ e. absurd (e refl);
    scan = λ e. absurd (e refl);
    fault = λ e. refl;
  };
}
