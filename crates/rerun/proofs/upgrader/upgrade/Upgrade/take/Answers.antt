use Rattle.std.proofs.Common.{◌≡◌, ◌+◌, ◌++◌, length, sym, ap, subst, ◌∙◌}
use Rattle.det_values.specs.Frames.{in_format}
use Rattle.det_values.specs.declared.frames.Frame.{Frame}
use Rattle.det_io.specs.Sink.{Grew}
use Rattle.record_grammar.specs.Spelling.{spelled_frame}
use Rattle.copies.specs.FirstDifference.{frame_difference}
use Rattle.rerun.specs.checker.RerunFrames.{input_of, rerun_frame}
use Rattle.rerun.specs.upgrader.Frames.{unless_last}
use Rattle.rerun.proofs.Reading.{none-of}
use Rattle.rerun.proofs.lemmas.upgrader.Going.{written-behind}
use Rattle.rerun.proofs.upgrader.upgrade.Upgrade.take.Goals as goal

pub returns-clause-takes : goal.returns-clause-takes
returns-clause-takes g c given read h spells =
    let m = g.J.Job.meaning in
    let old = c.args.self.now in
    let compared = c.in_ok-compared.compared in
    let ok = c.in_ok-compared.ensures in
    let kept : Frame = in_format old.format (rerun_frame m c.args.recording.now.profile given read) in
    let is : compared.read ≡ read = ok.read read spells in
    let counts = c.compare.ensures.counts in
    let counted = c.count.ensures.counted in
    let piece : unless_last compared.read c.compare.new.recording.buffer.items
    ≡ unless_last read (spelled_frame c.args.recording.now.profile.format (rerun_frame m c.args.recording.now.profile given read)) =
    (λ i. unless_last (is i) (ok.spelled given read h spells i)) in
    let differs : frame_difference old.compared read kept ≡ c.difference.result =
    (λ i. frame_difference (sym counts.1 i) (sym is i) (sym (ok.given given read h spells) i)) ∙ sym c.difference.ensures in (
      differs ∙ none-of c.difference.result c.in_default.not-Some,
      subst (Grew (g.K.Sink.took c.args.sink.now) (g.K.Sink.took c.write_upgraded_frame.new.sink)) piece
          c.in_ok-write_upgraded_frame.ensures.took,
      record {
        behind = rw c.take_back.ensures (written-behind m c.compare.new.recording c.write_upgraded_frame.new.recording
            (given ++ input_of read) (ok.behind given read h spells) c.write_upgraded_frame.ensures.engine c.write_upgraded_frame.ensures.profile);
        counted = record {
          compared = counted.compared ∙ ap (λ k. k + 1) counts.1;
          cycles = counted.cycles ∙ (λ i. counts.2 i + length (input_of (is i)));
        };
      },
    )
