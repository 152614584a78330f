use Rattle.std.proofs.Common.{ap, ◌∙◌}
use Rattle.recorder.specs.run_writer.Recording.{counts_after}
use Rattle.recorder.proofs.lemmas.run_writer.Framing.{counted-ended}
use Rattle.recorder.proofs.run_writer.recording.Recording.close.Goals as goal

pub returns-clause-closed : goal.returns-clause-closed
returns-clause-closed g c given h =
    let spelled = c.in_ok-spell.ensures in
    counted-ended g.J.Job.meaning c.args.self.now _ given h (c.in_ok-write.ensures.counts_after
    ∙ ap (λ counts. counts_after counts c.spell.new.self.buffer.items) spelled.keeps.counts
    ∙ ap (counts_after c.args.self.now.counts) spelled.bytes)
