use Rattle.std.proofs.Common.{◌∙◌, subst}
use Rattle.std.specs.Prelude.{IfErr}
use Rattle.recorder.specs.run_writer.Recording.{Cuts}
use Rattle.recorder.proofs.lemmas.run_writer.Framing.{opening-is, opened-ok}
use Rattle.recorder.proofs.run_writer.recording.Recording.open.Goals as goal

pub returns-clause-opened : goal.returns-clause-opened
returns-clause-opened g c =
    let encoded = c.in_ok-encode_opening.ensures in
    let is = encoded.bytes ∙ opening-is g.J.Job.meaning c.args.self.now c.requires.new in
    opened-ok g.J.Job.meaning c.args.self.now c.encode_opening.new.self c.write.new.self _ _ c.write.result c.requires.new encoded.keeps is
    c.write.ensures.engine c.write.ensures.profile c.write.ensures.counts_after c.write.ensures.took

pub returns-clause-cut : goal.returns-clause-cut
returns-clause-cut g c =
    let is = c.in_ok-encode_opening.ensures.bytes ∙ opening-is g.J.Job.meaning c.args.self.now c.requires.new in
    subst (λ bytes. IfErr c.write.result (λ failure. Cuts failure (g.K.Sink.took c.args.sink.now) (g.K.Sink.took c.write.new.sink) bytes))
    is c.write.ensures.cut
