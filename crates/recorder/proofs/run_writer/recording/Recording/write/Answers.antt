use Rattle.std.proofs.Common.{subst}
use Rattle.std.proofs.lemmas.Result.{err_from_is_err_and}
use Rattle.det_io.specs.Sink.{GrewShort}
use Rattle.recorder.proofs.run_writer.recording.Recording.write.Goals as goal

pub returns-in_err-write_all-clause-cut : goal.returns-in_err-write_all-clause-cut
returns-in_err-write_all-clause-cut g c =
    let p = err_from_is_err_and c.from_residual.result c.from_residual.ensures.1 in
    rw (p.1, p.2) (subst (GrewShort (g.K.Sink.took c.args.sink.now) (g.K.Sink.took c.write_all.new.sink)) c.deref.ensures.value
    c.in_err-write_all.ensures.short)
