use Rattle.std.proofs.Common.{ap, subst}
use Rattle.std.proofs.lemmas.Result.{err_from_is_err_and}
use Rattle.det_io.specs.Sink.{Grew, GrewShort}
use Rattle.det_values.specs.Spelling.{spelled_all}
use Rattle.recorder.proofs.lemmas.run_writer.Parting.{parts-are, counts_after-parts}
use Rattle.recorder.proofs.run_writer.recording.Recording.write_long_run.Goals as goal

pub returns-in_err-write_parts-clause-cut : goal.returns-in_err-write_parts-clause-cut
returns-in_err-write_parts-clause-cut g c =
    let p = err_from_is_err_and c.from_residual-in_err-write_parts.result c.from_residual-in_err-write_parts.ensures.1 in
    let is = parts-are _ _ _ _ c.spell_ends.new.self.buffer.items _ (spelled_all c.args.elements.now) _ c.split_at.ensures.front
    c.split_at.ensures.back c.as_slice.ensures.value (ap spelled_all c.blocks-2.ensures) c.in_ok-at.ensures.around in
    rw (p.1, p.2) (subst (GrewShort (g.K.Sink.took c.args.sink.now) (g.K.Sink.took c.write_parts.new.sink)) is
    c.in_err-write_parts.ensures.short)

pub returns-clause-took : goal.returns-clause-took
returns-clause-took g c =
    let is = parts-are _ _ _ _ c.spell_ends.new.self.buffer.items _ (spelled_all c.args.elements.now) _ c.split_at.ensures.front
    c.split_at.ensures.back c.as_slice.ensures.value (ap spelled_all c.blocks-2.ensures) c.in_ok-at.ensures.around in
    subst (Grew (g.K.Sink.took c.args.sink.now) (g.K.Sink.took c.write_parts.new.sink)) is c.in_ok-write_parts.ensures.all

pub returns-clause-counts_after : goal.returns-clause-counts_after
returns-clause-counts_after g c =
    counts_after-parts c.args.self.now.counts c.spell_ends.new.self.counts c.count.new.self.counts _ c.spell_ends.new.self.buffer.items
    (spelled_all c.args.elements.now) _ c.in_ok-at.ensures.within c.in_ok-at.ensures.keeps.counts c.count.ensures.counts
    c.in_ok-at.ensures.around
