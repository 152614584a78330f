use Rattle.std.proofs.Common.{rules, subst}
use Rattle.det_io.specs.Sink.{Grew, GrewByPrefix}
use Rattle.hints_on_words.specs.Texts.{copy_text, hint_line}
use Rattle.hints_on_words.proofs.CopyLines.{line-cut, next-line}
use Rattle.hints_on_words.proofs.named_hints.write_copy_names.Goals as goal

pub returns-then-not-write_hint : goal.returns-then-not-write_hint
returns-then-not-write_hint g c =
    line-cut (λ name. name.now) (g.K.Sink.took c.args.err.now) (g.K.Sink.took c.loop-number.err) (g.K.Sink.took c.write_hint.new.err)
    c.loop-number.number c.args.names.now _ c.loop-number-test.true c.loop-number.invariant
    (subst (λ name. GrewByPrefix (g.K.Sink.took c.loop-number.err) (g.K.Sink.took c.write_hint.new.err)
    (hint_line (copy_text c.loop-number.number name))) c.as_bytes.ensures.value c.write_hint.ensures.known)

pub loop-number-preserved : goal.loop-number-preserved
loop-number-preserved g c =
    next-line (λ name. name.now) (g.K.Sink.took c.args.err.now) (g.K.Sink.took c.loop-number.err) (g.K.Sink.took c.write_hint.new.err)
    c.loop-number.number c.args.names.now _ c.loop-number-test.true c.loop-number.invariant
    (subst (λ name. Grew (g.K.Sink.took c.loop-number.err) (g.K.Sink.took c.write_hint.new.err)
    (hint_line (copy_text c.loop-number.number name))) c.as_bytes.ensures.value (c.write_hint.ensures.whole (search rules)))
