use Rattle.hints_on_words.proofs.CopyLines.{TookLines}
use Rattle.hints_on_words.proofs.named_hints.write_copy_names.Given as goal

abbrev pub invariant-loop-number : goal.invariant-loop-number
invariant-loop-number g l =
    TookLines (λ name. name.now) (g.K.Sink.took l.initial.err) (g.K.Sink.took l.err) l.number l.names
