use Rattle.det_io.proofs.lemmas.sink_buffer.Fronts.{if-ok-then, front-then}
use Rattle.det_io.proofs.sink_buffer.buffer.SinkBufferSink.write.Goals as goal

pub returns-clause-taken : goal.returns-clause-taken
returns-clause-taken g c =
    if-ok-then c.gather.result (λ n taken. record { each = λ bytes first. front-then _ _ _ _ bytes _ _ taken first }) c.gather.ensures.taken
