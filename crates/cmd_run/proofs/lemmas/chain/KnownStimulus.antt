-- What follows for the text where the shelf knows it.
use Rattle.std.proofs.Common.{ℕ}
use Rattle.std.specs.Prelude.{Result}
use Rattle.det_values.specs.Values.{ProfileValue}
use Rattle.det_io.specs.Traffic.{ShelfRun}
use Rattle.det_io.specs.declared.failure.Stopped.{Stopped}
use Rattle.job.specs.Meaning.{Meaning}
use Rattle.stimulus.specs.declared.stimulus_item.StimulusFault.{StimulusFault}
use Rattle.cmd_run.specs.declared.chain.chain_counts.ChainCounts.{ChainCounts}
use Rattle.cmd_run.specs.chain.ChainEnds.{Sinks, Answers, IsChained}
use Rattle.recorder.proofs.KnownText.{told}
use Rattle.cmd_run.proofs.lemmas.chain.Ending.{HasRun}

pub chained : {S G E L P : Type 0} {m : Meaning S G E L P} {first : ProfileValue} {T H F M Q : Type 0} {n : Meaning T H F M Q}
    {second : ProfileValue} (slot : ℕ) (shelf : ShelfRun) (sinks : Sinks) (result : Result ChainCounts (Stopped StimulusFault))
    → HasRun m first n second slot shelf sinks result → IsChained m first n second slot shelf sinks result
chained {m = m} {first = first} {n = n} {second = second} slot shelf sinks result (read, reads, ended) = record {
  answers = told shelf.first shelf.last slot read (λ text. Answers m first n second result text sinks) reads ended.answers;
  run = (read, reads, ended);
}
