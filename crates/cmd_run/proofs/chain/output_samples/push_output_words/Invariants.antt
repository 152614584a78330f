use Rattle.std.proofs.Common.{◌≡◌, ◌≤◌, ◌-◌, ◌++◌, length}
use Rattle.cmd_run.specs.chain.OutputSamples.{samples_from}
use Rattle.cmd_run.proofs.chain.output_samples.push_output_words.Given as goal

abbrev pub invariant-words : goal.invariant-words
invariant-words l = record {
  pushed : l.samples ++ samples_from l.event (l.events - l.event) l.rest ≡ samples_from 0 l.events l.output;
  few : length l.samples ≤ l.event;
}
