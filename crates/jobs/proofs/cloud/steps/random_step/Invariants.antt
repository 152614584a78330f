use Rattle.std.proofs.Common.{◌≡◌, ℕ, ◌-◌, ◌*◌}
use Rattle.det_client.specs.element_random.RandomStreams.{StandsFor}
use Rattle.jobs.specs.cloud.Steps.{landing, landing_from}
use Rattle.jobs.proofs.cloud.steps.random_step.Given as goal

abbrev pub invariant-loop : goal.invariant-loop
invariant-loop l = record {
  reads : (key : ℕ) → StandsFor l.fn.random key 0 → StandsFor l.random key (2 * l.counter);
  left : (key : ℕ) → StandsFor l.fn.random key 0 → landing l.spread key ≡ landing_from l.spread key l.counter (8 - l.counter);
}
