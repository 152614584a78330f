use Rattle.std.proofs.Common.{◌≡◌, ◌≤◌, length}
use Rattle.det_values.specs.Values.{ProfileValue}
use Rattle.twins.specs.TwinFrames.{AreKnown}
use Rattle.thread_tests.proofs.twin_tests.two_copies.inputs.Given as goal

abbrev pub invariant-inputs : goal.invariant-inputs
invariant-inputs l = record {
  many : length l.inputs ≡ l.counter;
  few : l.count ≤ 1000;
  known : (profile : ProfileValue) → AreKnown profile l.inputs;
}
