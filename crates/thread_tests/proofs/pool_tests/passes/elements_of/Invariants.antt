use Rattle.std.proofs.Common.{◌≡◌, take}
use Rattle.thread_tests.proofs.pool_tests.passes.elements_of.Given as goal

abbrev pub invariant-each : goal.invariant-each
invariant-each g l = l.elements ≡ take l.byte-index l.bytes
