use Rattle.std.proofs.Common.{◌≡◌, length}
use Rattle.thread_tests.proofs.pool_tests.passes.many_bytes.Given as goal

abbrev pub invariant-each : goal.invariant-each
invariant-each g l = length l.bytes.items ≡ l.i
