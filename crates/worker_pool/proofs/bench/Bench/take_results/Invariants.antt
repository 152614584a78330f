use Rattle.worker_pool.proofs.bench.Bench.take_results.Given as goal

abbrev pub decreases-each : goal.decreases-each
decreases-each g l = goal.left-each g l
