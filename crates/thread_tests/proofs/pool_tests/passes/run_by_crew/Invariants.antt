use Rattle.worker_pool.specs.Crews.{room_name}
use Rattle.thread_tests.proofs.pool_tests.passes.run_by_crew.Given as goal

abbrev pub ghosts-run_with_crew : goal.ghosts-run_with_crew
ghosts-run_with_crew g a = record { table = room_name a.room }
