use Rattle.worker_pool.specs.Crews.{room_name}
use Rattle.bench_pool.proofs.time_pass.time_crew_pass.Given as goal

abbrev pub ghosts-time_with_crew : goal.ghosts-time_with_crew
ghosts-time_with_crew g a = record { table = room_name a.room }
