use Rattle.worker_pool.specs.Crews.{room_name}
use Rattle.shipped_crews.proofs.one_crew.with_crew.Given as goal

abbrev pub ghosts-visit : goal.ghosts-visit
ghosts-visit g a = record { table = room_name a.self.room }

abbrev pub ghosts-visit-2 : goal.ghosts-visit-2
ghosts-visit-2 g a = record { table = room_name a.self.room }

abbrev pub ghosts-visit-3 : goal.ghosts-visit-3
ghosts-visit-3 g a = record { table = room_name a.self.room }
