use Rattle.worker_pool.specs.Crews.{room_name}
use Rattle.shipped_crews.proofs.two_crews.with_two_crews.Given as goal

abbrev pub ghosts-visit_before : goal.ghosts-visit_before
ghosts-visit_before g a = record { table = room_name a.self.room }

abbrev pub ghosts-visit_before-2 : goal.ghosts-visit_before-2
ghosts-visit_before-2 g a = record { table = room_name a.self.room }

abbrev pub ghosts-visit_before-3 : goal.ghosts-visit_before-3
ghosts-visit_before-3 g a = record { table = room_name a.self.room }
