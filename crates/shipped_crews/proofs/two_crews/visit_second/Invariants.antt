use Rattle.worker_pool.specs.Crews.{room_name}
use Rattle.shipped_crews.proofs.two_crews.visit_second.Given as goal

abbrev pub ghosts-visit_two : goal.ghosts-visit_two
ghosts-visit_two g a = record { table = room_name a.self.room }

abbrev pub ghosts-visit_two-2 : goal.ghosts-visit_two-2
ghosts-visit_two-2 g a = record { table = room_name a.self.room }

abbrev pub ghosts-visit_two-3 : goal.ghosts-visit_two-3
ghosts-visit_two-3 g a = record { table = room_name a.self.room }
