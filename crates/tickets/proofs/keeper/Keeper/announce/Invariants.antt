use Rattle.tickets.proofs.keeper.Keeper.announce.Given as goal

abbrev pub ghosts-announce_at : goal.ghosts-announce_at
ghosts-announce_at g a = record { work = a.work.now }
