use Rattle.job.proofs.pass_room.PassRoom.keep_frame.Given as goal

abbrev pub decreases-each : goal.decreases-each
decreases-each g l = goal.left-each g l
