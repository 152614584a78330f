use Rattle.det_values.proofs.spares.Spares.keep.Given as goal

abbrev pub decreases-each : goal.decreases-each
decreases-each g l = goal.left-each g l
