use Rattle.det_reading_c.proofs.frame_struct.cycle_struct.Goals as goal

pub returns-in-Finished-clause-parts : goal.returns-in-Finished-clause-parts
returns-in-Finished-clause-parts c events given value i o =
    c.finished_frame.ensures.parts events given value i (rw c.in-Finished.is at o)

pub returns-in-Refused-clause-parts : goal.returns-in-Refused-clause-parts
returns-in-Refused-clause-parts c events given value i o =
    c.refused_frame.ensures.parts events given value i (rw c.in-Refused.is at o)
