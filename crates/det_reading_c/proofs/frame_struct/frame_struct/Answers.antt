use Rattle.det_reading_c.proofs.frame_struct.frame_struct.Goals as goal

pub returns-in-Header-clause-parts : goal.returns-in-Header-clause-parts
returns-in-Header-clause-parts c frame s = absurd (rw c.in-Header.is at s)

pub returns-in-Frame-clause-parts : goal.returns-in-Frame-clause-parts
returns-in-Frame-clause-parts c frame s = c.kind_struct.ensures.parts frame (rw c.in-Frame.is at s)
