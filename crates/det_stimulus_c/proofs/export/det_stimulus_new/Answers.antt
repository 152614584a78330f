use Rattle.std.proofs.Common.{[], refl, arith}
use Rattle.stimulus.specs.Places.{First}
use Rattle.det_stimulus_c.proofs.export.det_stimulus_new.Goals as goal

pub returns-clause-taken : goal.returns-clause-taken
returns-clause-taken c =
    record { head = []; items = []; place = First; counted = refl; lines = refl; few = omega arith; resumes = λ tail. refl }
