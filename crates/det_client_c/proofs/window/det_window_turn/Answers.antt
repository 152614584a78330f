use Rattle.std.proofs.Common.{arith, []}
use Rattle.std.proofs.lemmas.Grind.{common_steps}
use Rattle.det_client_c.proofs.Given.{turned_more, window_shown}
use Rattle.det_client_c.proofs.window.det_window_turn.Goals as goal

pub returns-clause-rings : goal.returns-clause-rings
returns-clause-rings c = grind (arith, common_steps)

pub returns-clause-given : goal.returns-clause-given
returns-clause-given c = λ taken. turned_more _ _ (returns-clause-rings c taken)

pub returns-clause-shows : goal.returns-clause-shows
returns-clause-shows c = λ taken spec rounds arrived given.
    window_shown _ spec _ [] (returns-clause-given c taken spec rounds arrived given)
