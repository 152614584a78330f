use Rattle.std.proofs.Common.{arith}
use Rattle.std.proofs.lemmas.Grind.{common_steps}
use Rattle.std.proofs.lemmas.Slice.{drop-put_mid}
use Rattle.det_client_c.proofs.Given.{arrived_more}
use Rattle.det_client_c.proofs.window.det_window_arrive.Goals as goal

pub returns-clause-rings : goal.returns-clause-rings
returns-clause-rings c = grind (arith, common_steps)

pub returns-clause-given : goal.returns-clause-given
returns-clause-given c = λ taken. arrived_more _ _ c.args.value (returns-clause-rings c taken)

pub returns-clause-behind : goal.returns-clause-behind
returns-clause-behind c = grind (arith, common_steps, drop-put_mid)
