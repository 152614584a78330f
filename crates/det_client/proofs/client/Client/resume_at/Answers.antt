use Rattle.std.proofs.Common.{refl, arith}
use Rattle.std.proofs.lemmas.Bool.Decides.{nat_tests}
use Rattle.det_client.proofs.RequestLists.{resumed_life}
use Rattle.det_client.proofs.CallLists.{comes_resumed}
use Rattle.det_client.proofs.client.Client.resume_at.Goals as goal

pub returns-clause-life : goal.returns-clause-life
returns-clause-life c = resumed_life _ _ (grind (arith, nat_tests)) refl refl

pub returns-clause-calls : goal.returns-clause-calls
returns-clause-calls c =
    comes_resumed _ _ _ refl (record { state = refl; draws = refl }) (resumed_life _ _ (grind (arith, nat_tests)) refl refl)
