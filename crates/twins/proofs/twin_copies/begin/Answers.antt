use Rattle.std.proofs.Common.{refl}
use Rattle.twins.proofs.twin_copies.begin.Goals as goal

pub start-requires-clause-good : goal.start-requires-clause-good
start-requires-clause-good g c = c.requires.good

pub returns-clause-engine : goal.returns-clause-engine
returns-clause-engine g c = record {
  stands = c.in_ok-engine.ensures.stands;
  going = λ _. c.in_ok-engine.ensures.going;
}

pub returns-clause-rest : goal.returns-clause-rest
returns-clause-rest g c = refl
