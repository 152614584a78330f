use Rattle.std.proofs.Common.{◌≡◌, Option, None, refl, rules, subst, ◌∙◌, arith}
use Rattle.copies.specs.declared.verdict.Verdict.{Verdict}
use Rattle.twins.specs.TakenRows.{Judged}
use Rattle.twins.proofs.exchange.exchange_all.Goals as goal

pub turns-init : goal.turns-init
turns-init g c = record {
  sends = record { twins = c.requires.sides.twins; numbers = refl };
  agreed = c.requires.sides.takes.agreed;
  within = omega (arith, c.requires.begins);
}

pub turns-preserved : goal.turns-preserved
turns-preserved g c =
    let none : c.exchange-stood.result.1 ≡ None = search rules in
    let sends = c.exchange-stood.ensures.sends in
    record {
      sends = record { twins = sends.twins; numbers = sends.numbers ∙ c.turns.invariant.sends.numbers };
      agreed =
          subst (λ (found : Option Verdict). Judged found c.args.queues.now c.exchange-stood.result.0.taker) none
          c.exchange-stood.ensures.takes.judged;
      within = search rules;
    }

pub returns-then-sides-rows-clause-rows : goal.returns-then-sides-rows-clause-rows
returns-then-sides-rows-clause-rows g c = search rules
