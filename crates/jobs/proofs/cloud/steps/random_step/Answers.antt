use Rattle.std.proofs.Common.{◌≡◌, ℕ, ◌+◌, ◌-◌, ◌*◌, ◌^◌, min, Some, sym, ap, ◌∙◌, subst, arith}
use Rattle.det_client.specs.element_random.RandomStreams.{StandsFor}
use Rattle.jobs.specs.cloud.Steps.{lands, step_of, landing, words_drawn}
use Rattle.jobs.proofs.lemmas.cloud.Landings.{landed, missed, never}
use Rattle.jobs.proofs.cloud.steps.random_step.Goals as goal

-- the try of this turn
here : (c : goal.Then-lands) (key : ℕ) → StandsFor c.args.random.now key 0 → landing c.args.spread key ≡ Some c.loop.counter
here c key at =
    let is = c.try_step-step.ensures.step key (2 * c.loop.counter) (c.loop.invariant.reads key at) in
    landed c.args.spread key c.loop.counter (landing c.args.spread key) c.loop-test.true (c.loop.invariant.left key at)
    (ap (lands c.args.spread) (sym is) ∙ sym c.lands.ensures ∙ c.if-lands.true)

pub returns-then-lands-clause-step : goal.returns-then-lands-clause-step
returns-then-lands-clause-step c key at =
    c.try_step-step.ensures.step key (2 * c.loop.counter) (c.loop.invariant.reads key at)
    ∙ ap (step_of c.args.spread key) (sym (here c key at))

pub returns-then-lands-clause-draws : goal.returns-then-lands-clause-draws
returns-then-lands-clause-draws c key at =
    let drawn = (c.try_step-step.ensures.goes_on key (2 * c.loop.counter) (c.loop.invariant.reads key at)).draws in
    let few : min (2 * c.loop.counter + 2) (2 ^ 64 - 1) ≡ 2 * c.loop.counter + 2 = omega arith in
    drawn ∙ few ∙ ap words_drawn (sym (here c key at))

pub loop-preserved : goal.loop-preserved
loop-preserved c = record {
  reads = λ key at.
      let two : 2 * c.loop.counter + 2 ≡ 2 * (c.loop.counter + 1) = omega arith in
      subst (λ (n : ℕ). StandsFor c.try_step-step.new.random key n) two
      (c.try_step-step.ensures.goes_on key (2 * c.loop.counter) (c.loop.invariant.reads key at));
  left = λ key at.
      let is = c.try_step-step.ensures.step key (2 * c.loop.counter) (c.loop.invariant.reads key at) in
      missed c.args.spread key c.loop.counter (landing c.args.spread key) c.loop-test.true (c.loop.invariant.left key at)
      (ap (lands c.args.spread) (sym is) ∙ sym c.lands.ensures ∙ c.if-lands.false);
}

pub returns-clause-step : goal.returns-clause-step
returns-clause-step c key at =
    let none = never c.args.spread key c.loop.counter (landing c.args.spread key) c.loop-test.false (c.loop.invariant.left key at) in
    ap (step_of c.args.spread key) (sym none)

pub returns-clause-draws : goal.returns-clause-draws
returns-clause-draws c key at =
    let none = never c.args.spread key c.loop.counter (landing c.args.spread key) c.loop-test.false (c.loop.invariant.left key at) in
    let all : min (2 * c.loop.counter) (2 ^ 64 - 1) ≡ 16 = omega arith in
    (c.loop.invariant.reads key at).draws ∙ all ∙ ap words_drawn (sym none)
