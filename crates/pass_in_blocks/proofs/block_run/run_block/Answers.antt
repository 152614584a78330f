use Rattle.std.proofs.Common.{rules, ◌≡◌, ◌+◌, ◌*◌, length, take, drop, List, ap, ◌∙◌, sym, refl, arith}
use Rattle.job.specs.Pass.{block_size, in_block}
use Rattle.pass_in_blocks.specs.Steps.{pass_result, none_in, added_to}
use Rattle.pass_in_blocks.proofs.Running.{goes_on, stops}
use Rattle.pass_in_blocks.proofs.Sound.{in_pass, has_room}
use Rattle.pass_in_blocks.proofs.block_run.run_block.Goals as goal

pub step-requires-clause-room : goal.step-requires-clause-room
step-requires-clause-room g c =
    has_room g.met.J.Job.laws c.args.pass.now c.requires.ready c.args.block c.run.k c.block.result.now c.block.ensures
    (omega (arith, c.run-test.true))
    (pass_result c.run.elements.items c.run.draws.items c.run.part)
    (ap (λ n. added_to g.J.Job.meaning c.args.pass.now n (take c.run.k c.block.result.now) (none_in g.J.Job.meaning c.args.pass.now))
    (sym c.first_in.ensures.first) ∙ c.run.invariant)

pub returns-in-Refused-clause-answer : goal.returns-in-Refused-clause-answer
returns-in-Refused-clause-answer g c = let m = g.J.Job.meaning in let t = c.args.pass.now in let first = c.first_in.result in
    let came = stops m t first (first + c.run.k) c.block.result.now (none_in m t) c.run.k 1 refl (omega (arith, c.run-test.true))
    (pass_result c.run.elements.items c.run.draws.items c.run.part) (record { element = c.in-Refused.element; code = c.in-Refused.code })
    c.run.invariant (search rules) in
    sym came ∙ (λ i. added_to m t (c.first_in.ensures.first i) (c.block.ensures i) (none_in m t))

pub run-preserved : goal.run-preserved
run-preserved g c = let m = g.J.Job.meaning in let t = c.args.pass.now in let first = c.first_in.result in
    goes_on m t first (first + c.run.k) c.block.result.now (none_in m t) c.run.k 1 refl (omega (arith, c.run-test.true))
    (pass_result c.run.elements.items c.run.draws.items c.run.part)
    (pass_result c.step.new.elements.items c.step.new.draws.items c.step.new.part) c.run.invariant (search rules)
