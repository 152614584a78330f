use Rattle.std.proofs.Common.{◌≡◌, ◌%◌, false, sym, ap, ◌∙◌, rules, arith, w64}
use Rattle.std.specs.Prelude.{nat_eq}
use Rattle.std.proofs.lemmas.Bool.Decides.{nat_tests}
use Rattle.std.proofs.lemmas.Int.{to_z-of_z}
use mir.Val.{SFits}
use Rattle.job_shared.specs.Filter.{step_towards}
use Rattle.jobs.specs.cloud.Meaning.{particle_after_pull}
use Rattle.jobs.proofs.lemmas.cloud.Pulls.{pulled_to}
use Rattle.jobs.proofs.cloud.cloud_job.particle_after_pull.Goals as goal

pub returns-else-word-eq0-clause-particle : goal.returns-else-word-eq0-clause-particle
returns-else-word-eq0-clause-particle c key at =
    let e = c.args.particle.now in
    let best = c.in-Some.best in
    let w = c.get_random-word.result in
    let other : nat_eq (w % 8) 0 ≡ false = grind (arith, nat_tests) in
    let fx : SFits w64 c.step_towards.result = search rules in
    let fy : SFits w64 c.step_towards-else-word-eq0.result = search rules in
    let x : c.step_towards.result ≡ step_towards e.x best.x 3 = search (rules, c.step_towards.ensures.step) in
    let y : c.step_towards-else-word-eq0.result ≡ step_towards e.y best.y 3 = search (rules, c.step_towards-else-word-eq0.ensures.step) in
    (λ i. record {
      number = e.number;
      x = (to_z-of_z w64 c.step_towards.result fx ∙ x) i;
      y = (to_z-of_z w64 c.step_towards-else-word-eq0.result fy ∙ y) i;
    })
    ∙ sym (pulled_to best e w other)
    ∙ ap (λ o. particle_after_pull o e w) (sym c.in-Some.is)
    ∙ ap (particle_after_pull c.args.carry e) (c.get_random-word.ensures.word key 0 at)
