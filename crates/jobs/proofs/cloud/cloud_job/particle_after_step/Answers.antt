use Rattle.std.proofs.Common.{◌≡◌, ap, ◌∙◌, rules, w64}
use Rattle.std.proofs.lemmas.Int.{to_z-of_z}
use mir.Val.{SFits}
use Rattle.jobs.specs.cloud.Meaning.{coordinate_after, particle_after_step}
use Rattle.jobs.proofs.cloud.cloud_job.particle_after_step.Goals as goal

pub returns-clause-particle : goal.returns-clause-particle
returns-clause-particle c key at =
    let e = c.args.particle.now in
    let step = c.random_step-step.result in
    let fx : SFits w64 c.coordinate_after.result = search rules in
    let fy : SFits w64 c.coordinate_after-2.result = search rules in
    let x : c.coordinate_after.result ≡ coordinate_after e.x step.dx = search (rules, c.coordinate_after.ensures.coordinate_after) in
    let y : c.coordinate_after-2.result ≡ coordinate_after e.y step.dy = search (rules, c.coordinate_after-2.ensures.coordinate_after) in
    (λ i. record {
      number = e.number;
      x = (to_z-of_z w64 c.coordinate_after.result fx
          ∙ x) i;
      y = (to_z-of_z w64 c.coordinate_after-2.result fy ∙ y) i;
    })
    ∙ ap (particle_after_step e) (c.random_step-step.ensures.step key at)
