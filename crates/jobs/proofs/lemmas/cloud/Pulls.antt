-- A particle after pass 1.
use Rattle.std.proofs.Common.{◌≡◌, ℕ, ◌%◌, Some, false, refl}
use Rattle.std.specs.Prelude.{nat_eq}
use Rattle.job_shared.specs.Filter.{step_towards}
use Rattle.jobs.specs.declared.cloud.particle.Particle.{Particle}
use Rattle.jobs.specs.declared.cloud.best.Best.{Best}
use Rattle.jobs.specs.cloud.Meaning.{particle_after_pull}

pub pulled_to : (best : Best) (e : Particle) (w : ℕ) → nat_eq (w % 8) 0 ≡ false →
    particle_after_pull (Some best) e w ≡ record { number = e.number; x = step_towards e.x best.x 3; y = step_towards e.y best.y 3 }
pulled_to best e w h = rw h refl
