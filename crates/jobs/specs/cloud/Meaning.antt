-- The particle cloud: a random search around a target, after the manner of particle swarms.
use Rattle.std.specs.Prelude.{ℕ, ℤ, pos, negsuc, ◌+◌, ◌%◌, ◌+ℤ◌, ◌-ℤ◌, List, ◌++◌, length, map, min}
use Rattle.std.specs.Prelude.{Option, None, Some, Result, Ok, Err, Bool, false, ◌&&◌, ◌||◌, not}
use Rattle.std.specs.Prelude.{◌==◌, if◌then◌else◌, nat_lt, int_lt, unsigned_abs, unwrap_or}
use Rattle.std.proofs.Common.{lit≤}
use Rattle.std.specs.List.{range_with_len}
use Rattle.std.specs.Int.{int_min, int_max}
use Rattle.det_client.specs.element_random.RandomStreams.{key, word}
use Rattle.job.specs.declared.job_results.Conclusion.{Conclusion}
use Rattle.job.specs.Meaning.{Meaning, Preparation, ElementResult}
use Rattle.job_shared.specs.Params.{is_param, natural_param, few_events}
use Rattle.job_shared.proofs.Clamps.{natural_least, natural_most, events_few}
use Rattle.job_shared.specs.Parts.{joined_by}
use Rattle.job_shared.specs.Samples.{newest_sample}
use Rattle.job_shared.specs.Bytes.{u32_bytes, u64_bytes, i64_bytes}
use Rattle.job_shared.specs.Filter.{step_towards}
use Rattle.jobs.specs.declared.cloud.cloud.Cloud.{Cloud}
use Rattle.jobs.specs.declared.cloud.particle.Particle.{Particle}
use Rattle.jobs.specs.declared.cloud.particle.Target.{Target}
use Rattle.jobs.specs.declared.cloud.best.Best.{Best}
use Rattle.jobs.specs.declared.cloud.cloud_job.Finished.{Finished}
use Rattle.jobs.specs.declared.cloud.steps.Step.{Step}
use Rattle.jobs.specs.cloud.Steps.{landing, step_of, words_drawn}

-- parameters: 0 particles, 1 to 65,536; 1 spread, 1 to 1,000,000; 2 reseed, 0 to 1,000,000; 3 far,
-- 0 to 4 * 10^12
abbrev pub bad_param : List ℤ → ℕ → Option ℕ
bad_param ps events =
    if not (is_param ps 0 (pos 1) (pos 65536)) then Some 0
    else if not (is_param ps 1 (pos 1) (pos 1000000)) then Some 1
    else if not (is_param ps 2 (pos 0) (pos 1000000)) then Some 2
    else if not (is_param ps 3 (pos 0) (pos 4000000000000)) then Some 3
    else if nat_lt 4 (length ps) then Some 4
    else None

abbrev pub made : List ℤ → ℕ → Cloud
made ps events = record {
  particles = natural_param ps 0 1 65536;
  spread = natural_param ps 1 1 1000000;
  reseed = natural_param ps 2 0 1000000;
  far = natural_param ps 3 0 4000000000000;
  events = few_events events;
  few = natural_most ps 0 1 65536 (lit≤ tt);
  some_spread = natural_least ps 1 1 1000000;
  small_spread = natural_most ps 1 1 1000000 (lit≤ tt);
  short = events_few events;
}

abbrev pub first_particle : ℕ → Particle
first_particle i = record { number = i; x = pos 0; y = pos 0 }

abbrev pub first_particles : Cloud → List Particle
first_particles j = map first_particle (range_with_len 0 j.particles)

-- a negative newest sample of event 2 refuses the cycle
abbrev pub is_held : Option ℤ → Bool
is_held None = false
is_held (Some v) = int_lt v (pos 0)

-- the job draws a new seed in each cycle whose number is a multiple of `reseed`, unless that is 0
abbrev pub reseeds : Cloud → ℕ → Bool
reseeds j cycle = not (j.reseed == 0) && (cycle % j.reseed == 0)

-- the first random number of the client's own stream
abbrev pub seed_of : Cloud → ℕ → ℕ → ℕ
seed_of j seed cycle = if reseeds j cycle then word (key seed cycle 255 0) 0 else seed

abbrev pub target_of : List (List ℤ) → Target
target_of windows = record {
  tx = unwrap_or (newest_sample windows 0) (pos 0);
  ty = unwrap_or (newest_sample windows 1) (pos 0);
}

abbrev pub prepared : Cloud → List (List ℤ) → ℕ → ℕ → Result (Preparation Target) ℕ
prepared j windows seed cycle =
    if is_held (newest_sample windows 2) then Err 1
    else Ok (record { plan = target_of windows; seed = seed_of j seed cycle })

abbrev pub distance : Target → ℤ → ℤ → ℕ
distance target x y = unsigned_abs (x -ℤ target.tx) + unsigned_abs (y -ℤ target.ty)

-- a coordinate after a step, clamped to -10^12 to 10^12
abbrev pub coordinate_after : ℤ → ℤ → ℤ
coordinate_after z by = int_max (negsuc 999999999999) (int_min (pos 1000000000000) (z +ℤ by))

abbrev pub particle_after_step : Particle → Step → Particle
particle_after_step e s = record e { x = coordinate_after e.x s.dx; y = coordinate_after e.y s.dy }

-- an eighth of the way to the best particle; no way if there is none, or for one of eight random
-- numbers
abbrev pub particle_after_pull : Option Best → Particle → ℕ → Particle
particle_after_pull None e w = e
particle_after_pull (Some best) e w =
    if w % 8 == 0 then e else record e { x = step_towards e.x best.x 3; y = step_towards e.y best.y 3 }

-- a particle after a pass, from the key of its stream
abbrev pub after_pass : Cloud → Option Best → ℕ → Particle → ℕ → Particle
after_pass j carry pass e k =
    if pass == 0 then particle_after_step e (step_of j.spread k (landing j.spread k))
    else particle_after_pull carry e (word k 0)

abbrev pub best_of : Target → Particle → Best
best_of target e = record {
  distance = distance target e.x e.y;
  number = e.number;
  x = e.x;
  y = e.y;
}

abbrev pub placed : Target → Particle → ElementResult Particle (Option Best)
placed target e = record { element = e; part = Some (best_of target e) }

abbrev pub drawn : Cloud → ℕ → ℕ → ℕ
drawn j pass k = if pass == 0 then words_drawn (landing j.spread k) else 1

-- nearer to the target, or as near and of a lesser number
abbrev pub is_better : Best → Best → Bool
is_better best other =
    nat_lt best.distance other.distance
    || ((best.distance == other.distance) && nat_lt best.number other.number)

-- the left one if neither is better
abbrev pub better : Best → Best → Best
better left right = if is_better right left then right else left

abbrev pub is_far : ℕ → Option Best → Bool
is_far far None = false
is_far far (Some best) = nat_lt far best.distance

-- one more, saturating at the greatest u32
abbrev pub one_more : Finished → ℕ
one_more g = min (g.cycles + 1) 4294967295

abbrev pub best_bytes : Option Best → List ℕ
best_bytes None = u32_bytes 0 ++ i64_bytes (pos 0) ++ i64_bytes (pos 0) ++ u64_bytes 0
best_bytes (Some best) =
    u32_bytes best.number ++ i64_bytes best.x ++ i64_bytes best.y ++ u64_bytes best.distance

abbrev pub output : Option Best → ℕ → List ℕ
output part finished = best_bytes part ++ u32_bytes finished

abbrev pub concluded : Cloud → Finished → Option Best → Result (Conclusion Finished) ℕ
concluded j g part =
    if is_far j.far part then Err 2
    else Ok (record { globals = record { cycles = one_more g }; output = output part (one_more g) })

abbrev pub shown : Particle → List ℕ
shown e = u32_bytes e.number ++ i64_bytes e.x ++ i64_bytes e.y

abbrev pub meaning : Meaning Cloud Finished Particle Target (Option Best)
meaning = record {
  bad_param = bad_param;
  made = made;
  events = λ j. j.events;
  started = λ j seed. record {
    globals = record { cycles = 0 };
    elements = first_particles j;
    seed = seed;
  };
  prepared = λ j globals es windows seed cycle time next. prepared j windows seed cycle;
  passes_of = λ j plan. 2;
  unit_part = λ j. None;
  worked = λ j plan carry pass e k. Ok (placed plan (after_pass j carry pass e k));
  drawn = λ j plan carry pass e k. drawn j pass k;
  joined = λ j left right. joined_by better left right;
  concluded = λ j globals plan part. concluded j globals part;
  shown = λ j e. shown e;
}
