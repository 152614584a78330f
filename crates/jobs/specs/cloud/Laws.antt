-- The cloud keeps the laws of a job.
use Rattle.std.proofs.Common.{◌≡◌, ℕ, zero, suc, ℤ, pos, negsuc, ◌+◌, ◌*◌, ◌%◌, ◌<◌, ◌≤◌, ◌-ℤ◌}
use Rattle.std.proofs.Common.{List, take, drop, length, Option, None, Some, Result, Ok, Err, Bool}
use Rattle.std.proofs.Common.{true, false, cond, refl, ap, sym, subst, arith}
use Rattle.std.specs.Prelude.{◌≤ℤ◌, unwrap_or, unsigned_abs, nat_eq}
use Rattle.std.specs.List.{All}
use Rattle.std.proofs.lemmas.Bool.Decides.{nat_tests}
use Rattle.std.proofs.lemmas.Int.{ints, clamps}
use Rattle.det_values.specs.Limits.{IsSampleValue}
use Rattle.job.specs.event_cache.Windows.{AreWindows}
use Rattle.det_client.specs.element_random.RandomStreams.{word}
use Rattle.job.specs.declared.job_results.Conclusion.{Conclusion}
use Rattle.job.specs.Meaning.{Preparation, ElementResult}
use Rattle.job.specs.Laws.{JobLaws, CoversSome, CoversBoth}
use Rattle.job_shared.specs.Parts.{joined_by, covers_by, IsJoinable}
use Rattle.job_shared.specs.Samples.{newest_sample, IsSample}
use Rattle.job_shared.proofs.Answered.{ok_has}
use Rattle.job_shared.proofs.Apart.{u32_bytes-apart, i64_bytes-apart}
use Rattle.job_shared.proofs.Covering.{covers_both}
use Rattle.job_shared.proofs.JoinedParts.{right_unit, parts_assoc, part_few, part_joined}
use Rattle.job_shared.proofs.Made.{made_few, made_all}
use Rattle.job_shared.proofs.Moves.{towards_in_range}
use Rattle.job_shared.proofs.Windows.{newest_ok}
use Rattle.jobs.specs.declared.cloud.cloud.Cloud.{Cloud}
use Rattle.jobs.specs.declared.cloud.particle.Particle.{Particle}
use Rattle.jobs.specs.declared.cloud.particle.Target.{Target}
use Rattle.jobs.specs.declared.cloud.best.Best.{Best}
use Rattle.jobs.specs.declared.cloud.cloud_job.Finished.{Finished}
use Rattle.jobs.specs.declared.cloud.steps.Step.{Step}
use Rattle.jobs.specs.cloud.Steps.{lands, try_of, landing_from, landing, step_of, words_drawn}
use Rattle.jobs.specs.cloud.Meaning.{meaning, first_particle, first_particles, target_of, is_held}
use Rattle.jobs.specs.cloud.Meaning.{seed_of, distance, coordinate_after, particle_after_step}
use Rattle.jobs.specs.cloud.Meaning.{particle_after_pull, after_pass, best_of}
use Rattle.jobs.specs.cloud.Meaning.{drawn, is_better, better, is_far, one_more, output}
use Rattle.jobs.specs.cloud.Meaning.{shown}
use Rattle.jobs.specs.cloud.Ranges.{IsPlace, Own, Fit, IsBestOf, Covers}

-- the order of bests
better_follows : (a b c : Best) → is_better b a ≡ true → is_better c b ≡ true → is_better c a ≡ true
better_follows a b c h k = grind (arith, nat_tests)

worse_follows : (a b c : Best) → is_better b a ≡ false → is_better c b ≡ false →
    is_better c a ≡ false
worse_follows a b c h k = grind (arith, nat_tests)

better_assoc : (a b c : Best) (ba cb ca : Bool) → is_better b a ≡ ba → is_better c b ≡ cb →
    is_better c a ≡ ca → better (better a b) c ≡ better a (better b c)
better_assoc a b c true true ca p q r = rw (p, q, better_follows a b c p q) refl
better_assoc a b c true false ca p q r = rw (p, q) (rw p refl)
better_assoc a b c false true ca p q r = rw (p, q) refl
better_assoc a b c false false ca p q r = rw (p, q, worse_follows a b c p q) (rw p refl)

best_of_more : (b : Best) (n m : ℕ) → n ≤ m → m ≤ 65536 → IsBestOf b n → IsBestOf b m
best_of_more b n m h few best = let some = best.some in
    record { some = omega arith; few = few; near = best.near; place = best.place }

either : (t : Bool) (l r : Best) (a b : ℕ) → IsBestOf l a → IsBestOf r b → a + b ≤ 65536 →
    IsBestOf (cond t r l) (a + b)
either true l r a b h k few = best_of_more r b (a + b) (omega arith) few k
either false l r a b h k few = best_of_more l a (a + b) (omega arith) few h

pub cloud_parts : IsJoinable better IsBestOf
cloud_parts = record {
  assoc = λ a b c.
      better_assoc a b c (is_better b a) (is_better c b) (is_better c a) refl refl refl;
  few = λ b n h. h.few;
  more = best_of_more;
  both = λ l r a b h k few. either (is_better r l) l r a b h k few;
}

pub parts_joined : (left right whole : Option Best) → whole ≡ joined_by better left right →
    CoversBoth (covers_by IsBestOf) left right whole
parts_joined left right whole =
    covers_both (covers_by IsBestOf) (joined_by better) left right whole
    (part_joined better IsBestOf cloud_parts left right)

-- places
pub moved_in_range : (z by : ℤ) → IsSampleValue (coordinate_after z by)
moved_in_range z by = (omega (arith, ints, clamps), omega (arith, ints, clamps))

own_stepped : (j : Cloud) (e : Particle) (s : Step) → Own j e → Own j (particle_after_step e s)
own_stepped j e s own =
    record {
      number = own.number;
      place = record { x_range = moved_in_range e.x s.dx; y_range = moved_in_range e.y s.dy };
    }

own_either : (j : Cloud) (t : Bool) (a b : Particle) → Own j a → Own j b → Own j (cond t a b)
own_either j true a b h k = h
own_either j false a b h k = k

own_pulled : (j : Cloud) (carry : Option Best) (e : Particle) (w n : ℕ)
    → covers_by IsBestOf carry n → Own j e → Own j (particle_after_pull carry e w)
own_pulled j None e w n h own = own
own_pulled j (Some b) e w n h own = own_either j (nat_eq (w % 8) 0) e _ own (record {
  number = own.number;
  place = record {
    x_range = towards_in_range e.x b.x 3 own.place.x_range h.place.x_range;
    y_range = towards_in_range e.y b.y 3 own.place.y_range h.place.y_range;
  };
})

own_after : (j : Cloud) (carry : Option Best) (pass : ℕ) (e : Particle) (k : ℕ) →
    CoversSome (Covers j) carry → Own j e → Own j (after_pass j carry pass e k)
own_after j carry pass e k some own =
    own_either j (nat_eq pass 0) _ _ (own_stepped j e (step_of j.spread k (landing j.spread k)) own)
    (own_pulled j carry e (word k 0) some.0 some.2 own)

abs_few : (d : ℤ) → negsuc 1999999999999 ≤ℤ d → d ≤ℤ pos 2000000000000 →
    unsigned_abs d ≤ 2000000000000
abs_few (pos n) h k = omega (arith, ints)
abs_few (negsuc n) h k = omega (arith, ints)

apart_few : (x t : ℤ) → IsSampleValue x → IsSampleValue t → unsigned_abs (x -ℤ t) ≤ 2000000000000
apart_few x t h k = let a = h.0 in let b = h.1 in let c = k.0 in let d = k.1 in
    abs_few (x -ℤ t) (omega (arith, ints)) (omega (arith, ints))

pub distance_few : (target : Target) (x y : ℤ) → IsPlace target.tx target.ty → IsPlace x y →
    distance target x y ≤ 4000000000000
distance_few target x y h k =
    let a = apart_few x target.tx k.x_range h.x_range in
    let b = apart_few y target.ty k.y_range h.y_range in
    omega arith

pub one_best : (target : Target) (e : Particle) → IsPlace target.tx target.ty → IsPlace e.x e.y →
    IsBestOf (best_of target e) 1
one_best target e h k =
    record {
      some = omega arith;
      few = omega arith;
      near = distance_few target e.x e.y h k;
      place = k;
    }

own_first : (j : Cloud) (i : ℕ) → i < j.particles → Own j (first_particle i)
own_first j i h = record {
  number = h;
  place = record {
    x_range = (omega (arith, ints), omega (arith, ints));
    y_range = (omega (arith, ints), omega (arith, ints));
  };
}

pub own_all_first : (j : Cloud) (es : List Particle) → es ≡ first_particles j → All (Own j) es
own_all_first j es e = made_all (Own j) first_particle j.particles es e (own_first j)

or_zero : (o : Option ℤ) → IsSample o → IsSampleValue (unwrap_or o (pos 0))
or_zero None h = (omega (arith, ints), omega (arith, ints))
or_zero (Some v) h = h

fit_target : (n : ℕ) (ws : List (List ℤ)) → AreWindows n ws →
    IsPlace (target_of ws).tx (target_of ws).ty
fit_target n ws h = record {
  x_range = or_zero (newest_sample ws 0) (newest_ok ws 0 h.values);
  y_range = or_zero (newest_sample ws 1) (newest_ok ws 1 h.values);
}

-- facts about a result that isn't a refusal
answered : {T : Type 0} (P : T → Type 0) (t : Bool) (code : ℕ) (x y : T) → P x →
    ◌≡◌ {A = Result T ℕ} (cond t (Err code) (Ok x)) (Ok y) → P y
answered P true code x y h e = cc
answered P false code x y h e = ok_has P e h

length-output : (part : Option Best) (n : ℕ) → length (output part n) ≤ 1048576
length-output None n = omega arith
length-output (Some b) n = omega arith

apart : (j : Cloud) (a b : Particle) → Own j a → Own j b → shown a ≡ shown b → a ≡ b
apart j a b p q e =
    let few : j.particles ≤ 65536 = j.few in
    let m = p.number in let n = q.number in
    let number : a.number ≡ b.number =
    u32_bytes-apart a.number b.number (omega arith) (omega arith) (ap (take 4) e) in
    let x : a.x ≡ b.x = i64_bytes-apart a.x b.x p.place.x_range q.place.x_range
    (ap (λ xs. take 8 (drop 4 xs)) e) in
    let y : a.y ≡ b.y = i64_bytes-apart a.y b.y p.place.y_range q.place.y_range (ap (drop 12) e) in
    λ i. record { number = number i; x = x i; y = y i }

words_either : (t : Bool) (i bound : ℕ) (rest : Option ℕ) → 2 * i + 2 ≤ bound →
    words_drawn rest ≤ bound → words_drawn (cond t (Some i) rest) ≤ bound
words_either true i bound rest h k = h
words_either false i bound rest h k = k

words_few : (spread k i tries : ℕ) →
    words_drawn (landing_from spread k i tries) ≤ 16 + 2 * (i + tries)
unfolding landing_from
words_few spread k i zero = omega arith
words_few spread k i (suc tries) =
    let rest : words_drawn (landing_from spread k (i + 1) tries) ≤ 16 + 2 * ((i + 1) + tries) =
    words_few spread k (i + 1) tries in
    words_either (lands spread (try_of spread k (2 * i))) i (16 + 2 * (i + suc tries))
    (landing_from spread k (i + 1) tries) (omega arith) (omega arith)

few_by : (t : Bool) (n : ℕ) → n ≤ 65535 → cond t n 1 ≤ 65535
few_by true n h = h
few_by false n h = omega arith

drawn_few : (j : Cloud) (pass k : ℕ) → drawn j pass k ≤ 65535
drawn_few j pass k = let few = words_few j.spread k 0 8 in
    few_by (nat_eq pass 0) (words_drawn (landing j.spread k)) (omega arith)

pub cloud_laws : JobLaws meaning Covers Own Fit
cloud_laws = record {
  events_made = λ ps n few. omega arith;
  assoc = λ j. parts_assoc better IsBestOf cloud_parts;
  left_unit = λ j p. refl;
  right_unit = λ j. right_unit better;
  covers_few = λ j. part_few better IsBestOf cloud_parts;
  covers_unit = λ j. omega arith;
  covers_run = λ j plan carry pass e key w fit own below carried h. ok_has
      (λ (x : ElementResult Particle (Option Best)). Covers j x.part 1) h
      (one_best plan (after_pass j carry pass e key) fit
      (own_after j carry pass e key carried own).place);
  covers_joined = λ j. part_joined better IsBestOf cloud_parts;
  own_run = λ j plan carry pass e key w fit own below carried h. ok_has
      (λ (x : ElementResult Particle (Option Best)). Own j x.element) h
      (own_after j carry pass e key carried own);
  own_started = λ j seed. own_all_first j (first_particles j) refl;
  fit_prepared = λ j globals es windows seed cycle time next p own few ws h. answered
      (λ (x : Preparation Target). Fit j x.plan) (is_held (newest_sample windows 2)) 1
      (record { plan = target_of windows; seed = seed_of j seed cycle }) p
      (fit_target j.events windows ws) h;
  shown_few = λ j e own. omega arith;
  shown_apart = λ j a b p q e. apart j a b p q e;
  output_few = λ j globals plan part d h. answered
      (λ (x : Conclusion Finished). length x.output ≤ 1048576) (is_far j.far part) 2
      (record {
        globals = record { cycles = one_more globals };
        output = output part (one_more globals);
      }) d (length-output part (one_more globals))
      h;
  few_started = λ j seed. made_few first_particle j.particles j.few;
  fit_passes = λ j plan fit. (omega arith, omega arith);
  drawn_few = λ j plan carry pass e key. drawn_few j pass key;
}
