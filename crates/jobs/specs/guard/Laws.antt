-- The guard keeps the laws of a job.
use Rattle.std.proofs.Common.{◌≡◌, ℕ, ℤ, ◌+◌, ◌*◌, ◌<◌, ◌≤◌, List, [], ◌∷◌, take, drop, length}
use Rattle.std.proofs.Common.{Option, None, Some, Result, Ok, Err, Bool, true, false, cond, ltb}
use Rattle.std.proofs.Common.{refl, ap, sym, ◌∙◌, subst, append_assoc, length-append, arith}
use Rattle.std.specs.Prelude.{nat_le}
use Rattle.std.specs.List.{All, flat_map}
use Rattle.std.proofs.lemmas.List.{append-nil}
use Rattle.std.proofs.lemmas.Bool.Decides.{nat_tests}
use Rattle.std.proofs.lemmas.Int.{ints}
use Rattle.job.specs.declared.job_results.Conclusion.{Conclusion}
use Rattle.job.specs.Meaning.{Preparation, ElementResult}
use Rattle.job.specs.Laws.{JobLaws, CoversBoth}
use Rattle.job_shared.specs.Bytes.{u32_bytes}
use Rattle.job_shared.specs.Samples.{IsSample, AreSamples}
use Rattle.job_shared.proofs.Answered.{ok_has}
use Rattle.job_shared.proofs.Apart.{u16_bytes-apart, u32_bytes-apart, i64_bytes-apart}
use Rattle.job_shared.proofs.Covering.{covers_both}
use Rattle.job_shared.proofs.Made.{made_few, made_all}
use Rattle.job_shared.proofs.Windows.{newest_are_samples, sample_ok}
use Rattle.jobs.specs.declared.guard.guard.Guard.{Guard}
use Rattle.jobs.specs.declared.guard.channel.Channel.{Channel}
use Rattle.jobs.specs.declared.guard.guard_job.Total.{Total}
use Rattle.jobs.specs.declared.guard.guard_job.Plan.{Plan}
use Rattle.jobs.specs.guard.Bounds.{contains}
use Rattle.jobs.specs.guard.Meaning.{meaning, first_channel, first_channels, event_of, reading}
use Rattle.jobs.specs.guard.Meaning.{channel_after, joined, next_bytes, output, total_after}
use Rattle.jobs.specs.guard.Meaning.{shown}
use Rattle.jobs.specs.guard.Ranges.{Own, Fit, IsPartOf, Covers}

-- a fact about both results of a choice is a fact about its result
chosen : (P : ElementResult Channel (List ℕ) → Type 0) (b c : Bool)
    (x y w : ElementResult Channel (List ℕ)) → P x → (c ≡ false → P y)
    → ◌≡◌ {A = Result (ElementResult Channel (List ℕ)) ℕ}
    (cond b (Ok x) (cond c (Err 1) (Ok y))) (Ok w)
    → P w
chosen P true c x y w px py h = ok_has P h px
chosen P false true x y w px py h = cc
chosen P false false x y w px py h = ok_has P h (py refl)

part_judged : (j : Guard) (e : Channel) (r : Option ℤ) (w : ElementResult Channel (List ℕ)) →
    channel_after j e r ≡ Ok w → IsPartOf w.part 1
part_judged j e None w h =
    ok_has (λ (x : ElementResult Channel (List ℕ)). IsPartOf x.part 1) h
    (record { most = omega arith; few = omega arith })
part_judged j e (Some v) w h =
    chosen (λ x. IsPartOf x.part 1) (contains j.bounds v) (nat_le j.limit (e.streak + 1)) _ _ w
    (record { most = omega arith; few = omega arith })
    (λ _. record { most = omega arith; few = omega arith }) h

own_judged : (j : Guard) (e : Channel) (r : Option ℤ) (w : ElementResult Channel (List ℕ))
    → IsSample r → Own j e → channel_after j e r ≡ Ok w → Own j w.element
own_judged j e None w ok own h =
    ok_has (λ (x : ElementResult Channel (List ℕ)). Own j x.element) h own
own_judged j e (Some v) w ok own h =
    let positive : 1 ≤ j.limit = j.positive in
    chosen (λ x. Own j x.element) (contains j.bounds v) (nat_le j.limit (e.streak + 1)) _ _ w
    (record { number = own.number; event = own.event; held = ok; streak = omega arith })
    (λ below. record {
      number = own.number;
      event = own.event;
      held = own.held;
      streak = grind (arith, nat_tests, below);
    })
    h

pub reading_ok : (j : Guard) (samples : List (Option ℤ)) (e : Channel) →
    AreSamples j.events samples → IsSample (reading samples e)
reading_ok j samples e fit = sample_ok j.events samples e.event fit

own_first : (j : Guard) (i : ℕ) → i < j.channels → Own j (first_channel j i)
own_first j i h = let positive : 1 ≤ j.limit = j.positive in
    record {
      number = h;
      event = refl;
      held = (omega (arith, ints), omega (arith, ints));
      streak = omega arith;
    }

pub own_all_first : (j : Guard) (es : List Channel) → es ≡ first_channels j → All (Own j) es
own_all_first j es e = made_all (Own j) (first_channel j) j.channels es e (own_first j)

part_joined : (left right : List ℕ) (a b : ℕ) → IsPartOf left a → IsPartOf right b →
    a + b ≤ 65536 → IsPartOf (joined left right) (a + b)
part_joined left right a b h k few = let x = h.most in let y = k.most in
    record { most = omega (arith, length-append left right); few = few }

pub parts_joined : (left right whole : List ℕ) → whole ≡ joined left right →
    CoversBoth IsPartOf left right whole
parts_joined left right whole =
    covers_both IsPartOf joined left right whole (part_joined left right)

length-numbers : (ns : List ℕ) → length (flat_map u32_bytes ns) ≡ 4 * length ns
length-numbers [] = refl
length-numbers (n ∷ ns) = let rest = length-numbers ns in omega arith

length-next_bytes : (next : Option ℕ) → length (next_bytes next) ≤ 9
length-next_bytes None = omega arith
length-next_bytes (Some t) = omega arith

length-output : (total : ℕ) (part : List ℕ) (next : Option ℕ) → length part ≤ 65536 →
    length (output total part next) ≤ 1048576
length-output total part next few =
    let numbers = length-numbers part in
    let last = length-next_bytes next in
    omega (arith, length-append (flat_map u32_bytes part) (next_bytes next))

output_by : (b : Bool) (j : Guard) (g : Total) (plan : Plan) (part : List ℕ)
    (d : Conclusion Total) → b ≡ ltb j.most (length part)
    → ◌≡◌ {A = Result (Conclusion Total) ℕ} (cond b (Err 2)
    (Ok (record {
      globals = record { corrections = total_after g part };
      output = output (total_after g part) part plan.next;
    }))) (Ok d)
    → length d.output ≤ 1048576
output_by true j g plan part d e h = cc
output_by false j g plan part d e h =
    let most : j.most ≤ 65536 = j.bounded in
    ok_has (λ (x : Conclusion Total). length x.output ≤ 1048576) h
    (length-output (total_after g part) part plan.next (grind (arith, nat_tests)))

apart : (j : Guard) (a b : Channel) → Own j a → Own j b → shown a ≡ shown b → a ≡ b
apart j a b p q e =
    let few : j.channels ≤ 65536 = j.few in
    let small : j.limit ≤ 1000 = j.small in
    let m = p.number in let n = q.number in let s = p.streak in let t = q.streak in
    let number : a.number ≡ b.number =
    u32_bytes-apart a.number b.number (omega arith) (omega arith) (ap (take 4) e) in
    let event : a.event ≡ b.event = p.event ∙ ap (event_of j) number ∙ sym q.event in
    let held : a.held ≡ b.held =
    i64_bytes-apart a.held b.held p.held q.held (ap (λ xs. take 8 (drop 4 xs)) e) in
    let streak : a.streak ≡ b.streak =
    u16_bytes-apart a.streak b.streak (omega arith) (omega arith) (ap (drop 12) e) in
    λ i. record { number = number i; event = event i; held = held i; streak = streak i }

pub guard_laws : JobLaws meaning Covers Own Fit
guard_laws = record {
  events_made = λ ps n few. omega arith;
  assoc = λ j a b c. append_assoc a b c;
  left_unit = λ j p. refl;
  right_unit = λ j p. append-nil p;
  covers_few = λ j p n h. h.few;
  covers_unit = λ j. record { most = omega arith; few = omega arith };
  covers_run = λ j plan carry pass e key w fit own below carried h. part_judged j e
      (reading plan.samples e) w h;
  covers_joined = λ j left right a b h k few. part_joined left right a b h k few;
  own_run = λ j plan carry pass e key w fit own below carried h. own_judged j e
      (reading plan.samples e) w (reading_ok j plan.samples e fit) own h;
  own_started = λ j seed. own_all_first j (first_channels j) refl;
  fit_prepared = λ j globals es windows seed cycle time next p own few ws h. ok_has
      (λ (x : Preparation Plan). Fit j x.plan) h
      (newest_are_samples j.events windows ws);
  shown_few = λ j e own. omega arith;
  shown_apart = λ j a b p q e. apart j a b p q e;
  output_few = λ j globals plan part d h. output_by (ltb j.most (length part)) j globals plan part d
      refl h;
  few_started = λ j seed. made_few (first_channel j) j.channels j.few;
  fit_passes = λ j plan fit. (omega arith, omega arith);
  drawn_few = λ j plan carry pass e key. omega arith;
}
