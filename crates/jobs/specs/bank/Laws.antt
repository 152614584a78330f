-- The bank keeps the laws of a job.
use Rattle.std.proofs.Common.{◌≡◌, ℕ, ℤ, ◌+◌, ◌%◌, ◌<◌, ◌≤◌, ◌+ℤ◌, List, ◌++◌, take, drop, length}
use Rattle.std.proofs.Common.{max, Option, None, Some, Bool, true, false, cond, leb, refl, ap, sym}
use Rattle.std.proofs.Common.{subst, arith}
use Rattle.std.specs.List.{All}
use Rattle.std.specs.Int.{int_min, int_max}
use Rattle.std.proofs.lemmas.Bool.Decides.{nat_tests}
use Rattle.std.proofs.lemmas.Int.{ints, clamps}
use Rattle.det_values.specs.Limits.{IsSampleValue}
use Rattle.job.specs.declared.job_results.Conclusion.{Conclusion}
use Rattle.job.specs.Meaning.{Preparation, ElementResult}
use Rattle.job.specs.Laws.{JobLaws, CoversBoth}
use Rattle.job_shared.specs.Bytes.{u16_bytes, i64_bytes}
use Rattle.job_shared.specs.Parts.{joined_by, covers_by, IsJoinable}
use Rattle.job_shared.specs.Samples.{sample_of, IsSample}
use Rattle.job_shared.proofs.Answered.{ok_has}
use Rattle.job_shared.proofs.Apart.{u16_bytes-apart, i64_bytes-apart}
use Rattle.job_shared.proofs.Covering.{covers_both}
use Rattle.job_shared.proofs.JoinedParts.{right_unit, parts_assoc, part_few, part_joined}
use Rattle.job_shared.proofs.Made.{made_few, made_all}
use Rattle.job_shared.proofs.Windows.{newest_are_samples, sample_ok}
use Rattle.jobs.specs.declared.bank.bank.Bank.{Bank}
use Rattle.jobs.specs.declared.bank.channel.Channel.{Channel}
use Rattle.jobs.specs.declared.bank.summary.Summary.{Summary}
use Rattle.jobs.specs.declared.bank.bank_job.NoGlobals.{NoGlobals}
use Rattle.jobs.specs.bank.Meaning.{meaning, first_channel, first_channels, level_after, new_level}
use Rattle.jobs.specs.bank.Meaning.{worked, summary_of, both, output}
use Rattle.jobs.specs.bank.Ranges.{Own, Fit, IsSummaryOf, Covers}
use Rattle.job_shared.proofs.Moves.{towards_in_range}

level_in_range : (target : Option ℤ) (level : ℤ) (shift : ℕ) → IsSample target →
    IsSampleValue level → IsSampleValue (level_after target level shift)
level_in_range None level shift t l = l
level_in_range (Some v) level shift t l = towards_in_range level v shift l t

sum-assoc : (a b c : ℤ) → (a +ℤ b) +ℤ c ≡ a +ℤ (b +ℤ c)
sum-assoc a b c = omega (arith, ints)

min-assoc : (a b c : ℤ) → int_min (int_min a b) c ≡ int_min a (int_min b c)
min-assoc a b c = omega (arith, ints, clamps)

max-assoc : (a b c : ℤ) → int_max (int_max a b) c ≡ int_max a (int_max b c)
max-assoc a b c = omega (arith, ints, clamps)

range_min : (a b : ℤ) → IsSampleValue a → IsSampleValue b → IsSampleValue (int_min a b)
range_min a b h k = let w = h.0 in let x = h.1 in let y = k.0 in let z = k.1 in
    (omega (arith, ints, clamps), omega (arith, ints, clamps))

range_max : (a b : ℤ) → IsSampleValue a → IsSampleValue b → IsSampleValue (int_max a b)
range_max a b h k = let w = h.0 in let x = h.1 in let y = k.0 in let z = k.1 in
    (omega (arith, ints, clamps), omega (arith, ints, clamps))

pub bank_parts : IsJoinable both IsSummaryOf
bank_parts = record {
  assoc = λ a b c i. record {
    sum = sum-assoc a.sum b.sum c.sum i;
    least = min-assoc a.least b.least c.least i;
    greatest = max-assoc a.greatest b.greatest c.greatest i;
  };
  few = λ s n h. h.few;
  more = λ s n m more few h.
      let low = h.sum_least in let high = h.sum_most in let some = h.some in
      record {
        some = omega arith;
        few = few;
        sum_least = omega (arith, ints);
        sum_most = omega (arith, ints);
        least = h.least;
        greatest = h.greatest;
      };
  both = λ l r a b h k few.
      let low = h.sum_least in let high = h.sum_most in let low2 = k.sum_least in
      let high2 = k.sum_most in let some = h.some in
      record {
        some = omega arith;
        few = few;
        sum_least = omega (arith, ints);
        sum_most = omega (arith, ints);
        least = range_min l.least r.least h.least k.least;
        greatest = range_max l.greatest r.greatest h.greatest k.greatest;
      };
}

pub parts_joined : (left right whole : Option Summary) → whole ≡ joined_by both left right →
    CoversBoth (covers_by IsSummaryOf) left right whole
parts_joined left right whole =
    covers_both (covers_by IsSummaryOf) (joined_by both) left right whole
    (part_joined both IsSummaryOf bank_parts left right)

own_worked : (j : Bank) (plan : List (Option ℤ)) (e : Channel) → Fit j plan → Own j e →
    Own j (worked j plan e).element
own_worked j plan e fit own = record {
  event = own.event;
  level = level_in_range (sample_of plan e.event) e.level j.shift
      (sample_ok j.events plan e.event fit) own.level;
}

pub one_summary : (level : ℤ) → IsSampleValue level → IsSummaryOf (summary_of level) 1
one_summary level h =
    let a = h.0 in let b = h.1 in
    record {
      some = omega arith;
      few = omega arith;
      sum_least = omega (arith, ints);
      sum_most = omega (arith, ints);
      least = h;
      greatest = h;
    }

rem_below : (i n : ℕ) → 2 ≤ n → i % n < max 1 n
rem_below i n h = omega arith

event_below : (b : Bool) (i n : ℕ) → b ≡ leb 2 n → cond b (i % n) 0 < max 1 n
event_below true i n e = rem_below i n (grind (arith, nat_tests))
event_below false i n e = omega arith

own_first : (j : Bank) (i : ℕ) → Own j (first_channel j i)
own_first j i = record {
  event = event_below (leb 2 j.events) i j.events refl;
  level = (omega (arith, ints), omega (arith, ints));
}

pub own_all_first : (j : Bank) (es : List Channel) → es ≡ first_channels j → All (Own j) es
own_all_first j es e = made_all (Own j) (first_channel j) j.channels es e
    (λ k below. own_first j k)

length-output : (part : Option Summary) → length (output part) ≤ 1048576
length-output None = omega arith
length-output (Some s) = omega arith

length-shown : (b : Bool) (e : Channel) →
    length (cond b (u16_bytes e.event ++ i64_bytes e.level) (i64_bytes e.level)) ≤ 64
length-shown true e = omega arith
length-shown false e = omega arith

apart : (t : Bool) (j : Bank) (a b : Channel) → t ≡ leb 2 j.events → Own j a → Own j b →
    cond t (u16_bytes a.event ++ i64_bytes a.level) (i64_bytes a.level)
    ≡ cond t (u16_bytes b.event ++ i64_bytes b.level) (i64_bytes b.level) → a ≡ b
apart true j a b several p q e =
    let short : j.events ≤ 65535 = j.short in
    let x = p.event in let y = q.event in
    let event : a.event ≡ b.event =
    u16_bytes-apart a.event b.event (omega arith) (omega arith) (ap (take 2) e) in
    let level : a.level ≡ b.level =
    i64_bytes-apart a.level b.level p.level q.level (ap (drop 2) e) in
    λ i. record { event = event i; level = level i }
apart false j a b one p q e =
    let x = p.event in let y = q.event in
    let few : j.events < 2 = grind (arith, nat_tests) in
    let event : a.event ≡ b.event = omega arith in
    let level : a.level ≡ b.level = i64_bytes-apart a.level b.level p.level q.level e in
    λ i. record { event = event i; level = level i }

pub bank_laws : JobLaws meaning Covers Own Fit
bank_laws = record {
  events_made = λ ps n few. omega arith;
  assoc = λ j. parts_assoc both IsSummaryOf bank_parts;
  left_unit = λ j p. refl;
  right_unit = λ j. right_unit both;
  covers_few = λ j. part_few both IsSummaryOf bank_parts;
  covers_unit = λ j. omega arith;
  covers_run = λ j plan carry pass e key w fit own below carried h. ok_has
      (λ (x : ElementResult Channel (Option Summary)). Covers j x.part 1) h
      (one_summary (new_level j plan e) (own_worked j plan e fit own).level);
  covers_joined = λ j. part_joined both IsSummaryOf bank_parts;
  own_run = λ j plan carry pass e key w fit own below carried h. ok_has
      (λ (x : ElementResult Channel (Option Summary)). Own j x.element) h
      (own_worked j plan e fit own);
  own_started = λ j seed. own_all_first j (first_channels j) refl;
  fit_prepared = λ j globals es windows seed cycle time next p own few ws h. ok_has
      (λ (x : Preparation (List (Option ℤ))). Fit j x.plan) h
      (newest_are_samples j.events windows ws);
  shown_few = λ j e own. length-shown (leb 2 j.events) e;
  shown_apart = λ j a b p q e. apart (leb 2 j.events) j a b refl p q e;
  output_few = λ j globals plan part d h. ok_has
      (λ (x : Conclusion NoGlobals). length x.output ≤ 1048576) h (length-output part);
  few_started = λ j seed. made_few (first_channel j) j.channels j.few;
  fit_passes = λ j plan fit. (omega arith, omega arith);
  drawn_few = λ j plan carry pass e key. omega arith;
}
