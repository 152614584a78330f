-- The heavy job keeps the laws of a job.
use Rattle.std.proofs.Common.{◌≡◌, ℕ, zero, suc, ◌+◌, ◌*◌, ◌/◌, ◌%◌, ◌^◌, ◌<◌, ◌≤◌, List, length}
use Rattle.std.proofs.Common.{refl, ap, sym, ◌∙◌, arith, mod-lt, pow_pos}
use lib.Bits.{or_lt, xor_lt}
use Rattle.std.specs.List.{All}
use Rattle.std.specs.Int.{w64, rotate_left, from_be_bytes}
use Rattle.std.proofs.lemmas.Nat.{from_be_bytes-to_be_bytes_8}
use Rattle.det_client.specs.element_random.RandomStreams.{word}
use Rattle.job.specs.declared.job_results.Conclusion.{Conclusion}
use Rattle.job.specs.Meaning.{ElementResult}
use Rattle.job.specs.Laws.{JobLaws, CoversBoth}
use Rattle.job_shared.specs.Bytes.{u64_bytes}
use Rattle.job_shared.proofs.Answered.{ok_has}
use Rattle.job_shared.proofs.Made.{made_all, made_few}
use Rattle.job_heavy.specs.declared.heavy.Heavy.{Heavy}
use Rattle.job_heavy.specs.declared.state.State.{State}
use Rattle.job_heavy.specs.declared.heavy_job.NoGlobals.{NoGlobals}
use Rattle.job_heavy.specs.Meaning.{meaning, first_state, first_states, folded}
use Rattle.job_heavy.specs.Ranges.{Own, Fit, IsCountOf, Covers}

turned_fits : (x : ℕ) → x < 2 ^ 64 → rotate_left w64 x 5 < 2 ^ 64
turned_fits x fits =
    or_lt 64 (x * 2 ^ 5 % 2 ^ 64) (x / 2 ^ 59) (mod-lt (x * 2 ^ 5) (pow_pos 64)) (omega arith)

word_fits : (key n : ℕ) → word key n < 2 ^ 64
unfolding word
word_fits key n = mod-lt _ (pow_pos 64)

pub folded_fits : (state key n : ℕ) → state < 2 ^ 64 → folded state key n < 2 ^ 64
unfolding folded
folded_fits state key zero h = h
folded_fits state key (suc n) h =
    xor_lt 64 (rotate_left w64 (folded state key n) 5) (word key n)
    (turned_fits (folded state key n) (folded_fits state key n h)) (word_fits key n)

pub own_all_first : (j : Heavy) (es : List State) → es ≡ first_states j → All (Own j) es
own_all_first j es e =
    made_all (Own j) first_state j.elements es e (λ k below. let few = j.few in omega arith)

counts_joined : (left right a b : ℕ) → IsCountOf left a → IsCountOf right b → a + b ≤ 65536 →
    IsCountOf (left + right) (a + b)
counts_joined left right a b h k few =
    let x = h.is in let y = k.is in record { is = omega arith; few = few }

pub parts_joined : (left right whole : ℕ) → whole ≡ left + right →
    CoversBoth IsCountOf left right whole
parts_joined left right whole e a b n sum few h k =
    let x = h.is in let y = k.is in record { is = omega arith; few = few }

apart : (a b : State) → a.folded < 2 ^ 64 → b.folded < 2 ^ 64 →
    u64_bytes a.folded ≡ u64_bytes b.folded → a ≡ b
apart a b h k e =
    let same : a.folded ≡ b.folded =
    sym (from_be_bytes-to_be_bytes_8 a.folded h) ∙ ap (from_be_bytes w64) e
    ∙ from_be_bytes-to_be_bytes_8 b.folded k in
    λ i. record { folded = same i }

pub heavy_laws : JobLaws meaning Covers Own Fit
heavy_laws = record {
  events_made = λ ps n few. omega arith;
  assoc = λ j a b c. omega arith;
  left_unit = λ j p. omega arith;
  right_unit = λ j p. omega arith;
  covers_few = λ j part n h. h.few;
  covers_unit = λ j. record { is = refl; few = omega arith };
  covers_run = λ j plan carry pass e key w fit own below carried h. ok_has
      (λ (x : ElementResult State ℕ). Covers j x.part 1) h
      (record { is = refl; few = omega arith });
  covers_joined = λ j left right a b h k few. counts_joined left right a b h k few;
  own_run = λ j plan carry pass e key w fit own below carried h. ok_has
      (λ (x : ElementResult State ℕ). Own j x.element) h
      (folded_fits e.folded key 64 own);
  own_started = λ j seed. own_all_first j (first_states j) refl;
  fit_prepared = λ j globals es windows seed cycle time next p own few ws h. tt;
  shown_few = λ j e own. omega arith;
  shown_apart = λ j a b p q e. apart a b p q e;
  output_few = λ j globals plan part d h. ok_has
      (λ (x : Conclusion NoGlobals). length x.output ≤ 1048576) h (omega arith);
  few_started = λ j seed. made_few first_state j.elements j.few;
  fit_passes = λ j plan fit. (omega arith, omega arith);
  drawn_few = λ j plan carry pass e key. omega arith;
}
