-- The parts of frames are read lawfully.
use Rattle.std.proofs.Common.{◌≡◌, ℕ, zero, suc, ◌-◌, ◌<◌, ◌≤◌, ℤ, pos, Bool, false, cond, eqb, List, [], ◌∷◌, ◌++◌, length, Option, Some}
use Rattle.std.proofs.Common.{None, refl, sym, ap, subst, ◌∙◌, append_assoc, arith, lit≤, lit<}
use Rattle.std.specs.List.{flat_map, All}
use Rattle.std.proofs.lemmas.Bool.Decides.{nat_tests}
use Rattle.std.proofs.lemmas.Int.{ints}
use Rattle.std.proofs.lemmas.List.Elements.{All-nil, All-head}
use Rattle.det_values.specs.declared.format.Format.{Format}
use Rattle.det_values.specs.declared.format.Format.TheVariants.{One, Two}
use Rattle.det_values.specs.declared.refused_at.Phase.{Phase}
use Rattle.det_values.specs.declared.refused_at.Phase.TheVariants as phases
use Rattle.det_values.specs.declared.frames.CycleInput.{CycleInput}
use Rattle.det_values.specs.declared.frames.DrawnElement.{DrawnElement}
use Rattle.det_values.specs.Values.{SampleValue, RefusedAtValue}
use Rattle.det_values.specs.Limits.{IsSampleValue, IsPlace}
use Rattle.det_values.specs.Spelling as flat
use Rattle.record_grammar.specs.Read.{Read, Got, ◌>>=◌, many}
use Rattle.record_grammar.specs.Numbers.{number}
use Rattle.record_grammar.specs.Grammar.{element_at, drawn_at, time_at, sample_value_at, sample_at, samples_at, input_at, phase_of}
use Rattle.record_grammar.specs.Grammar.{most_pass, most_element, refusal_at}
use Rattle.record_grammar.specs.Spelling.{spelled_u16, spelled_u32, spelled_u64, spelled_signed, spelled_element, IsElement, spelled_drawn}
use Rattle.record_grammar.specs.Spelling.{IsDrawn, spelled_time, IsTime, spelled_sample, IsSample, spelled_input, IsInput, phase_number}
use Rattle.record_grammar.specs.Spelling.{spelled_refusal, IsRefusal, IsString}
use Rattle.record_grammar.proofs.lemmas.record_laws.Lawful.{IsLawful, lawful_give, lawful_read, lawful_values, lawful_map, lawful_then}
use Rattle.record_grammar.proofs.lemmas.record_laws.LawfulWords.{IsFrom, byte_lawful, u16_lawful, u32_lawful, u64_lawful, string_lawful}
use Rattle.record_grammar.proofs.lemmas.record_laws.LawfulFields.{bind_bind, counted_lawful, sample_value_lawful}

-- ---- elements

pub no_bytes : (most : ℕ) → IsString most []
no_bytes most = (omega arith, All-nil (λ b. b < 256))

pub element_lawful : IsLawful IsElement spelled_element element_at
element_lawful = string_lawful 2 64 spelled_u16 (u16_lawful 0 64 (lit≤ tt) (lit≤ tt))

abbrev pub a_drawn : List ℕ → ℕ → DrawnElement
a_drawn bytes draws = record { bytes = bytes; draws = draws }

in_two : (d : DrawnElement) → IsDrawn Two d → IsDrawn Two d × (spelled_drawn Two d ≡ spelled_element d.bytes ++ spelled_u32 d.draws)
unfolding flat.spelled_drawn
in_two d h = (h, sym (append_assoc (spelled_u16 (length d.bytes)) d.bytes (spelled_u32 d.draws)))

pub drawn_lawful : (format : Format) → IsLawful (IsDrawn format) (spelled_drawn format) (drawn_at format)
unfolding drawn_at
drawn_lawful One =
    lawful_map IsElement spelled_element element_at (IsDrawn One) (λ d. d.bytes) (λ e. a_drawn e 0)
    (λ d h. (h.0, ap (a_drawn d.bytes) h.2)) (λ e h. ((h, lit< tt, refl), refl)) element_lawful
drawn_lawful Two =
    lawful_values (IsDrawn Two) (IsDrawn Two) (λ d. spelled_element d.bytes ++ spelled_u32 d.draws) (spelled_drawn Two) (drawn_at Two)
    (λ d h. h) in_two
    (lawful_then IsElement spelled_element element_at (IsDrawn Two) (λ d. d.bytes) (λ d. spelled_u32 d.draws)
    (λ e bytes. number 4 0 4294967295 bytes >>= λ d. Got (a_drawn e d.0, d.1))
    (λ d h. h.0) (λ e h. (a_drawn e 0, (h, lit< tt, tt), refl)) element_lawful
    (λ e he. lawful_map (IsFrom 0 4294967295) spelled_u32 (number 4 0 4294967295) (λ d. IsDrawn Two d × (d.bytes ≡ e)) (λ d. d.draws)
    (a_drawn e)
    (λ d h. ((omega arith, omega (arith, h.0.1)), ap (λ (b : List ℕ). a_drawn b d.draws) h.1))
    (λ n h. (((he, omega (arith, h.1), tt), refl), refl)) (u32_lawful 0 4294967295 (lit≤ tt) (lit≤ tt))))

pub some_drawn : (format : Format) → (d : DrawnElement) × IsDrawn format d
some_drawn One = (a_drawn [] 0, (no_bytes 64, lit< tt, refl))
some_drawn Two = (a_drawn [] 0, (no_bytes 64, lit< tt, tt))

-- ---- a time

abbrev flag_of : Option ℕ → ℕ
flag_of None = 0
flag_of (Some t) = 1

abbrev number_of : Option ℕ → ℕ
number_of None = 0
number_of (Some t) = t

abbrev behind_flag : Option ℕ → List ℕ
behind_flag None = []
behind_flag (Some t) = spelled_u64 t

abbrev time_by : ℕ → List ℕ → Read (Option ℕ)
time_by flag bytes = cond (eqb flag 0) (Got (None, bytes)) (number 8 0 18446744073709551615 bytes >>= λ t. Got (Some t.0, t.1))

time_by_lawful : (flag : ℕ) → IsFrom 0 1 flag → IsLawful (λ t. IsTime t × (flag_of t ≡ flag)) behind_flag (time_by flag)
time_by_lawful zero h =
    lawful_values (λ t. IsTime t × (flag_of t ≡ 0)) (λ t. IsTime t × (flag_of t ≡ 0)) (λ t. []) behind_flag (time_by 0) (λ t k. k)
    none_spelled
    (lawful_give (λ t. IsTime t × (flag_of t ≡ 0)) None (tt, refl) none_only)
  where
    none_spelled : (t : Option ℕ) → IsTime t × (flag_of t ≡ 0) → (IsTime t × (flag_of t ≡ 0)) × (behind_flag t ≡ [])
    none_spelled None k = (k, refl)
    none_spelled (Some t) k = absurd (omega (arith, k.1))

    none_only : (t : Option ℕ) → IsTime t × (flag_of t ≡ 0) → t ≡ None
    none_only None k = refl
    none_only (Some t) k = absurd (omega (arith, k.1))
time_by_lawful (suc zero) h =
    lawful_values (λ t. IsTime t × (flag_of t ≡ 1)) (λ t. IsTime t × (flag_of t ≡ 1)) (λ t. spelled_u64 (number_of t)) behind_flag
    (time_by 1) (λ t k. k) some_spelled
    (lawful_map (IsFrom 0 18446744073709551615) spelled_u64 (number 8 0 18446744073709551615) (λ t. IsTime t × (flag_of t ≡ 1)) number_of
    (λ t. Some t) some_there (λ n k. ((omega (arith, k.1), refl), refl)) (u64_lawful 0 18446744073709551615 (lit≤ tt) (lit≤ tt)))
  where
    some_spelled : (t : Option ℕ) → IsTime t × (flag_of t ≡ 1) → (IsTime t × (flag_of t ≡ 1)) × (behind_flag t ≡ spelled_u64 (number_of t))
    some_spelled None k = absurd (omega (arith, k.1))
    some_spelled (Some t) k = (k, refl)

    some_there : (t : Option ℕ) → IsTime t × (flag_of t ≡ 1) → IsFrom 0 18446744073709551615 (number_of t) × (t ≡ Some (number_of t))
    some_there None k = absurd (omega (arith, k.1))
    some_there (Some t) k = ((omega arith, omega (arith, k.0)), refl)
time_by_lawful (suc (suc n)) h = absurd (omega (arith, h.1))

time_lawful : IsLawful IsTime spelled_time time_at
unfolding time_at
time_lawful =
    lawful_values IsTime IsTime (λ t. (flag_of t ∷ []) ++ behind_flag t) spelled_time time_at (λ t h. h) spelled
    (lawful_then (IsFrom 0 1) (λ n. n ∷ []) (number 1 0 1) IsTime flag_of behind_flag time_by in_range example
    (byte_lawful 0 1 (lit≤ tt) (lit≤ tt)) time_by_lawful)
  where
    spelled : (t : Option ℕ) → IsTime t → IsTime t × (spelled_time t ≡ (flag_of t ∷ []) ++ behind_flag t)
    spelled None h = (h, refl)
    spelled (Some t) h = (h, refl)

    in_range : (t : Option ℕ) → IsTime t → IsFrom 0 1 (flag_of t)
    in_range None h = (lit≤ tt, lit≤ tt)
    in_range (Some t) h = (lit≤ tt, lit≤ tt)

    example : (flag : ℕ) → IsFrom 0 1 flag → (t : Option ℕ) × IsTime t × (flag_of t ≡ flag)
    example zero h = (None, tt, refl)
    example (suc zero) h = (Some 0, lit< tt, refl)
    example (suc (suc n)) h = absurd (omega (arith, h.1))

-- ---- samples

abbrev a_sample : ℕ → ℤ → SampleValue
a_sample event value = record { event = event; value = value }

zero_is : IsSampleValue (pos 0)
zero_is = (omega (arith, ints), omega (arith, ints))

sample_lawful : (events : ℕ) → 0 < events → events ≤ 65536 → IsLawful (IsSample events) spelled_sample (sample_at events)
unfolding sample_at
sample_lawful events some few =
    lawful_then (IsFrom 0 (events - 1)) spelled_u16 (number 2 0 (events - 1)) (IsSample events) (λ s. s.event) (λ s. spelled_signed s.value)
    (λ event bytes. sample_value_at bytes >>= λ value. Got (a_sample event value.0, value.1))
    (λ s h. (omega arith, omega (arith, h.0))) (λ n h. (a_sample n (pos 0), (omega (arith, h.1, some), zero_is), refl))
    (u16_lawful 0 (events - 1) (omega arith) (omega arith))
    (λ event he. lawful_map IsSampleValue spelled_signed sample_value_at (λ s. IsSample events s × (s.event ≡ event)) (λ s. s.value)
    (a_sample event)
    (λ s h. (h.0.1, ap (λ (n : ℕ). a_sample n s.value) h.1)) (λ z h. (((omega (arith, he.1, some), h), refl), refl)) sample_value_lawful)

abbrev pub at_least_one : ℕ → ℕ
at_least_one zero = 1
at_least_one (suc events) = suc events

-- without events, a sample is read as one of the only event
pub any_sample_lawful : (events : ℕ) → events ≤ 65536 → IsLawful (IsSample (at_least_one events)) spelled_sample (sample_at events)
unfolding sample_at
any_sample_lawful zero few =
    lawful_read (IsSample 1) spelled_sample (sample_at 0) (sample_at 1) (λ bytes. refl) (sample_lawful 1 (lit< tt) (lit≤ tt))
any_sample_lawful (suc events) few = sample_lawful (suc events) (omega arith) few

pub some_sample : (events : ℕ) → (s : SampleValue) × IsSample (at_least_one events) s
some_sample zero = (a_sample 0 (pos 0), (lit< tt, zero_is))
some_sample (suc events) = (a_sample 0 (pos 0), (omega arith, zero_is))

abbrev AreSamples : ℕ → List SampleValue → Type 0
AreSamples events samples = (length samples ≤ 4096) × All (IsSample events) samples

abbrev spelled_samples : List SampleValue → List ℕ
spelled_samples samples = spelled_u32 (length samples) ++ flat_map spelled_sample samples

no_samples : (events : ℕ) → AreSamples events []
no_samples events = (lit≤ tt, All-nil (IsSample events))

-- without events there are no samples
none_only : (xs : List SampleValue) → AreSamples 0 xs → xs ≡ []
none_only [] h = refl
none_only (x ∷ xs) h = let lt : x.event < 0 = (All-head (IsSample 0) x xs h.1).0 in absurd (omega arith)

none_read : (bytes : List ℕ) → many (sample_at 0) 0 bytes ≡ Got ([], bytes)
unfolding many
none_read bytes = refl

none_lawful : (n : ℕ) → IsFrom 0 0 n → IsLawful (λ xs. AreSamples 0 xs × (length xs ≡ n)) (flat_map spelled_sample) (many (sample_at 0) n)
none_lawful zero h =
    lawful_read (λ xs. AreSamples 0 xs × (length xs ≡ 0)) (flat_map spelled_sample) (many (sample_at 0) 0) (λ bytes. Got ([], bytes))
    none_read
    (lawful_values (λ xs. AreSamples 0 xs × (length xs ≡ 0)) (λ xs. AreSamples 0 xs × (length xs ≡ 0)) (λ xs. []) (flat_map spelled_sample)
    (λ bytes. Got ([], bytes)) (λ xs k. k) (λ xs k. (k, ap (flat_map spelled_sample) (none_only xs k.0)))
    (lawful_give (λ xs. AreSamples 0 xs × (length xs ≡ 0)) [] (no_samples 0, refl) (λ xs k. none_only xs k.0)))
none_lawful (suc n) h = absurd (omega (arith, h.1))

abbrev counted : ℕ → List ℕ → Read (List SampleValue)
counted events bytes = number 4 0 4096 bytes >>= λ n. many (sample_at events) n.0 n.1

some_read : (events : ℕ) → 0 < events → (bytes : List ℕ) → samples_at events bytes ≡ counted events bytes
unfolding samples_at
some_read events some bytes =
    let not : eqb events 0 ≡ false = grind (arith, nat_tests, some) in
    ap (λ (t : Bool). number 4 0 (cond t 0 4096) bytes >>= λ n. many (sample_at events) n.0 n.1) not

samples_lawful : (events : ℕ) → events ≤ 65536 → IsLawful (AreSamples events) spelled_samples (samples_at events)
unfolding samples_at
samples_lawful zero few =
    lawful_then (IsFrom 0 0) spelled_u32 (number 4 0 0) (AreSamples 0) length (flat_map spelled_sample) (many (sample_at 0))
    (λ xs h. (omega arith, let none : length xs ≡ 0 = ap length (none_only xs h) in omega arith))
    (λ n h. ([], no_samples 0, omega (arith, h.1))) (u32_lawful 0 0 (lit≤ tt) (lit≤ tt)) none_lawful
samples_lawful (suc events) few =
    lawful_read (AreSamples (suc events)) spelled_samples (samples_at (suc events)) (counted (suc events))
    (some_read (suc events) (omega arith)) (
    lawful_values (λ xs. IsFrom 0 4096 (length xs) × All (IsSample (suc events)) xs) (AreSamples (suc events)) spelled_samples
    spelled_samples (counted (suc events))
    (λ xs h. (h.0.1, h.1)) (λ xs h. (((omega arith, h.0), h.1), refl))
    (counted_lawful (IsSample (suc events)) spelled_sample (sample_at (suc events)) (a_sample 0 (pos 0)) (omega arith, zero_is)
    (sample_lawful (suc events) (omega arith) few) 4 0 4096 spelled_u32 (u32_lawful 0 4096 (lit≤ tt) (lit≤ tt))))

abbrev pub an_input : Option ℕ → List SampleValue → CycleInput
an_input time samples = record { time = time; samples = samples }

pub no_input : (events : ℕ) → IsInput events (an_input None [])
no_input events = (tt, lit≤ tt, All-nil (IsSample events))

pub input_lawful : (events : ℕ) → events ≤ 65536 → IsLawful (IsInput events) spelled_input (input_at events)
unfolding input_at
input_lawful events few =
    lawful_then IsTime spelled_time time_at (IsInput events) (λ i. i.time) (λ i. spelled_samples i.samples)
    (λ time bytes. samples_at events bytes >>= λ samples. Got (an_input time samples.0, samples.1))
    (λ i h. h.0) (λ t h. (an_input t [], (h, lit≤ tt, All-nil (IsSample events)), refl)) time_lawful
    (λ time ht. lawful_map (AreSamples events) spelled_samples (samples_at events) (λ i. IsInput events i × (i.time ≡ time))
    (λ i. i.samples) (an_input time)
    (λ i h. ((h.0.1, h.0.2), ap (λ (t : Option ℕ). an_input t i.samples) h.1)) (λ xs h. (((ht, h.0, h.1), refl), refl))
    (samples_lawful events few))

-- ---- a refusal

abbrev AnyPhase : Phase → Type 0
AnyPhase phase = Unit {0}

phase_back : (p : Phase) → p ≡ phase_of (phase_number p)
phase_back phases.Prepare = refl
phase_back phases.Pool = refl
phase_back phases.Conclude = refl

phase_small : (p : Phase) → IsFrom 0 2 (phase_number p)
phase_small phases.Prepare = (lit≤ tt, lit≤ tt)
phase_small phases.Pool = (lit≤ tt, lit≤ tt)
phase_small phases.Conclude = (lit≤ tt, lit≤ tt)

number_back : (n : ℕ) → IsFrom 0 2 n → phase_number (phase_of n) ≡ n
number_back zero h = refl
number_back (suc zero) h = refl
number_back (suc (suc zero)) h = refl
number_back (suc (suc (suc n))) h = absurd (omega (arith, h.1))

abbrev phase_at : List ℕ → Read Phase
phase_at bytes = number 1 0 2 bytes >>= λ n. Got (phase_of n.0, n.1)

phase_lawful : IsLawful AnyPhase (λ p. phase_number p ∷ []) phase_at
phase_lawful =
    lawful_map (IsFrom 0 2) (λ n. n ∷ []) (number 1 0 2) AnyPhase phase_number phase_of (λ p h. (phase_small p, phase_back p))
    (λ n h. (tt, number_back n h)) (byte_lawful 0 2 (lit≤ tt) (lit≤ tt))

abbrev pub a_refusal : Phase → ℕ → ℕ → ℕ → RefusedAtValue
a_refusal phase pass element code = record { phase = phase; pass = pass; element = element; code = code }

abbrev from_code : Phase → ℕ → ℕ → List ℕ → Read RefusedAtValue
from_code phase pass element bytes = number 4 0 4294967295 bytes >>= λ code. Got (a_refusal phase pass element code.0, code.1)

abbrev from_element : Phase → ℕ → List ℕ → Read RefusedAtValue
from_element phase pass bytes = number 4 0 (most_element phase) bytes >>= λ element. from_code phase pass element.0 element.1

abbrev from_pass : Phase → List ℕ → Read RefusedAtValue
from_pass phase bytes = number 1 0 (most_pass phase) bytes >>= λ pass. from_element phase pass.0 pass.1

refusal_reads : (bytes : List ℕ) → refusal_at bytes ≡ (phase_at bytes >>= λ phase. from_pass phase.0 phase.1)
unfolding refusal_at
refusal_reads bytes = sym (bind_bind (number 1 0 2 bytes) (λ n. Got (phase_of n.0, n.1)) (λ phase. from_pass phase.0 phase.1))

place_there : (phase : Phase) (pass element : ℕ) → IsPlace phase pass element → IsFrom 0 (most_pass phase) pass
    × IsFrom 0 (most_element phase) element
place_there phases.Prepare pass element h = ((omega arith, h.0), (omega arith, h.1))
place_there phases.Pool pass element h = ((omega arith, omega (arith, h.0)), (omega arith, omega (arith, h.1)))
place_there phases.Conclude pass element h = ((omega arith, h.0), (omega arith, h.1))

place_back : (phase : Phase) (pass element : ℕ) → pass ≤ most_pass phase → element ≤ most_element phase → IsPlace phase pass element
place_back phases.Prepare pass element h k = (h, k)
place_back phases.Pool pass element h k = (omega arith, omega arith)
place_back phases.Conclude pass element h k = (h, k)

pass_lawful : (phase : Phase) → IsLawful (IsFrom 0 (most_pass phase)) (λ n. n ∷ []) (number 1 0 (most_pass phase))
pass_lawful phases.Prepare = byte_lawful 0 0 (lit≤ tt) (lit≤ tt)
pass_lawful phases.Pool = byte_lawful 0 7 (lit≤ tt) (lit≤ tt)
pass_lawful phases.Conclude = byte_lawful 0 0 (lit≤ tt) (lit≤ tt)

element_number_lawful : (phase : Phase) → IsLawful (IsFrom 0 (most_element phase)) spelled_u32 (number 4 0 (most_element phase))
element_number_lawful phases.Prepare = u32_lawful 0 0 (lit≤ tt) (lit≤ tt)
element_number_lawful phases.Pool = u32_lawful 0 65535 (lit≤ tt) (lit≤ tt)
element_number_lawful phases.Conclude = u32_lawful 0 0 (lit≤ tt) (lit≤ tt)

pub refusal_lawful : IsLawful IsRefusal spelled_refusal refusal_at
refusal_lawful =
    lawful_read IsRefusal spelled_refusal refusal_at (λ bytes. phase_at bytes >>= λ phase. from_pass phase.0 phase.1) refusal_reads (
    lawful_then AnyPhase (λ p. phase_number p ∷ []) phase_at IsRefusal (λ r. r.phase)
    (λ r. r.pass ∷ (spelled_u32 r.element ++ spelled_u32 r.code)) from_pass
    (λ r h. tt) (λ phase h. (a_refusal phase 0 0 0, (place_back phase 0 0 (omega arith) (omega arith), lit< tt), refl)) phase_lawful
    (λ phase h.
    lawful_then (IsFrom 0 (most_pass phase)) (λ n. n ∷ []) (number 1 0 (most_pass phase)) (λ r. IsRefusal r × (r.phase ≡ phase))
    (λ r. r.pass) (λ r. spelled_u32 r.element ++ spelled_u32 r.code) (from_element phase)
    (λ r k. subst (λ (p : Phase). IsFrom 0 (most_pass p) r.pass) k.1 (place_there r.phase r.pass r.element k.0.0).0)
    (λ pass hp. (a_refusal phase pass 0 0, ((place_back phase pass 0 hp.1 (omega arith), lit< tt), refl), refl)) (pass_lawful phase)
    (λ pass hp.
    lawful_then (IsFrom 0 (most_element phase)) spelled_u32 (number 4 0 (most_element phase))
    (λ r. (IsRefusal r × (r.phase ≡ phase)) × (r.pass ≡ pass)) (λ r. r.element) (λ r. spelled_u32 r.code) (from_code phase pass)
    (λ r k. subst (λ (p : Phase). IsFrom 0 (most_element p) r.element) k.0.1 (place_there r.phase r.pass r.element k.0.0.0).1)
    (λ element he. (a_refusal phase pass element 0, (((place_back phase pass element hp.1 he.1, lit< tt), refl), refl), refl))
    (element_number_lawful phase) (λ element he.
    lawful_map (IsFrom 0 4294967295) spelled_u32 (number 4 0 4294967295)
    (λ r. ((IsRefusal r × (r.phase ≡ phase)) × (r.pass ≡ pass)) × (r.element ≡ element)) (λ r. r.code) (a_refusal phase pass element)
    (λ r k. (
      (omega arith, omega (arith, k.0.0.0.1)),
      ap (λ (p : Phase). a_refusal p r.pass r.element r.code) k.0.0.1 ∙ ap (λ (n : ℕ). a_refusal phase n r.element r.code) k.0.1
          ∙ ap (λ (n : ℕ). a_refusal phase pass n r.code) k.1,
    ))
    (λ n k. (((((place_back phase pass element hp.1 he.1, omega (arith, k.1)), refl), refl), refl), refl))
    (u32_lawful 0 4294967295 (lit≤ tt) (lit≤ tt))))))
