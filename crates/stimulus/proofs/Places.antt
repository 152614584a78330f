-- The place after lines in order.
use Rattle.std.proofs.Common.{◌≡◌, ℕ, ◌+◌, ◌<◌, ◌≤◌, List, [], ◌∷◌, ◌++◌, length, Bool, true, false, cond, nat_lt, Option, Some, None, refl}
use Rattle.std.proofs.Common.{sym, ap, ◌∙◌, arith, length-append}
use Rattle.std.specs.List.{count_by}
use Rattle.std.proofs.lemmas.Bool.Decides.{nat_tests}
use Rattle.std.proofs.lemmas.List.Sums.{sum_by-append}
use Rattle.det_values.specs.Values.{SampleValue}
use Rattle.det_values.specs.declared.frames.CycleInput.{CycleInput}
use Rattle.stimulus.specs.declared.parse_line.Line.{Line}
use Rattle.stimulus.specs.declared.parse_line.Line.TheVariants as lines
use Rattle.stimulus.specs.declared.stimulus_item.StimulusItem.TheVariants as items
use Rattle.stimulus.specs.Places.{Place, First, Between, Inside, Ended, Step, step, empty_block, with_sample, taken}
use Rattle.stimulus.specs.GoodLines.{is_cycle, is_end, cycles, ends, samples_from, IsOpen, MayStand}

pub counted_more : (p : Line → Bool) (earlier : List Line) (l : Line) → count_by p (earlier ++ l ∷ [])
    ≡ count_by p earlier + count_by p (l ∷ [])
counted_more p earlier l = sum_by-append (λ x. cond (p x) 1 0) earlier (l ∷ [])

pub samples_after : (n : ℕ) (earlier later : List Line) → samples_from n (earlier ++ later) ≡ samples_from (samples_from n earlier) later
samples_after n [] later = refl
samples_after n (lines.Stim ∷ earlier) later = samples_after n earlier later
samples_after n (lines.Cycle time ∷ earlier) later = samples_after 0 earlier later
samples_after n (lines.Sample s ∷ earlier) later = samples_after (n + 1) earlier later
samples_after n (lines.Terminate ∷ earlier) later = samples_after n earlier later

-- a reader of these lines is at this place
pub record IsInside (earlier : List Line) (n : ℕ) (input : CycleInput) : Type 0 where
  pub opened : IsOpen earlier
  pub cycles : cycles earlier ≡ n
  pub some : 0 < n
  pub samples : samples_from 0 earlier ≡ length input.samples

abbrev pub At : List Line → Place → Type 0
At earlier First = length earlier ≡ 0
At earlier Between = IsOpen earlier × (cycles earlier ≡ 0)
At earlier (Inside n input) = IsInside earlier n input
At earlier Ended = (0 < length earlier) × (ends earlier ≡ 1)

-- a line leads on if it may come, and only then
abbrev pub Leads : List Line → Line → Option Step → Type 0
Leads earlier l None = ¬ (MayStand earlier l)
Leads earlier l (Some s) = MayStand earlier l × At (earlier ++ l ∷ []) s.place

longer : (earlier : List Line) (l : Line) → 0 < length (earlier ++ l ∷ [])
longer earlier l = omega (arith, length-append earlier (l ∷ []))

no_end_more : (earlier : List Line) (l : Line) → is_end l ≡ false → ends (earlier ++ l ∷ []) ≡ ends earlier
no_end_more earlier lines.Stim other =
    let e : ends (earlier ++ lines.Stim ∷ []) ≡ ends earlier + 0 = counted_more is_end earlier lines.Stim in omega arith
no_end_more earlier (lines.Cycle time) other =
    let e : ends (earlier ++ lines.Cycle time ∷ []) ≡ ends earlier + 0 = counted_more is_end earlier (lines.Cycle time) in omega arith
no_end_more earlier (lines.Sample s) other =
    let e : ends (earlier ++ lines.Sample s ∷ []) ≡ ends earlier + 0 = counted_more is_end earlier (lines.Sample s) in omega arith
no_end_more earlier lines.Terminate other = absurd (cc)

open_more : (earlier : List Line) (l : Line) → IsOpen earlier → is_end l ≡ false → IsOpen (earlier ++ l ∷ [])
open_more earlier l h other = (longer earlier l, no_end_more earlier l other ∙ h.1)

ended_more : (earlier : List Line) → IsOpen earlier → At (earlier ++ lines.Terminate ∷ []) Ended
ended_more earlier h = (
  longer earlier lines.Terminate,
  let e : ends (earlier ++ lines.Terminate ∷ []) ≡ ends earlier + 1 =
      counted_more is_end earlier lines.Terminate in let none = h.1 in omega arith,
)

-- a block more
begun_more : (earlier : List Line) (n : ℕ) (time : Option ℕ) → IsOpen earlier → cycles earlier ≡ n
    → IsInside (earlier ++ lines.Cycle time ∷ []) (n + 1) (empty_block time)
begun_more earlier n time h count = record {
  opened = open_more earlier (lines.Cycle time) h refl;
  cycles =
      let e : cycles (earlier ++ lines.Cycle time ∷ [])
      ≡ cycles earlier + 1 = counted_more is_cycle earlier (lines.Cycle time) in omega arith;
  some = omega arith;
  samples = samples_after 0 earlier (lines.Cycle time ∷ []);
}

-- a sample more
sampled_more : (earlier : List Line) (n : ℕ) (input : CycleInput) (s : SampleValue) → IsInside earlier n input
    → IsInside (earlier ++ lines.Sample s ∷ []) n (with_sample input s)
sampled_more earlier n input s h = record {
  opened = open_more earlier (lines.Sample s) h.opened refl;
  cycles =
      let e : cycles (earlier ++ lines.Sample s ∷ [])
      ≡ cycles earlier + 0 = counted_more is_cycle earlier (lines.Sample s) in let c = h.cycles in omega arith;
  some = h.some;
  samples = samples_after 0 earlier (lines.Sample s ∷ []) ∙ ap (λ n. n + 1) h.samples ∙ sym (length-append input.samples (s ∷ []));
}

pub none_counted : (p : Line → Bool) (earlier : List Line) → length earlier ≡ 0 → count_by p earlier ≡ 0
none_counted p [] none = refl
none_counted p (l ∷ ls) none = absurd (omega arith)

leads_first : (earlier : List Line) (l : Line) → At earlier First → Leads earlier l (taken First l)
leads_first earlier lines.Stim h = (
  h,
  (
    (longer earlier lines.Stim, no_end_more earlier lines.Stim refl ∙ none_counted is_end earlier h),
    let e : cycles (earlier ++ lines.Stim ∷ [])
        ≡ cycles earlier + 0 = counted_more is_cycle earlier lines.Stim in let none = none_counted is_cycle earlier h in omega arith,
  ),
)
leads_first earlier (lines.Cycle time) h = λ k. let some = k.0.0 in omega arith
leads_first earlier (lines.Sample s) h = λ k. let some = k.0.0 in omega arith
leads_first earlier lines.Terminate h = λ k. let some = k.0 in omega arith

leads_between : (earlier : List Line) (l : Line) → At earlier Between → Leads earlier l (taken Between l)
leads_between earlier lines.Stim h = λ k. let some = h.0.0 in omega arith
leads_between earlier (lines.Cycle time) h = ((h.0, let none = h.1 in omega arith), begun_more earlier 0 time h.0 h.1)
leads_between earlier (lines.Sample s) h = λ k. let some = k.1 in omega arith
leads_between earlier lines.Terminate h = (h.0, ended_more earlier h.0)

leads_cycle : (earlier : List Line) (n : ℕ) (input : CycleInput) (time : Option ℕ) → IsInside earlier n input
    → Leads earlier (lines.Cycle time) (taken (Inside n input) (lines.Cycle time))
leads_cycle earlier n input time h = choice (nat_lt n 1000000) refl where
  choice : (t : Bool) → nat_lt n 1000000 ≡ t
      → Leads earlier (lines.Cycle time) (cond t (step (items.Cycle input ∷ []) (Inside (n + 1) (empty_block time))) None)
  choice true test =
      let few : n < 1000000 = grind (arith, nat_tests) in let count = h.cycles in
      ((h.opened, omega arith), begun_more earlier n time h.opened h.cycles)
  choice false test = λ k. let few = k.1 in let count = h.cycles in let many : 1000000 ≤ n = grind (arith, nat_tests) in omega arith

leads_sample : (earlier : List Line) (n : ℕ) (input : CycleInput) (s : SampleValue) → IsInside earlier n input
    → Leads earlier (lines.Sample s) (taken (Inside n input) (lines.Sample s))
leads_sample earlier n input s h = choice (nat_lt (length input.samples) 4096) refl where
  choice : (t : Bool) → nat_lt (length input.samples) 4096 ≡ t
      → Leads earlier (lines.Sample s) (cond t (step [] (Inside n (with_sample input s))) None)
  choice true test =
      let few : length input.samples < 4096 = grind (arith, nat_tests) in let count = h.cycles in let samples = h.samples in let some =
      h.some in ((h.opened, omega arith, omega arith), sampled_more earlier n input s h)
  choice false test =
      λ k. let few = k.2 in let samples = h.samples in let many : 4096 ≤ length input.samples = grind (arith, nat_tests) in omega arith

leads_inside : (earlier : List Line) (n : ℕ) (input : CycleInput) (l : Line) → IsInside earlier n input
    → Leads earlier l (taken (Inside n input) l)
leads_inside earlier n input lines.Stim h = λ k. let some = h.opened.0 in omega arith
leads_inside earlier n input (lines.Cycle time) h = leads_cycle earlier n input time h
leads_inside earlier n input (lines.Sample s) h = leads_sample earlier n input s h
leads_inside earlier n input lines.Terminate h = (h.opened, ended_more earlier h.opened)

leads_ended : (earlier : List Line) (l : Line) → At earlier Ended → Leads earlier l (taken Ended l)
leads_ended earlier lines.Stim h = λ k. let some = h.0 in omega arith
leads_ended earlier (lines.Cycle time) h = λ k. let none = k.0.1 in omega arith
leads_ended earlier (lines.Sample s) h = λ k. let none = k.0.1 in omega arith
leads_ended earlier lines.Terminate h = λ k. let none = k.1 in omega arith

pub leads : (earlier : List Line) (p : Place) (l : Line) → At earlier p → Leads earlier l (taken p l)
leads earlier First l h = leads_first earlier l h
leads earlier Between l h = leads_between earlier l h
leads earlier (Inside n input) l h = leads_inside earlier n input l h
leads earlier Ended l h = leads_ended earlier l h

pub record Led (earlier : List Line) (p : Place) (l : Line) : Type 0 where
  pub to : Step
  pub is : taken p l ≡ Some to
  pub there : At (earlier ++ l ∷ []) to.place

-- a line that may come leads on
pub leads_on : (earlier : List Line) (p : Place) (l : Line) → At earlier p → MayStand earlier l → Led earlier p l
leads_on earlier p l h may = choice (taken p l) refl (leads earlier p l h) where
  choice : (o : Option Step) → taken p l ≡ o → Leads earlier l o → Led earlier p l
  choice None e k = absurd (k may)
  choice (Some s) e k = record { to = s; is = e; there = k.1 }
