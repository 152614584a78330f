-- What the shipped probes do at a run more.
use Rattle.std.proofs.Common.{◌≡◌, ℕ, ◌+◌, max, List, [], ◌∷◌, true, false, cond, Option, Some, None, refl, sym, ap, ◌∙◌, arith}
use Rattle.std.specs.Option.{option_map}
use Rattle.det_values.specs.Values.{RefusedAtValue}
use Rattle.det_values.specs.declared.frames.RunFrame.{RunFrame}
use Rattle.det_values.specs.declared.frames.Outcome.TheVariants.{Refused}
use Rattle.probes.specs.declared.probe.ProbeStep.TheVariants.{Stay, Leave}
use Rattle.probes.specs.Reports.{leaves, Sees}
use Rattle.probes.specs.Texts.{refusal_text}
use Rattle.probes.specs.Shipped.{counted, refusal_of, is_refused, outcome_refused, gap_between, greater, greatest_gap, first_refused}
use Rattle.probes.specs.Shipped.{refusal_after, refusal_life}

greater_none : (gap : Option ℕ) → greater gap None ≡ gap
greater_none None = refl
greater_none (Some gap) = refl

greater_on : (a b c : Option ℕ) → greater a (greater b c) ≡ greater (greater a b) c
greater_on None b c = refl
greater_on (Some a) None c = refl
greater_on (Some a) (Some b) None = refl
greater_on (Some a) (Some b) (Some c) = let e : max a (max b c) ≡ max (max a b) c = omega arith in ap Some e

-- a gap more
pub gap_more : (last gap : Option ℕ) (run : RunFrame) (runs : List RunFrame) → greater gap (greatest_gap last (run ∷ runs))
    ≡ greater (greater gap (gap_between last run.input.time)) (greatest_gap run.input.time runs)
unfolding greatest_gap
gap_more last gap run runs = greater_on gap (gap_between last run.input.time) (greatest_gap run.input.time runs)

pub gap_told : (last gap : Option ℕ) → greater gap (greatest_gap last []) ≡ gap
unfolding greatest_gap
gap_told last gap = greater_none gap

-- a refused run
pub refused_seen : (seen : ℕ) (at : Option RefusedAtValue) (run : RunFrame) (where_at : RefusedAtValue) (next : ℕ) → run.outcome
    ≡ Refused where_at → next ≡ counted (seen + 1)
    → Sees Leave (refusal_life seen at) (refusal_life next (Some where_at)) run
unfolding refusal_after first_refused
refused_seen seen at run where_at next is count runs =
    let test : is_refused run ≡ true = ap outcome_refused is in (
      ap (λ t. cond t (refusal_text (counted (seen + 1)) (refusal_of run.outcome)) (refusal_after (counted (seen + 1)) at runs)) test
          ∙ (λ i. refusal_text (sym count i) (refusal_of (is i))),
      ap (λ t. option_map (λ n. n + 1) (cond t (Some 0) (option_map (λ n. n + 1) (first_refused runs)))) test,
    )

-- a finished run
pub finished_seen : (seen : ℕ) (at : Option RefusedAtValue) (run : RunFrame) (next : ℕ) → is_refused run ≡ false → next ≡ counted (seen + 1)
    → Sees Stay (refusal_life seen at) (refusal_life next at) run
unfolding refusal_after first_refused
finished_seen seen at run next test count runs = (
  ap (λ t. cond t (refusal_text (counted (seen + 1)) (refusal_of run.outcome)) (refusal_after (counted (seen + 1)) at runs)) test
      ∙ ap (λ n. refusal_after n at runs) (sym count),
  ap (λ t. option_map (λ n. n + 1) (cond t (Some 0) (option_map (λ n. n + 1) (first_refused runs)))) test,
)

pub refusal_told : (seen : ℕ) (at : Option RefusedAtValue) → refusal_after seen at [] ≡ refusal_text seen at
unfolding refusal_after
refusal_told seen at = refl

pub refusal_stays : (seen : ℕ) (at : Option RefusedAtValue) → leaves (refusal_life seen at) [] ≡ None
unfolding first_refused
refusal_stays seen at = refl

pub finished_alone : (seen : ℕ) (at : Option RefusedAtValue) (run : RunFrame) → is_refused run ≡ false
    → leaves (refusal_life seen at) (run ∷ []) ≡ None
unfolding first_refused
finished_alone seen at run test = ap (λ t. option_map (λ n. n + 1) (cond t (Some 0) None)) test

pub refused_alone : (seen : ℕ) (at : Option RefusedAtValue) (run : RunFrame) → is_refused run ≡ true
    → leaves (refusal_life seen at) (run ∷ []) ≡ Some 1
unfolding first_refused
refused_alone seen at run test = ap (λ t. option_map (λ n. n + 1) (cond t (Some 0) None)) test
