-- There is a first difference of two frames exactly where they aren't equal.
use Rattle.std.proofs.Common.{◌≡◌, ℕ, suc, ◌-◌, Bool, true, false, cond, nat_eq, List, [], ◌∷◌, Option, Some, None, refl, ap, subst, ◌∙◌}
use Rattle.std.specs.Option.{option_eq, option_map, option_or}
use Rattle.std.specs.Bool.{Decides}
use Rattle.std.specs.Cmp.Lexicographic.{pointwise, pointwise_decides}
use Rattle.det_values.specs.Values.{SampleValue}
use Rattle.det_values.specs.declared.frames.DrawnElement.{DrawnElement}
use Rattle.det_values.specs.declared.frames.RunFrame.{RunFrame}
use Rattle.det_values.specs.declared.frames.Outcome.{Outcome}
use Rattle.det_values.specs.declared.frames.Outcome.TheVariants.{Finished, Refused}
use Rattle.det_values.specs.declared.frames.Frame.{Frame}
use Rattle.det_values.specs.declared.frames.Frame.TheVariants.{Register, Discover, Init, Run, Terminate}
use Rattle.det_values.specs.contracts.refused_at.RefusedAtPartialEq.TheImpl as place
use Rattle.det_values.specs.contracts.sample.SamplePartialEq.TheImpl as sample
use Rattle.det_values.specs.Equal.{drawn_eq}
use Rattle.det_values.proofs.Equality.{place_decides, sample_decides, time_decides}
use Rattle.det_values.proofs.Same.{element_decides}
use Rattle.copies.specs.declared.difference.Difference.{Difference}
use Rattle.copies.specs.declared.difference.Difference.TheVariants as differences
use Rattle.copies.specs.FirstDifference.{first_apart, outcome_difference, run_difference, frame_difference}
use Rattle.copies.proofs.Equality.{bytes_decide}

-- none exactly where the two are equal
abbrev pub IsNoneIfSame : {A B : Type 0} → Option B → A → A → Type 0
IsNoneIfSame o a b = (o ≡ None → a ≡ b) × (a ≡ b → o ≡ None)

-- a test that goes on where it holds, and else reports something
guarded : {A B : Type 0} (r : Bool) (some : B) (more : Option B) (a b : A) → Decides r (a ≡ b)
    → (cond r more (Some some) ≡ None → (a ≡ b) × (more ≡ None)) × ((a ≡ b) → more ≡ None → cond r more (Some some) ≡ None)
guarded true some more a b h = (λ e. (h.0 refl, e), λ s e. e)
guarded false some more a b h = (λ e. absurd cc, λ s e. let no : false ≡ true = h.1 s in absurd cc)

-- ---- lists

apart-none : {A : Type 0} (same : A → A → Bool) → ((x y : A) → Decides (same x y) (x ≡ y)) → (n : ℕ) (xs ys : List A)
    → first_apart same n xs ys ≡ None → xs ≡ ys
apart-none same h n [] [] e = refl
apart-none same h n [] (y ∷ ys) e = absurd cc
apart-none same h n (x ∷ xs) [] e = absurd cc
apart-none same h n (x ∷ xs) (y ∷ ys) e =
    let both = (guarded (same x y) n (first_apart same (suc n) xs ys) x y (h x y)).0 e in
    ap (λ z. z ∷ xs) both.0 ∙ ap (λ zs. y ∷ zs) (apart-none same h (suc n) xs ys both.1)

apart-same : {A : Type 0} (same : A → A → Bool) → ((x y : A) → Decides (same x y) (x ≡ y)) → (n : ℕ) (xs : List A)
    → first_apart same n xs xs ≡ None
apart-same same h n [] = refl
apart-same same h n (x ∷ xs) =
    (guarded (same x x) n (first_apart same (suc n) xs xs) x x (h x x)).1 refl (apart-same same h (suc n) xs)

pub apart : {A : Type 0} (same : A → A → Bool) → ((x y : A) → Decides (same x y) (x ≡ y)) → (n : ℕ) (xs ys : List A)
    → IsNoneIfSame (first_apart same n xs ys) xs ys
apart same h n xs ys = (apart-none same h n xs ys, λ e. subst (λ zs. first_apart same n xs zs ≡ None) e (apart-same same h n xs))

abbrev element_difference : ℕ → Option ℕ → Option Difference
element_difference cycle n = option_map (differences.Element cycle) n

at-element : (cycle : ℕ) (o : Option ℕ) → (element_difference cycle o ≡ None → o ≡ None) × (o ≡ None → element_difference cycle o ≡ None)
at-element cycle (Some n) = (λ e. absurd cc, λ e. absurd cc)
at-element cycle None = (λ e. refl, λ e. refl)

-- ---- outcomes

either-none : {B : Type 0} (o p : Option B) → (option_or o p ≡ None → (o ≡ None) × (p ≡ None))
    × (o ≡ None → p ≡ None → option_or o p ≡ None)
either-none (Some x) p = (λ e. absurd cc, λ e f. absurd cc)
either-none None p = (λ e. (refl, e), λ e f. f)

-- elements that differ come before the output
pub unequal-elements : (cycle : ℕ) (es fs : List DrawnElement) (o p : List ℕ) → pointwise drawn_eq es fs ≡ false
    → element_difference cycle (first_apart drawn_eq 0 es fs) ≡ outcome_difference cycle (Finished es o) (Finished fs p)
unequal-elements cycle es fs o p e = by (first_apart drawn_eq 0 es fs) (λ none.
    differ (pointwise drawn_eq es fs) e ((pointwise_decides element_decides es fs).1 ((apart drawn_eq element_decides 0 es fs).0 none)))
  where
    differ : (r : Bool) → r ≡ false → r ≡ true → ⊥
    differ true e f = cc
    differ false e f = cc

    by : (n : Option ℕ) → (n ≡ None → ⊥) → element_difference cycle n
        ≡ option_or (element_difference cycle n) (cond (pointwise nat_eq o p) None (Some (differences.Output cycle)))
    by (Some n) some = refl
    by None some = absurd (some refl)

-- where the elements are equal, the output decides
pub equal-elements : (cycle : ℕ) (es fs : List DrawnElement) (o p : List ℕ) → pointwise drawn_eq es fs ≡ true
    → outcome_difference cycle (Finished es o) (Finished fs p) ≡ cond (pointwise nat_eq o p) None (Some (differences.Output cycle))
equal-elements cycle es fs o p e =
    ap (λ (n : Option ℕ). option_or (element_difference cycle n) (cond (pointwise nat_eq o p) None (Some (differences.Output cycle))))
    ((apart drawn_eq element_decides 0 es fs).1 ((pointwise_decides element_decides es fs).0 e))

outcome-apart : (cycle : ℕ) (a b : Outcome) → IsNoneIfSame (outcome_difference cycle a b) a b
outcome-apart cycle (Finished es o) (Finished fs p) =
    let parts = either-none (element_difference cycle (first_apart drawn_eq 0 es fs))
    (cond (pointwise nat_eq o p) None (Some (differences.Output cycle))) in
    let output = guarded (pointwise nat_eq o p) (differences.Output cycle) None o p (bytes_decide o p) in
    let elements = apart drawn_eq element_decides 0 es fs in
    let at = at-element cycle (first_apart drawn_eq 0 es fs) in (
      λ e. let both = parts.0 e in ap (λ x. Finished x o) (elements.0 (at.0 both.0)) ∙ ap (Finished fs) (output.0 both.1).0,
      λ e. parts.1 (at.1 (elements.1 (cc))) (output.1 (cc) refl),
    )
outcome-apart cycle (Finished es o) (Refused q) = (λ e. absurd cc, λ e. absurd cc)
outcome-apart cycle (Refused p) (Finished fs o) = (λ e. absurd cc, λ e. absurd cc)
outcome-apart cycle (Refused p) (Refused q) =
    let at = guarded (place.eq-value.it p q) (differences.Result cycle) None p q (place_decides p q) in
    (λ e. ap Refused (at.0 e).0, λ e. at.1 (cc) refl)

-- ---- runs and frames

abbrev make : Option ℕ → List SampleValue → Outcome → RunFrame
make time samples outcome = record { input = record { time = time; samples = samples }; outcome = outcome }

run-apart : (cycle : ℕ) (a b : RunFrame) → IsNoneIfSame (run_difference cycle a b) a b
run-apart cycle a b =
    let outcome = outcome-apart cycle a.outcome b.outcome in
    let samples = guarded (pointwise sample.eq-value.it a.input.samples b.input.samples) (differences.Samples cycle)
    (outcome_difference cycle a.outcome b.outcome) a.input.samples b.input.samples
    (pointwise_decides sample_decides a.input.samples b.input.samples) in
    let time = guarded (option_eq nat_eq a.input.time b.input.time) (differences.Time cycle)
    (cond (pointwise sample.eq-value.it a.input.samples b.input.samples) (outcome_difference cycle a.outcome b.outcome)
    (Some (differences.Samples cycle))) a.input.time b.input.time (time_decides a.input.time b.input.time) in (
      λ e. let t = time.0 e in let s = samples.0 t.1 in all t.0 s.0 (outcome.0 s.1),
      λ e. time.1 (ap (λ (r : RunFrame). r.input.time) e)
          (samples.1 (ap (λ (r : RunFrame). r.input.samples) e) (outcome.1 (ap (λ (r : RunFrame). r.outcome) e))),
    )
  where
    all : a.input.time ≡ b.input.time → a.input.samples ≡ b.input.samples → a.outcome ≡ b.outcome → a ≡ b
    all t s o =
        ap (λ x. make x a.input.samples a.outcome) t ∙ ap (λ x. make b.input.time x a.outcome) s ∙ ap (make b.input.time b.input.samples) o

pub frame-apart : (n : ℕ) (a b : Frame) → IsNoneIfSame (frame_difference n a b) a b
frame-apart n Register Register = (λ e. refl, λ e. refl)
frame-apart n Discover Discover = (λ e. refl, λ e. refl)
frame-apart n Terminate Terminate = (λ e. refl, λ e. refl)
frame-apart n (Init es) (Init fs) =
    let elements = apart (pointwise nat_eq) bytes_decide 0 es fs in
    let at = at-element (n - 2) (first_apart (pointwise nat_eq) 0 es fs) in
    (λ e. ap Init (elements.0 (at.0 e)), λ e. at.1 (elements.1 (cc)))
frame-apart n (Run r) (Run s) = let run = run-apart (n - 2) r s in (λ e. ap Run (run.0 e), λ e. run.1 (cc))
frame-apart n a b = (λ e. absurd cc, λ e. absurd cc)
