-- What a cycle keeps of a job's state, and the outcome of it.
use Rattle.std.proofs.Common.{◌≡◌, ℕ, ℤ, zero, suc, ◌+◌, ◌-◌, ◌*◌, ◌<◌, ◌≤◌, List, [], ◌∷◌, length, Option, Result, Ok, Err, refl, sym, ap}
use Rattle.std.proofs.Common.{◌∙◌, subst, arith}
use Rattle.std.specs.List.{All}
use Rattle.std.proofs.lemmas.List.Elements.{All-nil, All-cons, All-head, All-tail, All-weaker}
use Rattle.det_values.specs.declared.format.Format.TheVariants.{Two}
use Rattle.det_values.specs.Values.{RefusedAtValue}
use Rattle.job.specs.event_cache.Windows.{AreWindows}
use Rattle.job.specs.declared.job_results.Conclusion.{Conclusion}
use Rattle.job.specs.Meaning.{Meaning, Preparation}
use Rattle.job.specs.Laws.{JobLaws, CoversSome}
use Rattle.job.specs.Pass.{PassResult, Refusal, passed}
use Rattle.job.specs.Cycle.{State, Done, added, refused_in_prepare, refused_in_conclude, in_pool, shown_with, next_pass, first_pass}
use Rattle.job.specs.Cycle.{passes_on, all_passes, concluded, cycle_result, outcome_of, state_after}
use Rattle.record_grammar.specs.Spelling.{IsDrawn, IsRefusal, IsOutcome}
use Rattle.run_laws.proofs.SpelledJob.{IsSpelledJob}
use Rattle.run_laws.proofs.Passing.{IsKept, IsPassed, pass_kept}

length-added : (xs ys : List ℕ) → length xs ≡ length ys → length (added xs ys) ≡ length xs
length-added [] ys e = refl
length-added (x ∷ xs) [] e = absurd (omega arith)
length-added (x ∷ xs) (y ∷ ys) e = ap suc (length-added xs ys (omega arith))

few-added : (a b c : ℕ) (xs ys : List ℕ) → c ≡ a + b → All (λ n. n ≤ a) xs → All (λ n. n ≤ b) ys → All (λ n. n ≤ c) (added xs ys)
few-added a b c [] ys e h k = All-nil (λ n. n ≤ c)
few-added a b c (x ∷ xs) [] e h k = All-nil (λ n. n ≤ c)
few-added a b c (x ∷ xs) (y ∷ ys) e h k =
    let p : x ≤ a = All-head (λ n. n ≤ a) x xs h in
    let q : y ≤ b = All-head (λ n. n ≤ b) y ys k in
    All-cons (λ n. n ≤ c) (x + y) (added xs ys) (omega arith) (few-added a b c xs ys e (All-tail (λ n. n ≤ a) x xs h)
    (All-tail (λ n. n ≤ b) y ys k))

-- after p passes over n elements: they are kept, or one of them refused
abbrev ArePassed : {S E P : Type 0} → (S → P → ℕ → Type 0) → (S → E → Type 0) → S → ℕ → ℕ → Result (PassResult E P) RefusedAtValue → Type 0
ArePassed Covers Own j n p (Ok done) = IsKept Covers Own j n (p * 65535) done
ArePassed Covers Own j n p (Err at) = IsRefusal at

-- a cycle keeps the state's elements the job's own, and has an outcome that can be spelled
pub record IsCycled {S G E : Type 0} (Own : S → E → Type 0) (j : S) (old : State G E) (cycle : Result (Done G E) RefusedAtValue) : Type 0
  where
    pub outcome : IsOutcome Two (outcome_of cycle)
    pub own : All (Own j) (state_after old cycle).elements
    pub many : length (state_after old cycle).elements ≡ length old.elements

module _ {S G E L P : Type 0} (m : Meaning S G E L P) (Covers : S → P → ℕ → Type 0) (Own : S → E → Type 0) (Fit : S → L → Type 0)
    (laws : JobLaws m Covers Own Fit) (spells : IsSpelledJob m) (j : S) where
  -- ---- passes

  module _ (plan : L) (fit : Fit j plan) (seed cycle n : ℕ) (few : n ≤ 65536) where
    -- the answer of pass number p, added to what was drawn before it
    pooled : (p : ℕ) (change : PassResult E P → PassResult E P) (r : Result (PassResult E P) Refusal) → p < 8 → IsPassed Covers Own j n r
        → ((next : PassResult E P) → IsKept Covers Own j n 65535 next → IsKept Covers Own j n ((p + 1) * 65535) (change next))
        → ArePassed Covers Own j n (p + 1) (in_pool p change r)
    pooled p change (Ok next) below h more = more next h
    pooled p change (Err r) below h more = ((below, omega (arith, h.0)), h.1)

    with_words : (p : ℕ) (done next : PassResult E P) → IsKept Covers Own j n (p * 65535) done → IsKept Covers Own j n 65535 next
        → IsKept Covers Own j n ((p + 1) * 65535) (record {
          elements = next.elements;
          draws = added done.draws next.draws;
          part = next.part;
        })
    with_words p done next h k = record {
      own = k.own;
      many = k.many;
      drew = length-added done.draws next.draws (h.drew ∙ sym k.drew) ∙ h.drew;
      few_drawn = few-added (p * 65535) 65535 ((p + 1) * 65535) done.draws next.draws (omega arith) h.few_drawn k.few_drawn;
      covers = k.covers;
    }

    pass_is : (carry : P) (p : ℕ) (es : List E) → length es ≡ n → p < m.passes_of j plan → CoversSome (Covers j) carry → All (Own j) es
        → IsPassed Covers Own j n (passed m j plan carry seed cycle p es)
    pass_is carry p es many below carried own =
        subst (λ (k : ℕ). IsPassed Covers Own j k (passed m j plan carry seed cycle p es)) many
        (pass_kept m Covers Own Fit laws spells j plan fit carry seed cycle p below carried es (omega arith) own)

    next_is : (p : ℕ) (done : PassResult E P) → p < m.passes_of j plan → IsKept Covers Own j n (p * 65535) done
        → ArePassed Covers Own j n (p + 1) (next_pass m j plan seed cycle p done)
    next_is p done below h =
        pooled p (λ next. record { elements = next.elements; draws = added done.draws next.draws; part = next.part })
        (passed m j plan done.part seed cycle p done.elements)
        (let most = (laws.fit_passes j plan fit).1 in omega (arith, most))
        (pass_is done.part p done.elements h.many below (n, few, h.covers) h.own)
        (λ next k. with_words p done next h k)

    first_is : (es : List E) → length es ≡ n → All (Own j) es → ArePassed Covers Own j n 1 (first_pass m j plan seed cycle es)
    first_is es many own =
        let some = (laws.fit_passes j plan fit).0 in
        pooled 0 (λ first. first) (passed m j plan (m.unit_part j) seed cycle 0 es) (omega arith)
        (pass_is (m.unit_part j) 0 es many (omega (arith, some)) (0, omega arith, laws.covers_unit j) own)
        (λ next k. k)

    others_are : (more p q : ℕ) (r : Result (PassResult E P) RefusedAtValue) → q ≡ p + more → q ≤ m.passes_of j plan
        → ArePassed Covers Own j n p r
        → ArePassed Covers Own j n q (passes_on m j plan seed cycle more p r)
    others_are zero p q (Err at) e below h = h
    others_are (suc more) p q (Err at) e below h = h
    others_are zero p q (Ok done) e below h = subst (λ (k : ℕ). IsKept Covers Own j n (k * 65535) done) (omega arith) h
    others_are (suc more) p q (Ok done) e below h =
        others_are more (p + 1) q (next_pass m j plan seed cycle p done) (omega arith) below (next_is p done (omega arith) h)

    all_are : (es : List E) → length es ≡ n → All (Own j) es → ArePassed Covers Own j n (m.passes_of j plan)
        (all_passes m j plan seed cycle es)
    all_are es many own =
        let some = (laws.fit_passes j plan fit).0 in
        others_are (m.passes_of j plan - 1) 1 (m.passes_of j plan) (first_pass m j plan seed cycle es) (omega (arith, some)) (omega arith)
        (first_is es many own)

  -- ---- the sequential end

  length-shown : (es : List E) (ds : List ℕ) → length es ≡ length ds → length (shown_with m j es ds) ≡ length es
  length-shown [] ds e = refl
  length-shown (x ∷ es) [] e = absurd (omega arith)
  length-shown (x ∷ es) (d ∷ ds) e = ap suc (length-shown es ds (omega arith))

  shown_drawn : (es : List E) (ds : List ℕ) → All (Own j) es → All (λ d. d ≤ 524280) ds → All (IsDrawn Two) (shown_with m j es ds)
  shown_drawn [] ds own few = All-nil (IsDrawn Two)
  shown_drawn (x ∷ es) [] own few = All-nil (IsDrawn Two)
  shown_drawn (x ∷ es) (d ∷ ds) own few =
      let low : d ≤ 524280 = All-head (λ d. d ≤ 524280) d ds few in
      let short = laws.shown_few j x (All-head (Own j) x es own) in
      All-cons (IsDrawn Two) _ _ ((short, spells.shown j x), omega arith, tt)
      (shown_drawn es ds (All-tail (Own j) x es own) (All-tail (λ d. d ≤ 524280) d ds few))

  module _ (old : State G E) (few : length old.elements ≤ 65536) (own : All (Own j) old.elements) where
    kept_as_it_was : (at : RefusedAtValue) → IsRefusal at → IsCycled Own j old (Err at)
    kept_as_it_was at h = record { outcome = h; own = own; many = refl }

    ended : (globals : G) (plan : L) (seed : ℕ) (last : PassResult E P) → IsKept Covers Own j (length old.elements) 524280 last
        → (r : Result (Conclusion G) ℕ) → m.concluded j globals plan last.part ≡ r
        → IsCycled Own j old (elim r [
          | Ok d ↦ Ok (record {
            state = record { globals = d.globals; elements = last.elements; seed = seed };
            shown = shown_with m j last.elements last.draws;
            output = d.output;
          })
          | Err code ↦ Err (refused_in_conclude code)
        ])
    ended globals plan seed last kept (Ok d) came =
        let same : length last.elements ≡ length last.draws = kept.many ∙ sym kept.drew in
        let shown : length (shown_with m j last.elements last.draws) ≡ length old.elements =
        length-shown last.elements last.draws same ∙ kept.many in
        record {
          outcome = (
            omega (arith, shown),
            shown_drawn last.elements last.draws kept.own kept.few_drawn,
            (laws.output_few j globals plan last.part d came, spells.output j globals plan last.part d came),
          );
          own = kept.own;
          many = kept.many;
        }
    ended globals plan seed last kept (Err code) came =
        kept_as_it_was (refused_in_conclude code) ((omega arith, omega arith), spells.conclude_code j globals plan last.part code came)

    few_words : (n p : ℕ) (last : PassResult E P) → p ≤ 8 → IsKept Covers Own j n (p * 65535) last → IsKept Covers Own j n 524280 last
    few_words n p last few_passes h = record {
      own = h.own;
      many = h.many;
      drew = h.drew;
      few_drawn = All-weaker (λ d. d ≤ p * 65535) (λ d. d ≤ 524280) (λ d k. omega arith) last.draws h.few_drawn;
      covers = h.covers;
    }

    after_passes : (plan : L) (seed p : ℕ) (r : Result (PassResult E P) RefusedAtValue) → p ≤ 8
        → ArePassed Covers Own j (length old.elements) p r
        → IsCycled Own j old (elim r [ Ok last ↦ concluded m j old.globals plan seed last | Err at ↦ Err at ])
    after_passes plan seed p (Ok last) few_passes h =
        ended old.globals plan seed last (few_words (length old.elements) p last few_passes h) (m.concluded j old.globals plan last.part)
        refl
    after_passes plan seed p (Err at) few_passes h = kept_as_it_was at h

    module _ (windows : List (List ℤ)) (are : AreWindows (m.events j) windows) (cycle : ℕ) (time next : Option ℕ) where
      begun : (r : Result (Preparation L) ℕ) → m.prepared j old.globals old.elements windows old.seed cycle time next ≡ r
          → IsCycled Own j old (elim r [
            | Ok p ↦ elim (all_passes m j p.plan p.seed cycle old.elements) [
              | Ok last ↦ concluded m j old.globals p.plan p.seed last
              | Err at ↦ Err at
            ]
            | Err code ↦ Err (refused_in_prepare code)
          ])
      begun (Ok p) came =
          let fit = laws.fit_prepared j old.globals old.elements windows old.seed cycle time next p own few are came in
          after_passes p.plan p.seed (m.passes_of j p.plan) (all_passes m j p.plan p.seed cycle old.elements)
          (laws.fit_passes j p.plan fit).1
          (all_are p.plan fit p.seed cycle (length old.elements) few old.elements refl own)
      begun (Err code) came =
          kept_as_it_was (refused_in_prepare code) (
            (omega arith, omega arith),
            spells.prepare_code j old.globals old.elements windows old.seed cycle time next code came,
          )

      pub cycle_is : IsCycled Own j old (cycle_result m j old windows cycle time next)
      cycle_is = begun (m.prepared j old.globals old.elements windows old.seed cycle time next) refl
