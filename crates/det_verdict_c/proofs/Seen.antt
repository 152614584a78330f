-- What C's counters see of a run is what the audience that they stand for sees of it.
use Rattle.std.proofs.Common.{◌≡◌, ℕ, ◌+◌, ◌<◌, ◌==◌, List, [], ◌∷◌, Bool, true, false, cond, Some, None, refl, sym, ap, ◌∙◌}
use Rattle.std.proofs.Common.{arith, subst}
use Rattle.std.specs.List.{count_by}
use Rattle.std.proofs.lemmas.Bool.Decides.{nat_tests}
use Rattle.std.proofs.lemmas.List.Sums.{sum_by-cons}
use Rattle.det_values.specs.Values.{RefusedAtValue}
use Rattle.det_values.specs.declared.frames.RunFrame.{RunFrame}
use Rattle.det_values.specs.declared.frames.Outcome.{Outcome}
use Rattle.det_values.specs.declared.frames.Outcome.TheVariants.{Finished, Refused}
use Rattle.c_types.specs.declared.frame.DetFrame.{DetFrame}
use Rattle.c_types.specs.CValues.{time_of, place_of_refusal}
use Rattle.probes.specs.declared.probe.ProbeStep.TheVariants.{Stay}
use Rattle.probes.specs.Reports.{ProbeLife, AudienceState, Sees}
use Rattle.probes.specs.Shows.{Shows}
use Rattle.probes.specs.Texts.{count_text, gap_text, refusal_text}
use Rattle.probes.specs.Shipped.{counted, refusal_of, outcome_refused, outcome_finished, is_refused, is_finished}
use Rattle.probes.specs.Shipped.{count_life, gap_life, refusal_life, gap_between, greater, greatest_gap}
use Rattle.probes.proofs.Lives.{gap_more, refused_seen, finished_seen, refusal_told}
use Rattle.det_verdict_c.specs.declared.reports.DetReports.{DetReports}
use Rattle.det_verdict_c.specs.Reports.{audience_of, last_of, gap_of, IsViewOf}
use Rattle.det_verdict_c.proofs.Probes.{state, shown-leaving, shown-after, shown-staying}

-- ---- the outcome of a run

is-refused : (outcome : Outcome) (at : RefusedAtValue) → refusal_of outcome ≡ Some at → outcome ≡ Refused at
is-refused (Refused b) at e = cc
is-refused (Finished elements output) at e = cc

is-finished : (outcome : Outcome) → refusal_of outcome ≡ None → outcome_finished outcome ≡ true
is-finished (Refused b) e = cc
is-finished (Finished elements output) e = refl

isnt-refused : (outcome : Outcome) → refusal_of outcome ≡ None → outcome_refused outcome ≡ false
isnt-refused (Refused b) e = cc
isnt-refused (Finished elements output) e = refl

-- ---- one more run, counted

-- the count of those that pass a test, after one more that does and that doesn't
count-yes : (test : RunFrame → Bool) (n m : ℕ) (run : RunFrame) (runs : List RunFrame) → test run ≡ true → m ≡ counted (n + 1)
    → counted (n + count_by test (run ∷ runs)) ≡ counted (m + count_by test runs)
count-yes test n m run runs passes is =
    let k = count_by test runs in
    let more : counted (n + (1 + k)) ≡ counted (m + k) = omega arith in
    ap (λ c. counted (n + c)) (sum_by-cons (λ r. cond (test r) 1 0) run runs ∙ ap (λ t. cond t 1 0 + k) passes) ∙ more

count-no : (test : RunFrame → Bool) (n : ℕ) (run : RunFrame) (runs : List RunFrame) → test run ≡ false
    → counted (n + count_by test (run ∷ runs)) ≡ counted (n + count_by test runs)
count-no test n run runs fails =
    let k = count_by test runs in
    let same : counted (n + (0 + k)) ≡ counted (n + k) = omega arith in
    ap (λ c. counted (n + c)) (sum_by-cons (λ r. cond (test r) 1 0) run runs ∙ ap (λ t. cond t 1 0 + k) fails) ∙ same

count-finished : (f r f' : ℕ) (run : RunFrame) → is_finished run ≡ true → is_refused run ≡ false → f' ≡ counted (f + 1)
    → Sees Stay (count_life f r) (count_life f' r) run
count-finished f r f' run finished refused is runs = (
  (λ i. count_text (count-yes is_finished f f' run runs finished is i) (count-no is_refused r run runs refused i)),
  refl,
)

count-refused : (f r r' : ℕ) (run : RunFrame) → is_finished run ≡ false → is_refused run ≡ true → r' ≡ counted (r + 1)
    → Sees Stay (count_life f r) (count_life f r') run
count-refused f r r' run finished refused is runs = (
  (λ i. count_text (count-no is_finished f run runs finished i) (count-yes is_refused r r' run runs refused is i)),
  refl,
)

-- ---- the counters

pub is-none : (n : ℕ) → 0 < n → (n == 0) ≡ false
is-none n more = grind (arith, nat_tests)

module _ (old new : DetReports) (f : DetFrame) (run : RunFrame) (view : IsViewOf f run) (last : last_of new ≡ run.input.time)
    (gap : gap_of new ≡ greater (gap_of old) (gap_between (last_of old) run.input.time)) where
  gap-sees : Sees Stay (gap_life (last_of old) (gap_of old)) (gap_life (last_of new) (gap_of new)) run
  gap-sees runs = (
    ap gap_text (gap_more (last_of old) (gap_of old) run runs ∙ (λ i. greater (sym gap i) (greatest_gap (sym last i) runs))),
    refl,
  )

  abbrev old-count : ProbeLife
  old-count = count_life old.finished old.refused

  abbrev new-count : ProbeLife
  new-count = count_life new.finished new.refused

  abbrev old-gap : ProbeLife
  old-gap = gap_life (last_of old) (gap_of old)

  abbrev new-gap : ProbeLife
  new-gap = gap_life (last_of new) (gap_of new)

  abbrev old-text : List ℕ
  old-text = refusal_text old.refused_at (Some (place_of_refusal old.refusal))

  abbrev new-text : List ℕ
  new-text = refusal_text new.refused_at (Some (place_of_refusal new.refusal))

  -- the audience of the old and of the new counters, by whether a refusal was seen
  abbrev old-state : Bool → AudienceState
  old-state t = state t old-count old-gap (refusal_life old.finished None) old-text

  abbrev new-state : Bool → List ℕ → AudienceState
  new-state t text = state t new-count new-gap (refusal_life new.finished None) text

  -- no other refusal was seen
  kept : new.refused_at ≡ old.refused_at → new.refusal ≡ old.refusal → new-state (old.refused_at == 0) old-text ≡ audience_of new
  kept at refusal = (λ i. new-state (sym at i == 0) (refusal_text (sym at i) (Some (place_of_refusal (sym refusal i)))))

  -- of a finished run
  pub shown-finished : f.refused ≡ false → new.finished ≡ counted (old.finished + 1) → new.refused ≡ old.refused
      → new.refused_at ≡ old.refused_at → new.refusal ≡ old.refusal → Shows (audience_of old) (audience_of new) (run ∷ [])
  shown-finished whole finished refused at refusal =
      let none : refusal_of run.outcome ≡ None = view.refusal ∙ ap (λ t. cond t (Some (place_of_refusal f.refusal)) None) whole in
      let counts : Sees Stay old-count new-count run =
      subst (λ r. Sees Stay old-count (count_life new.finished r) run) (sym refused)
      (count-finished old.finished old.refused new.finished run (is-finished run.outcome none) (isnt-refused run.outcome none) finished) in
      let stays = finished_seen old.finished None run new.finished (isnt-refused run.outcome none) finished in
      subst (λ s. Shows (audience_of old) s (run ∷ [])) (kept at refusal)
      (shown-staying run old-count old-gap new-count new-gap counts gap-sees (old.refused_at == 0) (refusal_life old.finished None)
      (refusal_life new.finished None) old-text stays)

  module _ (known : f.refused ≡ true) (finished : new.finished ≡ old.finished) (refused : new.refused ≡ counted (old.refused + 1)) where
    outcome-is : run.outcome ≡ Refused (place_of_refusal f.refusal)
    outcome-is = is-refused run.outcome (place_of_refusal f.refusal)
        (view.refusal ∙ ap (λ t. cond t (Some (place_of_refusal f.refusal)) None) known)

    counts-sees : Sees Stay old-count new-count run
    counts-sees = subst (λ n. Sees Stay old-count (count_life n new.refused) run) (sym finished)
        (count-refused old.finished old.refused new.refused run (ap outcome_finished outcome-is) (ap outcome_refused outcome-is) refused)

    -- of the first refused run
    pub shown-first : old.refused_at ≡ 0 → new.refused_at ≡ counted (old.finished + 1) → new.refusal ≡ f.refusal
        → Shows (audience_of old) (audience_of new) (run ∷ [])
    shown-first none at refusal =
        let left = refusal_life new.refused_at (Some (place_of_refusal f.refusal)) in
        let leaves = refused_seen old.finished None run (place_of_refusal f.refusal) new.refused_at outcome-is at in
        let text : left.report_after [] ≡ new-text = refusal_told new.refused_at (Some (place_of_refusal f.refusal))
        ∙ ap (λ r. refusal_text new.refused_at (Some (place_of_refusal r))) (sym refusal) in
        let before : old-state true ≡ audience_of old = ap old-state (sym (ap (λ n. n == 0) none)) in
        let is_later : (new.refused_at == 0) ≡ false = is-none new.refused_at (let more : 0 < new.refused_at = omega arith in more) in
        let after : new-state false (left.report_after []) ≡ audience_of new = ap (new-state false) text
        ∙ ap (λ t. new-state t new-text) (sym is_later) in
        let shown : Shows (old-state true) (new-state false (left.report_after [])) (run ∷ []) =
        shown-leaving run old-count old-gap new-count new-gap counts-sees gap-sees (refusal_life old.finished None) left leaves in
        subst (λ s. Shows s (audience_of new) (run ∷ [])) before (subst (λ s. Shows (old-state true) s (run ∷ [])) after shown)

    -- of a later one
    pub shown-later : 0 < old.refused_at → new.refused_at ≡ old.refused_at → new.refusal ≡ old.refusal
        → Shows (audience_of old) (audience_of new) (run ∷ [])
    shown-later more at refusal =
        let is_later : (old.refused_at == 0) ≡ false = is-none old.refused_at more in
        let before : old-state false ≡ audience_of old = ap old-state (sym is_later) in
        let after : new-state false old-text ≡ audience_of new = ap (λ t. new-state t old-text) (sym is_later) ∙ kept at refusal in
        let shown : Shows (old-state false) (new-state false old-text) (run ∷ []) =
        shown-after run old-count old-gap new-count new-gap counts-sees gap-sees old-text in
        subst (λ s. Shows s (audience_of new) (run ∷ [])) before (subst (λ s. Shows (old-state false) s (run ∷ [])) after shown)

-- ---- the steps of a call

module _ (old mid new : DetReports) (f : DetFrame) (run : RunFrame) (view : IsViewOf f run) (last : last_of mid ≡ time_of f.time)
    (gap : gap_of mid ≡ greater (gap_of old) (gap_between (last_of old) (time_of f.time)))
    (rest : mid ≡ record old { last_time = mid.last_time; gap = mid.gap; has_last = mid.has_last; has_gap = mid.has_gap }) where
  last-is : last_of new ≡ last_of mid → last_of new ≡ run.input.time
  last-is same = same ∙ last ∙ sym view.time

  gap-is : gap_of new ≡ gap_of mid → gap_of new ≡ greater (gap_of old) (gap_between (last_of old) run.input.time)
  gap-is same = same ∙ gap ∙ ap (λ t. greater (gap_of old) (gap_between (last_of old) t)) (sym view.time)

  same-finished : mid.finished ≡ old.finished
  same-finished = ap (λ (r : DetReports). r.finished) rest

  same-refused : mid.refused ≡ old.refused
  same-refused = ap (λ (r : DetReports). r.refused) rest

  same-at : mid.refused_at ≡ old.refused_at
  same-at = ap (λ (r : DetReports). r.refused_at) rest

  same-refusal : mid.refusal ≡ old.refusal
  same-refusal = ap (λ (r : DetReports). r.refusal) rest

  pub seen-finished : f.refused ≡ false → new ≡ record mid { finished = counted (mid.finished + 1) }
      → Shows (audience_of old) (audience_of new) (run ∷ [])
  seen-finished whole step =
      shown-finished old new f run view (last-is (ap last_of step)) (gap-is (ap gap_of step)) whole
      (ap (λ (r : DetReports). r.finished) step ∙ ap (λ n. counted (n + 1)) same-finished)
      (ap (λ (r : DetReports). r.refused) step ∙ same-refused) (ap (λ (r : DetReports). r.refused_at) step ∙ same-at)
      (ap (λ (r : DetReports). r.refusal) step ∙ same-refusal)

  pub seen-first : f.refused ≡ true → mid.refused_at ≡ 0 → new ≡ record mid {
    refused = counted (mid.refused + 1);
    refused_at = counted (mid.finished + 1);
    refusal = f.refusal;
  }
      → Shows (audience_of old) (audience_of new) (run ∷ [])
  seen-first known none step =
      shown-first old new f run view (last-is (ap last_of step)) (gap-is (ap gap_of step)) known
      (ap (λ (r : DetReports). r.finished) step ∙ same-finished)
      (ap (λ (r : DetReports). r.refused) step ∙ ap (λ n. counted (n + 1)) same-refused) (sym same-at ∙ none)
      (ap (λ (r : DetReports). r.refused_at) step ∙ ap (λ n. counted (n + 1)) same-finished)
      (ap (λ (r : DetReports). r.refusal) step)

  pub seen-later : f.refused ≡ true → (mid.refused_at ≡ 0 → ⊥) → new ≡ record mid { refused = counted (mid.refused + 1) }
      → Shows (audience_of old) (audience_of new) (run ∷ [])
  seen-later known some step =
      let more : 0 < mid.refused_at = omega arith in
      shown-later old new f run view (last-is (ap last_of step)) (gap-is (ap gap_of step)) known
      (ap (λ (r : DetReports). r.finished) step ∙ same-finished)
      (ap (λ (r : DetReports). r.refused) step ∙ ap (λ n. counted (n + 1)) same-refused) (subst (λ n. 0 < n) same-at more)
      (ap (λ (r : DetReports). r.refused_at) step ∙ same-at) (ap (λ (r : DetReports). r.refusal) step ∙ same-refusal)
