-- The reports of the audience that C's counters stand for.
use Rattle.std.proofs.Common.{◌≡◌, ℕ, ◌+◌, ◌<◌, ◌≤◌, ◌==◌, [], ◌∷◌, ◌++◌, Bool, true, false, Option, None, Some, sym, ap, ◌∙◌, arith}
use Rattle.std.proofs.Common.{append-nil}
use Rattle.c_types.specs.CValues.{place_of_refusal}
use Rattle.probes.specs.Reports.{AudienceState, reports, reported, in_turn}
use Rattle.probes.specs.Texts.{count_text, gap_text, refusal_text}
use Rattle.probes.specs.Shipped.{counted, count_life, gap_life, refusal_life, greatest_gap, first_refused, refusal_after}
use Rattle.probes.proofs.Lives.{gap_told}
use Rattle.det_verdict_c.specs.declared.reports.DetReports.{DetReports}
use Rattle.det_verdict_c.specs.Reports.{audience_of, last_of, gap_of}
use Rattle.det_verdict_c.proofs.Probes.{state}
use Rattle.det_verdict_c.proofs.Seen.{is-none}

-- the reports of those that stay, when no run comes any more
three-reports : (f r : ℕ) (last gap : Option ℕ) → f ≤ 4294967295 → r ≤ 4294967295
    → reports (count_life f r ∷ gap_life last gap ∷ refusal_life f None ∷ []) []
    ≡ count_text f r ++ (gap_text gap ++ (refusal_text f None ++ []))
unfolding reports in_turn greatest_gap first_refused refusal_after
three-reports f r last gap few few' =
    let finished : counted (f + 0) ≡ f = omega arith in
    let refused : counted (r + 0) ≡ r = omega arith in
    (λ i. count_text (finished i) (refused i) ++ (gap_text (gap_told last gap i) ++ (refusal_text f None ++ [])))

two-reports : (f r : ℕ) (last gap : Option ℕ) → f ≤ 4294967295 → r ≤ 4294967295
    → reports (count_life f r ∷ gap_life last gap ∷ []) [] ≡ count_text f r ++ (gap_text gap ++ [])
unfolding reports in_turn greatest_gap
two-reports f r last gap few few' =
    let finished : counted (f + 0) ≡ f = omega arith in
    let refused : counted (r + 0) ≡ r = omega arith in
    (λ i. count_text (finished i) (refused i) ++ (gap_text (gap_told last gap i) ++ []))

module _ (r : DetReports) (few : r.finished ≤ 4294967295) (few' : r.refused ≤ 4294967295) where
  abbrev audience : Bool → AudienceState
  audience t = state t (count_life r.finished r.refused) (gap_life (last_of r) (gap_of r)) (refusal_life r.finished None)
      (refusal_text r.refused_at (Some (place_of_refusal r.refusal)))

  pub reports-without-refusal : r.refused_at ≡ 0
      → count_text r.finished r.refused ++ (gap_text (gap_of r) ++ refusal_text 0 None) ≡ reported (audience_of r) []
  unfolding reports
  reports-without-refusal none =
      let test : (r.refused_at == 0) ≡ true = ap (λ n. n == 0) none in
      ap (λ l. count_text r.finished r.refused ++ (gap_text (gap_of r) ++ l)) (sym (append-nil (refusal_text 0 None)))
      ∙ sym (three-reports r.finished r.refused (last_of r) (gap_of r) few few') ∙ (λ i. reported (audience (sym test i)) [])

  pub reports-after-refusal : 0 < r.refused_at
      → refusal_text r.refused_at (Some (place_of_refusal r.refusal)) ++ (count_text r.finished r.refused ++ gap_text (gap_of r))
      ≡ reported (audience_of r) []
  reports-after-refusal more =
      let test : (r.refused_at == 0) ≡ false = is-none r.refused_at more in
      ap (λ l. refusal_text r.refused_at (Some (place_of_refusal r.refusal)) ++ (count_text r.finished r.refused ++ l))
      (sym (append-nil (gap_text (gap_of r))))
      ∙ ap (λ l. refusal_text r.refused_at (Some (place_of_refusal r.refusal)) ++ l)
      (sym (two-reports r.finished r.refused (last_of r) (gap_of r) few few'))
      ∙ (λ i. reported (audience (sym test i)) [])
