-- The first row that not all copies have equal.
use Rattle.std.proofs.Common.{◌≡◌, ◌≢◌, ◌<◌, ◌≤◌, ◌+◌, ◌⊎◌, inl, inr, ℕ, zero, suc, List, [], ◌∷◌, ◌++◌, length, map, true, false}
use Rattle.std.proofs.Common.{Option, Some, None, refl, sym, ap, ◌∙◌, arith, eqb}
use Rattle.std.specs.Option.{option_or, option_map}
use Rattle.std.proofs.lemmas.Bool.Decides.{eqb_tells}
use Rattle.std.proofs.lemmas.List.{length-map, map-append}
use Rattle.frame_queue.specs.declared.row.Row.{Row}
use Rattle.copies.specs.declared.row.Row.{Row as Read}
use Rattle.copies.specs.declared.verdict.Verdict.{Verdict}
use Rattle.copies.specs.declared.verdict.Verdict.TheVariants.{Differ}
use Rattle.copies.specs.Verdict.{row_difference, first_other}
use Rattle.twins.specs.TwinVerdict.{row_at, row_verdict, first_verdict}

or-none : {X : Type 0} (o : Option X) → option_or o None ≡ o
or-none None = refl
or-none (Some x) = refl

or-assoc : {X : Type 0} (a b c : Option X) → option_or (option_or a b) c ≡ option_or a (option_or b c)
or-assoc None b c = refl
or-assoc (Some x) b c = refl

-- ---- one row

-- one copy more
other-more : (n : ℕ) (first : Read) (copy : ℕ) (more : List Read) (row : Read) → first_other n first copy (more ++ row ∷ [])
    ≡ option_or (first_other n first copy more) (option_map (Differ (copy + length more)) (row_difference n first row))
other-more n first copy [] row =
    let k : copy ≡ copy + 0 = omega arith in
    or-none (option_map (Differ copy) (row_difference n first row)) ∙ ap (λ i. option_map (Differ i) (row_difference n first row)) k
other-more n first copy (r ∷ more) row =
    let k : (copy + 1) + length more ≡ copy + length (r ∷ more) = omega arith in
    let here : Option Verdict = option_map (Differ copy) (row_difference n first r) in
    ap (option_or here) (other-more n first (copy + 1) more row
    ∙ ap (λ i. option_or (first_other n first (copy + 1) more) (option_map (Differ i) (row_difference n first row))) k)
    ∙ sym (or-assoc here (first_other n first (copy + 1) more) (option_map (Differ (copy + length (r ∷ more)))
    (row_difference n first row)))

pub verdict-more : (f : ℕ) (ours : List Row) (others : List (List Row)) (rows : List Row) (copy : ℕ) → 1 + length others ≡ copy
    → row_verdict f ((ours ∷ others) ++ rows ∷ [])
    ≡ option_or (row_verdict f (ours ∷ others)) (option_map (Differ copy) (row_difference (f + 1) (row_at f ours) (row_at f rows)))
verdict-more f ours others rows copy e =
    let k : 1 + length (map (row_at f) others) ≡ copy = ap (λ n. 1 + n) (length-map others (row_at f)) ∙ e in
    ap (first_other (f + 1) (row_at f ours) 1) (map-append (row_at f) others (rows ∷ []))
    ∙ other-more (f + 1) (row_at f ours) 1 (map (row_at f) others) (row_at f rows)
    ∙ ap (λ i. option_or (row_verdict f (ours ∷ others)) (option_map (Differ i) (row_difference (f + 1) (row_at f ours) (row_at f rows)))) k

-- the verdict on a row is one on what is there
of_reads : ℕ → List Read → Option Verdict
of_reads f [] = None
of_reads f (ours ∷ others) = first_other (f + 1) ours 1 others

by-reads : (f : ℕ) (copies : List (List Row)) → row_verdict f copies ≡ of_reads f (map (row_at f) copies)
unfolding of_reads
by-reads f [] = refl
by-reads f (ours ∷ others) = refl

pub same-verdict : (f : ℕ) (copies others : List (List Row)) → map (row_at f) copies ≡ map (row_at f) others
    → row_verdict f copies ≡ row_verdict f others
same-verdict f copies others e = by-reads f copies ∙ ap (of_reads f) e ∙ sym (by-reads f others)

-- ---- all rows

pub first-none : (f more : ℕ) (copies : List (List Row)) → ((g : ℕ) → f ≤ g → g < f + more → row_verdict g copies ≡ None)
    → first_verdict f more copies ≡ None
first-none f zero copies h = refl
first-none f (suc more) copies h =
    ap (λ o. option_or o (first_verdict (f + 1) more copies)) (h f (omega arith) (omega arith))
    ∙ first-none (f + 1) more copies (λ g a b. h g (omega arith) (omega arith))

pub first-some : (f more : ℕ) (copies : List (List Row)) (verdict : Verdict) (at : ℕ)
    → ((g : ℕ) → g < at → row_verdict g copies ≡ None) → f ≤ at → at < f + more → row_verdict at copies ≡ Some verdict
    → first_verdict f more copies ≡ Some verdict
first-some f zero copies verdict at none from within is = absurd (omega arith)
first-some f (suc more) copies verdict at none from within is =
    by (eqb_tells f at) (λ low. first-some (f + 1) more copies verdict at none low (omega arith) is)
  where
    by : ((eqb f at ≡ true) × (f ≡ at)) ⊎ ((eqb f at ≡ false) × (f ≢ at))
        → (f + 1 ≤ at → first_verdict (f + 1) more copies ≡ Some verdict) → first_verdict f (suc more) copies ≡ Some verdict
    by (inl e) later = ap (λ o. option_or o (first_verdict (f + 1) more copies)) (ap (λ g. row_verdict g copies) e.1 ∙ is)
    by (inr e) later =
        let ne = e.1 in
        ap (λ o. option_or o (first_verdict (f + 1) more copies)) (none f (omega arith)) ∙ later (omega arith)
