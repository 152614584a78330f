-- The bytes of reports that are left to append.
use Rattle.std.proofs.Common.{◌≡◌, ℕ, suc, ◌+◌, ◌<◌, ◌≤◌, List, [], ◌∷◌, ◌++◌, length, drop, get_or, refl, sym, ap, ◌∙◌, append_assoc}
use Rattle.std.proofs.Common.{append-nil, drop-cons, arith}
use Rattle.std.proofs.lemmas.List.{drop_all}
use Rattle.record_json.specs.Reports.{report_byte, inner_text}

inner_cons : (b : ℕ) (rest : List ℕ) → inner_text (b ∷ rest) ≡ report_byte b rest ++ inner_text rest
unfolding inner_text
inner_cons b rest = refl

inner_nil : inner_text [] ≡ []
unfolding inner_text
inner_nil = refl

-- one byte more was appended
pub inner_next : (reports : List ℕ) (i d : ℕ) (all old new : List ℕ) → i < length reports → old ++ inner_text (drop i reports) ≡ all
    → new ≡ old ++ report_byte (get_or reports i d) (drop (i + 1) reports) → new ++ inner_text (drop (i + 1) reports) ≡ all
inner_next reports i d all old new lt h e =
    let step : suc i ≡ i + 1 = omega arith in
    let rest : List ℕ = drop (i + 1) reports in
    let b : ℕ = get_or reports i d in
    let front : drop i reports ≡ b ∷ rest = drop-cons reports i d lt ∙ ap (λ (n : ℕ). b ∷ drop n reports) step in
    ap (λ (l : List ℕ). l ++ inner_text rest) e ∙ append_assoc old (report_byte b rest) (inner_text rest)
    ∙ ap (λ (l : List ℕ). old ++ l) (sym (ap inner_text front ∙ inner_cons b rest)) ∙ h

-- none is left
pub inner_none : (reports : List ℕ) (i : ℕ) (all new : List ℕ) → length reports ≤ i → new ++ inner_text (drop i reports) ≡ all → new ≡ all
inner_none reports i all new le h =
    sym (append-nil new) ∙ ap (λ (l : List ℕ). new ++ l) (sym (ap inner_text (drop_all i reports le) ∙ inner_nil)) ∙ h
