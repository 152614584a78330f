-- A walk over a `DrawnBlock`: its next element, and its end.
use Rattle.std.proofs.Common.{◌≡◌, ℕ, zero, suc, ◌-◌, ◌<◌, ◌≤◌, List, [], ◌∷◌, ◌++◌, length, refl, sym, ap, subst, ◌∙◌, arith}
use Rattle.std.specs.List.{All}
use Rattle.std.proofs.lemmas.List.{nil_from_length}
use Rattle.std.proofs.lemmas.List.Elements.{All-head, All-tail}
use Rattle.det_values.specs.declared.frames.DrawnElement.{DrawnElement}
use Rattle.det_values.specs.Spelling.{spelled_drawn, spelled_all, IsDrawn, IsFlat, elements_in, first_of, after_first, BeginsWith}
use Rattle.det_values.specs.Spelling.{BeginsWithNone}
use Rattle.det_values.proofs.FlatReading.{first_is, behind_is, length-elements_in}

pub walk_ended : (es : List DrawnElement) (n : ℕ) (bytes : List ℕ) → elements_in n bytes ≡ es → n ≡ 0 → es ≡ []
walk_ended es n bytes v e = nil_from_length es (omega (arith, ap length v, length-elements_in n bytes))

pub record Taken (es : List DrawnElement) (n : ℕ) (e : DrawnElement) (rest : List ℕ) : Type 0 where
  pub parts : es ≡ e ∷ elements_in n rest
  pub flat : IsFlat n rest

one_more : (n : ℕ) (bytes : List ℕ) → elements_in (suc n) bytes ≡ first_of bytes ∷ elements_in n (after_first bytes)
unfolding elements_in
one_more n bytes = refl

taken : (n : ℕ) (bytes rest : List ℕ) (e : DrawnElement) → IsFlat (suc n) bytes → BeginsWith e rest bytes
    → Taken (elements_in (suc n) bytes) n e rest
taken n bytes rest e h b =
    let f : first_of bytes ≡ e = ap first_of b.spelling ∙ first_is e rest b.fields in
    let r : after_first bytes ≡ rest = ap after_first b.spelling ∙ behind_is e rest b.fields in
    let parts : elements_in (suc n) bytes ≡ e ∷ elements_in n rest = one_more n bytes
    ∙ ap (λ (x : DrawnElement). x ∷ elements_in n (after_first bytes)) f ∙ ap (λ (xs : List ℕ). e ∷ elements_in n xs) r in
    let s : bytes ≡ spelled_drawn e ++ spelled_all (elements_in n rest) = h.spelling ∙ ap spelled_all parts in
    let few : suc n ≤ 65536 = h.few in
    record {
      parts = parts;
      flat = record {
        spelling = sym r ∙ ap after_first s ∙ behind_is e (spelled_all (elements_in n rest)) b.fields;
        fields = All-tail IsDrawn e (elements_in n rest) (subst (All IsDrawn) parts h.fields);
        few = omega arith;
      };
    }

pub walk_next : (es : List DrawnElement) (n : ℕ) (bytes rest : List ℕ) (e : DrawnElement) → elements_in n bytes ≡ es → IsFlat n bytes
    → 0 < n → BeginsWith e rest bytes → Taken es (n - 1) e rest
walk_next es zero bytes rest e v h lt b = absurd (omega arith)
walk_next es (suc n) bytes rest e v h lt b =
    let k : suc n - 1 ≡ n = omega arith in
    rw k (subst (λ (xs : List DrawnElement). Taken xs n e rest) v (taken n bytes rest e h b))

pub walk_goes_on : (n : ℕ) (bytes : List ℕ) → IsFlat n bytes → 0 < n → BeginsWithNone bytes → ⊥
walk_goes_on n bytes h lt none = at (elements_in n bytes) (length-elements_in n bytes) h.spelling h.fields
  where
    at : (es : List DrawnElement) → length es ≡ n → bytes ≡ spelled_all es → All IsDrawn es → ⊥
    at [] l s f = omega (arith, l)
    at (e ∷ es) l s f = none e (spelled_all es) (record { fields = All-head IsDrawn e es f; spelling = s })
