-- Equal bytes are equal elements, and the other way round.
use Rattle.std.proofs.Common.{◌≡◌, ℕ, List, [], ◌∷◌, nat_eq, length, true, refl, sym, ap, ◌∙◌, arith}
use Rattle.std.specs.Bool.{Decides}
use Rattle.std.specs.List.{All}
use Rattle.std.specs.Cmp.Lexicographic.{pointwise, pointwise_decides}
use Rattle.std.proofs.lemmas.Bool.Decides.{Decides-eqb, Decides-and, Decides-like, same_from_decides}
use Rattle.std.proofs.lemmas.List.Elements.{All-head, All-tail}
use Rattle.det_values.specs.declared.frames.DrawnElement.{DrawnElement}
use Rattle.det_values.specs.Spelling.{spelled_all, an_element, IsDrawn, IsFlat, elements_in, first_of, after_first}
use Rattle.det_values.specs.Equal.{drawn_eq}
use Rattle.det_values.specs.Blocks.{joined}
use Rattle.det_values.proofs.FlatReading.{first_is, behind_is, held}
use Rattle.det_values.proofs.Fronts.{drawn_length}

one_list : (es fs : List DrawnElement) → All IsDrawn es → All IsDrawn fs → spelled_all es ≡ spelled_all fs → es ≡ fs
one_list [] [] h k e = refl
one_list [] (f ∷ fs) h k e = absurd (omega (arith, ap length e, drawn_length f (spelled_all fs)))
one_list (e ∷ es) [] h k q = absurd (omega (arith, ap length q, drawn_length e (spelled_all es)))
one_list (e ∷ es) (f ∷ fs) h k q =
    let i : IsDrawn e = All-head IsDrawn e es h in
    let j : IsDrawn f = All-head IsDrawn f fs k in
    let same : e ≡ f = sym (first_is e (spelled_all es) i) ∙ ap first_of q ∙ first_is f (spelled_all fs) j in
    let rest : spelled_all es ≡ spelled_all fs =
    sym (behind_is e (spelled_all es) i) ∙ ap after_first q ∙ behind_is f (spelled_all fs) j in
    ap (λ (x : DrawnElement). x ∷ es) same
    ∙ ap (λ (xs : List DrawnElement). f ∷ xs) (one_list es fs (All-tail IsDrawn e es h) (All-tail IsDrawn f fs k) rest)

pub element_decides : (e f : DrawnElement) → Decides (drawn_eq e f) (e ≡ f)
element_decides e f =
    Decides-like (drawn_eq e f)
    (λ h. ap (λ xs. an_element xs e.draws) h.0 ∙ ap (λ n. an_element f.bytes n) h.1)
    (λ s. (ap (λ (x : DrawnElement). x.bytes) s, ap (λ (x : DrawnElement). x.draws) s))
    (Decides-and (pointwise nat_eq e.bytes f.bytes) (nat_eq e.draws f.draws) (pointwise_decides Decides-eqb e.bytes f.bytes)
    (Decides-eqb e.draws f.draws))

pub elements_decide : (es fs : List DrawnElement) → Decides (pointwise drawn_eq es fs) (es ≡ fs)
elements_decide = pointwise_decides element_decides

-- comparing the bytes compares the elements
pub bytes_decide : (es fs : List DrawnElement) (m n : ℕ) (a b : List ℕ)
    → elements_in m a ≡ es → IsFlat m a → elements_in n b ≡ fs → IsFlat n b → pointwise nat_eq a b ≡ pointwise drawn_eq es fs
bytes_decide es fs m n a b v h w k =
    let p = held es m a v h in
    let q = held fs n b w k in
    same_from_decides (pointwise nat_eq a b) (pointwise drawn_eq es fs)
    (Decides-like (pointwise nat_eq a b)
    (λ s. one_list es fs p.2 q.2 (sym p.0 ∙ s ∙ q.0))
    (λ s. p.0 ∙ ap spelled_all s ∙ sym q.0)
    (pointwise_decides Decides-eqb a b))
    (elements_decide es fs)

-- equal blocks hold equal elements
pub blocks_equal : (cs bs : List (List DrawnElement)) (es fs : List DrawnElement) → joined cs ≡ es → joined bs ≡ fs
    → pointwise (pointwise drawn_eq) cs bs ≡ true → true ≡ pointwise drawn_eq es fs
blocks_equal cs bs es fs v w e =
    sym ((elements_decide es fs).1 (sym v ∙ ap joined ((pointwise_decides elements_decide cs bs).0 e) ∙ w))
