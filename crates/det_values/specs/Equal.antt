-- Equality of elements of finished cycles.
use Rattle.std.specs.Prelude.{Bool, ◌&&◌, nat_eq}
use Rattle.std.specs.Cmp.{IsPartialEquivalence, and_per, on_per, partial_equiv_from_equiv}
use Rattle.std.specs.Cmp.Lexicographic.{pointwise, lists_per}
use Rattle.std.proofs.lemmas.Cmp.{nat_list_eq_equiv, nat_eq_equiv}
use Rattle.det_values.specs.declared.frames.DrawnElement.{DrawnElement}

-- equal bytes and equal draws
abbrev pub drawn_eq : DrawnElement → DrawnElement → Bool
drawn_eq a b = pointwise nat_eq a.bytes b.bytes && nat_eq a.draws b.draws

-- `==` of two lists of elements is a partial equivalence
pub flat_laws : IsPartialEquivalence (pointwise drawn_eq)
flat_laws = lists_per (and_per
    (on_per (λ (e : DrawnElement). e.bytes) (partial_equiv_from_equiv nat_list_eq_equiv))
    (on_per (λ (e : DrawnElement). e.draws) (partial_equiv_from_equiv nat_eq_equiv)))
