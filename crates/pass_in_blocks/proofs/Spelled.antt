-- The bytes of elements in order.
use Rattle.std.proofs.Common.{◌≡◌, ℕ, suc, ◌+◌, ◌<◌, List, [], ◌∷◌, ◌++◌, length, get_or, take}
use Rattle.std.proofs.Common.{refl, sym, ap, subst, ◌∙◌, arith, append_assoc, append-nil}
use Rattle.std.specs.List.{All}
use Rattle.std.proofs.lemmas.List.{take_more, length-take-le}
use Rattle.std.proofs.lemmas.List.Concat.{flat_map-append}
use Rattle.std.proofs.lemmas.List.Elements.{All-nil, All-cons, All-append}
use Rattle.det_values.specs.Spelling.{an_element, spelled_drawn, spelled_all, IsDrawn}
use Rattle.det_values.specs.declared.frames.DrawnElement.{DrawnElement}
use Rattle.job.specs.Meaning.{Meaning}
use Rattle.job.specs.Cycle.{shown_with}
use Rattle.pass_in_blocks.specs.ShownElements.{AreSpelled}

module _ {S G E L P : Type 0} (m : Meaning S G E L P) (j : S) where
  -- the bytes of the elements with their draws were added
  abbrev pub Shown : List E → List ℕ → List ℕ → List ℕ → Type 0
  Shown es ds old new = AreSpelled (shown_with m j es ds) old new

  pub shown-append : (es fs : List E) (ds ns : List ℕ) → length es ≡ length ds
      → shown_with m j (es ++ fs) (ds ++ ns) ≡ shown_with m j es ds ++ shown_with m j fs ns
  shown-append [] fs [] ns e = refl
  shown-append [] fs (d ∷ ds) ns e = absurd (omega (arith, e))
  shown-append (x ∷ es) fs [] ns e = absurd (omega (arith, e))
  shown-append (x ∷ es) fs (d ∷ ds) ns e =
      ap (λ (xs : List DrawnElement). an_element (m.shown j x) d ∷ xs) (shown-append es fs ds ns (omega (arith, e)))

  pub none : (old : List ℕ) → Shown [] [] old old
  none old = record { bytes = sym (append-nil old); fields = All-nil IsDrawn }

  -- others after them
  pub both : (es fs : List E) (ds ns old mid new : List ℕ) → length es ≡ length ds → Shown es ds old mid → Shown fs ns mid new
      → Shown (es ++ fs) (ds ++ ns) old new
  both es fs ds ns old mid new e first second =
      let a : List DrawnElement = shown_with m j es ds in
      let b : List DrawnElement = shown_with m j fs ns in
      let s : shown_with m j (es ++ fs) (ds ++ ns) ≡ a ++ b = shown-append es fs ds ns e in
      record {
        bytes = second.bytes ∙ ap (λ (xs : List ℕ). xs ++ spelled_all b) first.bytes ∙ append_assoc old (spelled_all a) (spelled_all b)
            ∙ ap (λ (xs : List ℕ). old ++ xs) (sym (flat_map-append spelled_drawn a b))
            ∙ ap (λ (xs : List DrawnElement). old ++ spelled_all xs) (sym s);
        fields = subst (λ (xs : List DrawnElement). All IsDrawn xs) (sym s) (All-append IsDrawn a b first.fields second.fields);
      }

  alone : (x : E) (d : ℕ) (old new : List ℕ) → IsDrawn (an_element (m.shown j x) d)
      → new ≡ old ++ spelled_drawn (an_element (m.shown j x) d)
      → Shown (x ∷ []) (d ∷ []) old new
  alone x d old new fields e = record {
    bytes = e ∙ ap (λ (xs : List ℕ). old ++ xs) (sym (append-nil (spelled_drawn (an_element (m.shown j x) d))));
    fields = All-cons IsDrawn (an_element (m.shown j x) d) [] fields (All-nil IsDrawn);
  }

  -- one more of these elements
  pub one_more : (es : List E) (ds : List ℕ) (i : ℕ) (x : E) (d : ℕ) (old mid new : List ℕ) → i < length es → length ds ≡ length es
      → x ≡ get_or es i x → d ≡ get_or ds i 0 → Shown (take i es) (take i ds) old mid
      → IsDrawn (an_element (m.shown j x) d) → new ≡ mid ++ spelled_drawn (an_element (m.shown j x) d)
      → Shown (take (i + 1) es) (take (i + 1) ds) old new
  one_more es ds i x d old mid new inside drew at with so_far fields e =
      let t : take i es ++ x ∷ [] ≡ take (i + 1) es = ap (λ y. take i es ++ y ∷ []) at ∙ sym (take_more es i x inside) in
      let u : take i ds ++ d ∷ [] ≡ take (i + 1) ds = ap (λ n. take i ds ++ n ∷ []) with ∙ sym (take_more ds i 0 (omega (arith, drew))) in
      let l : length (take i es) ≡ length (take i ds) =
      length-take-le i es (omega arith) ∙ sym (length-take-le i ds (omega (arith, drew))) in
      let s : Shown (take i es ++ x ∷ []) (take i ds ++ d ∷ []) old new = both _ _ _ _ _ _ _ l so_far (alone x d mid new fields e) in
      subst (λ (xs : List E). Shown xs (take (i + 1) ds) old new) t (subst (λ (ns : List ℕ). Shown (take i es ++ x ∷ []) ns old new) u s)

  pub length-shown : (es : List E) (ds : List ℕ) → length ds ≡ length es → length (shown_with m j es ds) ≡ length es
  length-shown [] ds e = refl
  length-shown (x ∷ es) [] e = absurd (omega (arith, e))
  length-shown (x ∷ es) (d ∷ ds) e = ap suc (length-shown es ds (omega (arith, e)))
