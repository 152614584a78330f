-- The draws of all elements are set to 0 in their bytes.
use Rattle.std.proofs.Common.{◌≡◌, ℕ, zero, suc, ◌+◌, ◌-◌, ◌<◌, ◌≤◌, List, [], ◌∷◌, ◌++◌, length, take, drop, set, refl, sym, ap, ◌∙◌}
use Rattle.std.proofs.Common.{append_assoc, arith, length-append, length-drop, lit<}
use Rattle.std.specs.List.{All}
use Rattle.std.proofs.Math.Seq.{take-append_seam, drop-append_seam}
use Rattle.std.proofs.lemmas.List.{append-nil, nil_from_length, length-map}
use Rattle.std.proofs.lemmas.List.Elements.{All-nil, All-cons, All-head, All-tail}
use Rattle.det_values.specs.declared.frames.DrawnElement.{DrawnElement}
use Rattle.det_values.specs.Spelling.{spelled_u16, spelled_u32, spelled_drawn, spelled_all, IsDrawn, IsFlat, elements_in, after_first}
use Rattle.det_values.specs.Spelling.{FirstAt, NoneAt}
use Rattle.det_values.specs.Frames.{without_draws, all_without_draws}
use Rattle.det_values.proofs.FlatReading.{behind_is, length-elements_in, held, Holds, holds}
use Rattle.det_values.proofs.Fronts.{drawn_length, length_u32}

pub four_set : (xs : List ℕ) (at : ℕ) → at + 4 ≤ length xs
    → set (set (set (set xs at 0) (at + 1) 0) (at + 2) 0) (at + 3) 0 ≡ take at xs ++ (0 ∷ 0 ∷ 0 ∷ 0 ∷ drop (at + 4) xs)
four_set [] at h = absurd (omega arith)
four_set (a ∷ []) at h = absurd (omega arith)
four_set (a ∷ b ∷ []) at h = absurd (omega arith)
four_set (a ∷ b ∷ c ∷ []) at h = absurd (omega arith)
four_set (a ∷ b ∷ c ∷ d ∷ xs) zero h = refl
four_set (a ∷ b ∷ c ∷ d ∷ xs) (suc at) h =
    let k : suc at + 1 ≡ suc (at + 1) = omega arith in
    let l : suc at + 2 ≡ suc (at + 2) = omega arith in
    let m : suc at + 3 ≡ suc (at + 3) = omega arith in
    let n : suc at + 4 ≡ suc (at + 4) = omega arith in
    rw (k, l, m, n) (ap (λ (ys : List ℕ). a ∷ ys) (four_set (b ∷ c ∷ d ∷ xs) at (omega arith)))

-- the first elements have no draws, the others are unchanged
pub record Undrawing (es : List DrawnElement) (i at : ℕ) (bytes : List ℕ) : Type 0 where
  pub before : List DrawnElement
  pub after : List DrawnElement
  pub parts : es ≡ before ++ after
  pub counted : length before ≡ i
  pub place : at ≡ length (spelled_all (all_without_draws before))
  pub spelling : bytes ≡ spelled_all (all_without_draws before) ++ spelled_all after
  pub fields : All IsDrawn after

pub undrawing_begin : (count : ℕ) (bytes : List ℕ) → IsFlat count bytes → Undrawing (elements_in count bytes) 0 0 bytes
undrawing_begin count bytes h = record {
  before = [];
  after = elements_in count bytes;
  parts = refl;
  counted = refl;
  place = refl;
  spelling = h.spelling;
  fields = h.fields;
}

pub undrawing_in : (es : List DrawnElement) (i at : ℕ) (bytes : List ℕ) → Undrawing es i at bytes → at ≤ length bytes
undrawing_in es i at bytes h = omega (
  arith,
  h.place,
  ap length h.spelling,
  length-append (spelled_all (all_without_draws h.before)) (spelled_all h.after),
)

rest_of : (es : List DrawnElement) (i at : ℕ) (bytes : List ℕ) (h : Undrawing es i at bytes) → drop at bytes ≡ spelled_all h.after
rest_of es i at bytes h = ap (λ (n : ℕ). drop n bytes) h.place ∙ ap (drop (length (spelled_all (all_without_draws h.before)))) h.spelling
    ∙ drop-append_seam (spelled_all (all_without_draws h.before)) (spelled_all h.after)

pub undrawing_none : (es : List DrawnElement) (i at : ℕ) (bytes : List ℕ) → i < length es → Undrawing es i at bytes → NoneAt bytes at → ⊥
undrawing_none es i at bytes lt h none = go h.after h.parts (rest_of es i at bytes h) h.fields
  where
    go : (after : List DrawnElement) → es ≡ h.before ++ after → drop at bytes ≡ spelled_all after → All IsDrawn after → ⊥
    go [] p s f = omega (arith, lt, h.counted, ap length p, length-append h.before [])
    go (e ∷ after) p s f = none e (spelled_all after) (record { fields = All-head IsDrawn e after f; spelling = s })

undrawn_all_more : (before : List DrawnElement) (e : DrawnElement)
    → spelled_all (all_without_draws (before ++ e ∷ [])) ≡ spelled_all (all_without_draws before) ++ spelled_drawn (without_draws e)
undrawn_all_more [] e = append-nil (spelled_drawn (without_draws e))
undrawn_all_more (b ∷ before) e = ap (λ (xs : List ℕ). spelled_drawn (without_draws b) ++ xs) (undrawn_all_more before e)
    ∙ sym (append_assoc (spelled_drawn (without_draws b)) (spelled_all (all_without_draws before)) (spelled_drawn (without_draws e)))

same_length : (e : DrawnElement) → length (spelled_drawn (without_draws e)) ≡ length (spelled_drawn e)
same_length e = omega (
  arith,
  ap length (append-nil (spelled_drawn e)),
  ap length (append-nil (spelled_drawn (without_draws e))),
  drawn_length e [],
  drawn_length (without_draws e) [],
)

-- a spelled element without its last four bytes
abbrev shortened : DrawnElement → List ℕ
shortened e = spelled_u16 (length e.bytes) ++ e.bytes

in_two : (e : DrawnElement) (rest : List ℕ) → spelled_drawn e ++ rest ≡ shortened e ++ (spelled_u32 e.draws ++ rest)
unfolding spelled_drawn
in_two e rest =
    append_assoc (spelled_u16 (length e.bytes)) (e.bytes ++ spelled_u32 e.draws) rest
    ∙ ap (λ (xs : List ℕ). spelled_u16 (length e.bytes) ++ xs) (append_assoc e.bytes (spelled_u32 e.draws) rest)
    ∙ sym (append_assoc (spelled_u16 (length e.bytes)) e.bytes (spelled_u32 e.draws ++ rest))

zero_four : (rest : List ℕ) → spelled_u32 0 ++ rest ≡ 0 ∷ 0 ∷ 0 ∷ 0 ∷ rest
unfolding spelled_u32
zero_four rest = refl

zeroed : (front rest bytes new : List ℕ) (e : DrawnElement) (end : ℕ) → bytes ≡ front ++ (spelled_drawn e ++ rest)
    → end ≡ length front + length (spelled_drawn e) → new ≡ take (end - 4) bytes ++ (0 ∷ 0 ∷ 0 ∷ 0 ∷ drop (end - 4 + 4) bytes)
    → new ≡ front ++ (spelled_drawn (without_draws e) ++ rest)
zeroed front rest bytes new e end s n is =
    let b : bytes ≡ (front ++ shortened e) ++ (spelled_u32 e.draws ++ rest) = s ∙ ap (λ (xs : List ℕ). front ++ xs) (in_two e rest)
    ∙ sym (append_assoc front (shortened e) (spelled_u32 e.draws ++ rest)) in
    let c : bytes ≡ ((front ++ shortened e) ++ spelled_u32 e.draws) ++ rest = b
    ∙ sym (append_assoc (front ++ shortened e) (spelled_u32 e.draws) rest) in
    let l : length (spelled_drawn e) ≡ length (shortened e) + 4 =
    omega (
      arith,
      ap length (append-nil (spelled_drawn e)),
      ap length (in_two e []),
      length-append (shortened e) (spelled_u32 e.draws ++ []),
      length-append (spelled_u32 e.draws) [],
      length_u32 e.draws,
    ) in
    let m : end - 4 ≡ length (front ++ shortened e) = omega (arith, n, l, length-append front (shortened e)) in
    let k : end - 4 + 4 ≡ length ((front ++ shortened e) ++ spelled_u32 e.draws) =
    omega (
      arith,
      n,
      l,
      length-append front (shortened e),
      length-append (front ++ shortened e) (spelled_u32 e.draws),
      length_u32 e.draws,
    ) in
    let t : take (end - 4) bytes ≡ front ++ shortened e = ap (λ (i : ℕ). take i bytes) m ∙ ap (take (length (front ++ shortened e))) b
    ∙ take-append_seam (front ++ shortened e) (spelled_u32 e.draws ++ rest) in
    let d : drop (end - 4 + 4) bytes ≡ rest = ap (λ (i : ℕ). drop i bytes) k
    ∙ ap (drop (length ((front ++ shortened e) ++ spelled_u32 e.draws))) c
    ∙ drop-append_seam ((front ++ shortened e) ++ spelled_u32 e.draws) rest in
    is ∙ ap (λ (xs : List ℕ). xs ++ (0 ∷ 0 ∷ 0 ∷ 0 ∷ drop (end - 4 + 4) bytes)) t
    ∙ ap (λ (xs : List ℕ). (front ++ shortened e) ++ (0 ∷ 0 ∷ 0 ∷ 0 ∷ xs)) d
    ∙ ap (λ (xs : List ℕ). (front ++ shortened e) ++ xs) (sym (zero_four rest)) ∙ append_assoc front (shortened e) (spelled_u32 0 ++ rest)
    ∙ ap (λ (xs : List ℕ). front ++ xs) (sym (in_two (without_draws e) rest))

pub undrawing_more : (es : List DrawnElement) (i at end : ℕ) (bytes new : List ℕ) → i < length es → Undrawing es i at bytes
    → FirstAt bytes at end → new ≡ take (end - 4) bytes ++ (0 ∷ 0 ∷ 0 ∷ 0 ∷ drop (end - 4 + 4) bytes) → Undrawing es (i + 1) end new
undrawing_more es i at end bytes new lt h f is = go h.after h.parts (rest_of es i at bytes h) h.spelling h.fields
  where
    go : (after : List DrawnElement) → es ≡ h.before ++ after → drop at bytes ≡ spelled_all after
        → bytes ≡ spelled_all (all_without_draws h.before) ++ spelled_all after → All IsDrawn after → Undrawing es (i + 1) end new
    go [] p s w k = absurd (omega (arith, lt, h.counted, ap length p, length-append h.before []))
    go (e ∷ after) p s w k =
        let j : IsDrawn e = All-head IsDrawn e after k in
        let front : List ℕ = spelled_all (all_without_draws h.before) in
        let q : spelled_drawn f.element ++ drop end bytes ≡ spelled_drawn e ++ spelled_all after = sym f.begins.spelling ∙ s in
        let r : drop end bytes ≡ spelled_all after = sym (behind_is f.element (drop end bytes) f.begins.fields) ∙ ap after_first q
        ∙ behind_is e (spelled_all after) j in
        let n : end ≡ length front + length (spelled_drawn e) =
        omega (
          arith,
          f.within,
          ap length r,
          ap length w,
          length-drop end bytes,
          length-append front (spelled_all (e ∷ after)),
          length-append (spelled_drawn e) (spelled_all after),
        ) in
        let z : new ≡ front ++ (spelled_drawn (without_draws e) ++ spelled_all after) = zeroed front (spelled_all after) bytes new e end w n is in
        let m : spelled_all (all_without_draws (h.before ++ e ∷ [])) ≡ front ++ spelled_drawn (without_draws e) = undrawn_all_more h.before e in
        record {
          before = h.before ++ e ∷ [];
          after = after;
          parts = p ∙ sym (append_assoc h.before (e ∷ []) after);
          counted = omega (arith, h.counted, length-append h.before (e ∷ []));
          place = omega (arith, n, ap length m, length-append front (spelled_drawn (without_draws e)), same_length e);
          spelling = z ∙ sym (append_assoc front (spelled_drawn (without_draws e)) (spelled_all after))
              ∙ ap (λ (xs : List ℕ). xs ++ spelled_all after) (sym m);
          fields = All-tail IsDrawn e after k;
        }

pub undrawing_room : (bytes : List ℕ) (at end : ℕ) → FirstAt bytes at end → at ≤ length bytes → (4 ≤ end) × (end - 4 + 4 ≤ length bytes)
undrawing_room bytes at end f le =
    let a : length (drop at bytes) ≡ 6 + length f.element.bytes + length (drop end bytes) = ap length f.begins.spelling
    ∙ drawn_length f.element (drop end bytes) in (
      omega (arith, a, le, f.within, length-drop at bytes, length-drop end bytes),
      omega (arith, a, le, f.within, length-drop at bytes, length-drop end bytes),
    )

pub undrawing_done : (count : ℕ) (old new : List ℕ) (i at : ℕ) → count ≤ i → Undrawing (elements_in count old) i at new
    → new ≡ spelled_all (all_without_draws (elements_in count old))
undrawing_done count old new i at le h =
    let n : h.after ≡ [] = nil_from_length h.after
    (omega (arith, le, h.counted, ap length h.parts, length-append h.before h.after, length-elements_in count old)) in
    let b : elements_in count old ≡ h.before = h.parts ∙ ap (λ (xs : List DrawnElement). h.before ++ xs) n ∙ append-nil h.before in
    h.spelling ∙ ap (λ (xs : List DrawnElement). spelled_all (all_without_draws h.before) ++ spelled_all xs) n
    ∙ append-nil (spelled_all (all_without_draws h.before)) ∙ ap (λ (xs : List DrawnElement). spelled_all (all_without_draws xs)) (sym b)

all_still : (es : List DrawnElement) → All IsDrawn es → All IsDrawn (all_without_draws es)
all_still [] h = All-nil IsDrawn
all_still (e ∷ es) h = let i : IsDrawn e = All-head IsDrawn e es h in All-cons IsDrawn (without_draws e) (all_without_draws es)
    (record { short = i.short; bytes = i.bytes; draws = lit< tt }) (all_still es (All-tail IsDrawn e es h))

pub undrawn_holds : (es : List DrawnElement) (count : ℕ) (old new : List ℕ) → elements_in count old ≡ es → IsFlat count old
    → new ≡ spelled_all (all_without_draws (elements_in count old)) → Holds (all_without_draws es) count new
undrawn_holds es count old new v h e =
    let p = held es count old v h in
    holds (all_without_draws es) count new (e ∙ ap (λ (xs : List DrawnElement). spelled_all (all_without_draws xs)) v)
    (p.1 ∙ sym (length-map es without_draws)) (all_still es p.2) h.few
