-- Reading the bytes of a `DrawnBlock` returns the elements that were written there.
use Rattle.std.proofs.Common.{◌≡◌, ℕ, zero, suc, ◌+◌, ◌<◌, ◌≤◌, List, [], ◌∷◌, ◌++◌, length, take, drop, refl, sym, ap, subst, ◌∙◌}
use Rattle.std.proofs.Common.{append_assoc, arith, length-append}
use Rattle.std.specs.List.{All}
use Rattle.std.specs.Int.{w16, w32, to_be_bytes, from_be_bytes}
use Rattle.std.proofs.Math.Seq.{take-append_seam, drop-append_seam}
use Rattle.std.proofs.lemmas.List.{append-nil}
use Rattle.std.proofs.lemmas.List.Concat.{flat_map-append}
use Rattle.std.proofs.lemmas.List.Elements.{All-nil, All-cons, All-head, All-tail, All-append}
use Rattle.std.proofs.lemmas.Nat.{from_be_bytes-to_be_bytes_2, from_be_bytes-to_be_bytes_4}
use Rattle.det_values.specs.declared.frames.DrawnElement.{DrawnElement}
use Rattle.det_values.specs.Spelling.{spelled_u16, spelled_u32, an_element, spelled_drawn, IsDrawn, spelled_all, first_length, first_of}
use Rattle.det_values.specs.Spelling.{after_first, elements_in, IsFlat}

pub take_two : (n : ℕ) (rest : List ℕ) → take 2 (spelled_u16 n ++ rest) ≡ to_be_bytes w16 n
unfolding spelled_u16
take_two n rest = refl

pub drop_two : (n : ℕ) (rest : List ℕ) → drop 2 (spelled_u16 n ++ rest) ≡ rest
unfolding spelled_u16
drop_two n rest = refl

take_four : (n : ℕ) (rest : List ℕ) → take 4 (spelled_u32 n ++ rest) ≡ to_be_bytes w32 n
unfolding spelled_u32
take_four n rest = refl

drop_four : (n : ℕ) (rest : List ℕ) → drop 4 (spelled_u32 n ++ rest) ≡ rest
unfolding spelled_u32
drop_four n rest = refl

-- the parts of a spelled element, followed by other bytes
pub parts : (e : DrawnElement) (rest : List ℕ) → spelled_drawn e ++ rest ≡ spelled_u16 (length e.bytes)
    ++ (e.bytes ++ (spelled_u32 e.draws ++ rest))
unfolding spelled_drawn
parts e rest = append_assoc (spelled_u16 (length e.bytes)) (e.bytes ++ spelled_u32 e.draws) rest
    ∙ ap (λ (xs : List ℕ). spelled_u16 (length e.bytes) ++ xs) (append_assoc e.bytes (spelled_u32 e.draws) rest)

len_is : (e : DrawnElement) (rest : List ℕ) → IsDrawn e → first_length (spelled_drawn e ++ rest) ≡ length e.bytes
len_is e rest h =
    let short : length e.bytes ≤ 64 = h.short in
    ap first_length (parts e rest) ∙ ap (from_be_bytes w16) (take_two (length e.bytes) (e.bytes ++ (spelled_u32 e.draws ++ rest)))
    ∙ from_be_bytes-to_be_bytes_2 (length e.bytes) (omega arith)

behind_length : (e : DrawnElement) (rest : List ℕ) → drop 2 (spelled_drawn e ++ rest) ≡ e.bytes ++ (spelled_u32 e.draws ++ rest)
behind_length e rest = ap (drop 2) (parts e rest) ∙ drop_two (length e.bytes) (e.bytes ++ (spelled_u32 e.draws ++ rest))

behind_bytes : (e : DrawnElement) (rest : List ℕ) → IsDrawn e
    → drop (first_length (spelled_drawn e ++ rest)) (drop 2 (spelled_drawn e ++ rest)) ≡ spelled_u32 e.draws ++ rest
behind_bytes e rest h = rw (len_is e rest h, behind_length e rest) (drop-append_seam e.bytes (spelled_u32 e.draws ++ rest))

pub first_is : (e : DrawnElement) (rest : List ℕ) → IsDrawn e → first_of (spelled_drawn e ++ rest) ≡ e
first_is e rest h =
    let b : take (first_length (spelled_drawn e ++ rest)) (drop 2 (spelled_drawn e ++ rest)) ≡ e.bytes =
    rw (len_is e rest h, behind_length e rest) (take-append_seam e.bytes (spelled_u32 e.draws ++ rest)) in
    let d : from_be_bytes w32 (take 4 (drop (first_length (spelled_drawn e ++ rest)) (drop 2 (spelled_drawn e ++ rest)))) ≡ e.draws =
    ap (λ (xs : List ℕ). from_be_bytes w32 (take 4 xs)) (behind_bytes e rest h) ∙ ap (from_be_bytes w32) (take_four e.draws rest)
    ∙ from_be_bytes-to_be_bytes_4 e.draws h.draws in
    ap (λ (xs : List ℕ). an_element xs (from_be_bytes w32
    (take 4 (drop (first_length (spelled_drawn e ++ rest)) (drop 2 (spelled_drawn e ++ rest)))))) b
    ∙ ap (λ (n : ℕ). an_element e.bytes n) d

pub behind_is : (e : DrawnElement) (rest : List ℕ) → IsDrawn e → after_first (spelled_drawn e ++ rest) ≡ rest
behind_is e rest h = ap (drop 4) (behind_bytes e rest h) ∙ drop_four e.draws rest

-- an element that was written is read again, whatever follows it
pub read_again : (es : List DrawnElement) (rest : List ℕ) → All IsDrawn es → elements_in (length es) (spelled_all es ++ rest) ≡ es
unfolding elements_in
read_again [] rest h = refl
read_again (e ∷ es) rest h =
    let a : spelled_all (e ∷ es) ++ rest ≡ spelled_drawn e ++ (spelled_all es ++ rest) =
    append_assoc (spelled_drawn e) (spelled_all es) rest in
    let i : IsDrawn e = All-head IsDrawn e es h in
    let f : first_of (spelled_all (e ∷ es) ++ rest) ≡ e = ap first_of a ∙ first_is e (spelled_all es ++ rest) i in
    let b : after_first (spelled_all (e ∷ es) ++ rest) ≡ spelled_all es ++ rest = ap after_first a
    ∙ behind_is e (spelled_all es ++ rest) i in
    ap (λ (x : DrawnElement). x ∷ elements_in (length es) (after_first (spelled_all (e ∷ es) ++ rest))) f
    ∙ ap (λ (xs : List ℕ). e ∷ elements_in (length es) xs) b
    ∙ ap (λ (xs : List DrawnElement). e ∷ xs) (read_again es rest (All-tail IsDrawn e es h))

pub length-elements_in : (n : ℕ) (bytes : List ℕ) → length (elements_in n bytes) ≡ n
unfolding elements_in
length-elements_in zero bytes = refl
length-elements_in (suc n) bytes = ap suc (length-elements_in n (after_first bytes))

-- ---- what the spelling of a list makes a flat list with that view

pub record Holds (es : List DrawnElement) (count : ℕ) (bytes : List ℕ) : Type 0 where
  pub view : elements_in count bytes ≡ es
  pub flat : IsFlat count bytes

pub holds : (es : List DrawnElement) (count : ℕ) (bytes : List ℕ) → bytes ≡ spelled_all es → count ≡ length es → All IsDrawn es
    → count ≤ 65536 → Holds es count bytes
holds es count bytes spelling counted fields few =
    let v : elements_in count bytes ≡ es = rw (spelling, counted)
    (ap (elements_in (length es)) (sym (append-nil (spelled_all es))) ∙ read_again es [] fields) in
    record {
      view = v;
      flat = record { spelling = spelling ∙ ap spelled_all (sym v); fields = subst (All IsDrawn) (sym v) fields; few = few };
    }

-- a flat list with that view
pub held : (es : List DrawnElement) (count : ℕ) (bytes : List ℕ) → elements_in count bytes ≡ es → IsFlat count bytes
    → (bytes ≡ spelled_all es) × (count ≡ length es) × All IsDrawn es
held es count bytes v h = (
  h.spelling ∙ ap spelled_all v,
  sym (length-elements_in count bytes)
      ∙ ap length v,
  subst (All IsDrawn) v h.fields,
)

pub nothing_holds : (bytes : List ℕ) → bytes ≡ [] → Holds [] 0 bytes
nothing_holds bytes e = holds [] 0 bytes e refl (All-nil IsDrawn) (omega arith)

-- elements added at once
pub appended : (es : List DrawnElement) (m : ℕ) (a bytes : List ℕ) (others : List DrawnElement) (n : ℕ) → elements_in m a ≡ es
    → IsFlat m a → All IsDrawn others → length others ≡ n → length es + n ≤ 65536 → bytes ≡ a ++ spelled_all others
    → Holds (es ++ others) (m + n) bytes
appended es m a bytes others n v h i counted few eq =
    let p = held es m a v h in
    holds (es ++ others) (m + n) bytes (eq ∙ ap (λ (xs : List ℕ). xs ++ spelled_all others) p.0
    ∙ sym (flat_map-append spelled_drawn es others))
    (omega (arith, p.1, counted, length-append es others)) (All-append IsDrawn es others p.2 i) (omega (arith, p.1))

-- one element added
pub try_push : (es : List DrawnElement) (m : ℕ) (a bytes : List ℕ) (e : DrawnElement) → elements_in m a ≡ es → IsFlat m a → IsDrawn e
    → length es < 65536 → bytes ≡ a ++ spelled_drawn e → Holds (es ++ e ∷ []) (m + 1) bytes
try_push es m a bytes e v h i few eq =
    appended es m a bytes (e ∷ []) 1 v h (All-cons IsDrawn e [] i (All-nil IsDrawn)) refl (omega arith)
    (eq ∙ ap (λ (xs : List ℕ). a ++ xs) (sym (append-nil (spelled_drawn e))))
