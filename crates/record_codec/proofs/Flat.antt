-- Flat elements, spelled in a format.
use Rattle.std.proofs.Common.{◌≡◌, ℕ, zero, suc, ◌+◌, ◌-◌, ◌≤◌, List, [], ◌∷◌, ◌++◌, length, take, drop, refl, sym, ap, subst, ◌∙◌}
use Rattle.std.proofs.Common.{append_assoc, arith, length-append, length-drop}
use Rattle.std.proofs.Math.Seq.{take-append_seam}
use Rattle.std.specs.List.{flat_map, All}
use Rattle.std.proofs.lemmas.List.{append-nil, take-append-drop, nil_from_length}
use Rattle.std.proofs.lemmas.List.Concat.{flat_map-append}
use Rattle.std.proofs.lemmas.List.Elements.{All-nil, All-cons, All-head, All-tail, All-append}
use Rattle.det_values.specs.declared.format.Format.{Format}
use Rattle.det_values.specs.declared.format.Format.TheVariants.{One, Two}
use Rattle.det_values.specs.declared.frames.DrawnElement.{DrawnElement}
use Rattle.det_values.specs.Spelling as flat
use Rattle.det_values.specs.Blocks.{joined}
use Rattle.record_grammar.specs.Read.{Read, Got, ◌>>=◌, many}
use Rattle.record_grammar.specs.Grammar.{drawn_at}
use Rattle.record_grammar.proofs.Steady.{bind_got, got_is}
use Rattle.record_grammar.proofs.lemmas.record_laws.Lawful.{AreBytes-rest}
use Rattle.record_grammar.proofs.lemmas.record_laws.LawfulParts.{drawn_lawful}
use Rattle.record_view.proofs.Many.{many_one, many_none}
use Rattle.record_grammar.specs.Spelling.{spelled_u16, spelled_element, spelled_drawn, IsDrawn, MayDraw}

pub in_ranges : (format : Format) (es : List DrawnElement) → All flat.IsDrawn es → All (λ e. MayDraw format e.draws) es
    → All (IsDrawn format) es
in_ranges format [] h k = All-nil (IsDrawn format)
in_ranges format (e ∷ es) h k =
    let i : flat.IsDrawn e = All-head flat.IsDrawn e es h in
    All-cons (IsDrawn format) e es ((i.short, i.bytes), i.draws, All-head (λ d. MayDraw format d.draws) e es k)
    (in_ranges format es (All-tail flat.IsDrawn e es h) (All-tail (λ d. MayDraw format d.draws) e es k))

-- what a walk has put so far
pub record PutSoFar (es : List DrawnElement) (i : ℕ) (left : List DrawnElement) (old new : List ℕ) : Type 0 where
  pub before : List DrawnElement
  pub parts : es ≡ before ++ left
  pub counted : length before ≡ i
  pub written : new ≡ old ++ flat_map (spelled_drawn One) before
  pub fields : All flat.IsDrawn before

pub put_begin : (es : List DrawnElement) (old : List ℕ) → PutSoFar es 0 es old old
put_begin es old = record { before = []; parts = refl; counted = refl; written = sym (append-nil old); fields = All-nil flat.IsDrawn }

pub put_more : (es : List DrawnElement) (i : ℕ) (left more : List DrawnElement) (old mid next new bytes : List ℕ) (draws : ℕ)
    → PutSoFar es i left old mid → left ≡ flat.an_element bytes draws ∷ more → flat.IsDrawn (flat.an_element bytes draws)
    → next ≡ mid ++ spelled_u16 (length bytes) → new ≡ next
    ++ bytes → PutSoFar es (i + 1) more old new
put_more es i left more old mid next new bytes draws h l f n w =
    let e : DrawnElement = flat.an_element bytes draws in
    let b : List DrawnElement = h.before in
    let s : flat_map (spelled_drawn One) (b ++ e ∷ []) ≡ flat_map (spelled_drawn One) b
    ++ spelled_element bytes = flat_map-append (spelled_drawn One) b (e ∷ [])
    ∙ ap (λ (xs : List ℕ). flat_map (spelled_drawn One) b ++ xs) (append-nil (spelled_element bytes)) in
    record {
      before = b ++ e ∷ [];
      parts = h.parts ∙ ap (λ (xs : List DrawnElement). b ++ xs) l ∙ sym (append_assoc b (e ∷ []) more);
      counted = omega (arith, h.counted, length-append b (e ∷ []));
      written =
          w ∙ ap (λ (xs : List ℕ). xs ++ bytes) n ∙ append_assoc mid (spelled_u16 (length bytes)) bytes
          ∙ ap (λ (xs : List ℕ). xs ++ spelled_element bytes) h.written
          ∙ append_assoc old (flat_map (spelled_drawn One) b) (spelled_element bytes) ∙ ap (λ (xs : List ℕ). old ++ xs) (sym s);
      fields = All-append flat.IsDrawn b (e ∷ []) h.fields (All-cons flat.IsDrawn e [] f (All-nil flat.IsDrawn));
    }

pub put_grows : (es : List DrawnElement) (i : ℕ) (left : List DrawnElement) (old new : List ℕ) → PutSoFar es i left old new
    → flat.Grows old new
put_grows es i left old new h = record { added = flat_map (spelled_drawn One) h.before; is = h.written }

pub put_end : (es : List DrawnElement) (i : ℕ) (left : List DrawnElement) (old new : List ℕ) → length es ≤ i → PutSoFar es i left old new
    → new ≡ old ++ flat_map (spelled_drawn One) es
put_end es i [] old new le h =
    h.written ∙ ap (λ (xs : List DrawnElement). old ++ flat_map (spelled_drawn One) xs) (sym (append-nil h.before) ∙ sym h.parts)
put_end es i (e ∷ left) old new le h = absurd (omega (arith, le, h.counted, ap length h.parts, length-append h.before (e ∷ left)))

pub put_stops : (es : List DrawnElement) (i : ℕ) (left : List DrawnElement) (old new : List ℕ) → PutSoFar es i left old new → left ≡ []
    → new ≡ old ++ flat_map (spelled_drawn One) es
put_stops es i left old new h e =
    h.written
    ∙ ap (λ (xs : List DrawnElement). old ++ flat_map (spelled_drawn One) xs)
    (sym (append-nil h.before) ∙ ap (λ (xs : List DrawnElement). h.before ++ xs) (sym e) ∙ sym h.parts)

pub put_fields : (es : List DrawnElement) (i : ℕ) (left : List DrawnElement) (old new : List ℕ) → PutSoFar es i left old new → left ≡ []
    → All flat.IsDrawn es
put_fields es i left old new h e =
    subst (All flat.IsDrawn) (sym (h.parts ∙ ap (λ (xs : List DrawnElement). h.before ++ xs) e ∙ append-nil h.before)) h.fields

pub put_all_fields : (es : List DrawnElement) (i : ℕ) (left : List DrawnElement) (old new : List ℕ) → length es ≤ i
    → PutSoFar es i left old new → All flat.IsDrawn es
put_all_fields es i left old new le h =
    put_fields es i left old new h
    (nil_from_length left (omega (arith, le, h.counted, ap length h.parts, length-append h.before left)))

-- ---- blocks, one behind another

pub blocks_spelled : (bs : List (List DrawnElement)) → flat_map flat.spelled_all bs ≡ flat.spelled_all (joined bs)
blocks_spelled [] = refl
blocks_spelled (b ∷ bs) =
    ap (λ (xs : List ℕ). flat.spelled_all b ++ xs) (blocks_spelled bs) ∙ sym (flat_map-append flat.spelled_drawn b (joined bs))

pub blocks_drawn : (bs : List (List DrawnElement)) → All (All flat.IsDrawn) bs → All flat.IsDrawn (joined bs)
blocks_drawn [] h = All-nil flat.IsDrawn
blocks_drawn (b ∷ bs) h =
    All-append flat.IsDrawn b (joined bs) (All-head (All flat.IsDrawn) b bs h) (blocks_drawn bs (All-tail (All flat.IsDrawn) b bs h))

-- ---- elements of format Two, as they stand in the bytes

same_length : {A : Type 0} (xs : List A) (rest : List ℕ) (x : List A × List ℕ) → (xs, rest) ≡ x → length x.0 ≡ length xs
same_length {A} xs rest x e = sym (ap (λ (y : List A × List ℕ). length y.0) e)

-- as many values are read as are asked for
pub many_counted : {A : Type 0} (item : List ℕ → Read A) (n : ℕ) (bytes : List ℕ) (x : List A × List ℕ) → many item n bytes ≡ Got x
    → length x.0 ≡ n
many_counted {A} item zero bytes x e =
    same_length [] bytes x (got_is {A = List A} ([], bytes) x (sym (many_none item bytes) ∙ e))
many_counted {A} item (suc n) bytes x e =
    let b = bind_got (item bytes) (λ first. many item n first.1 >>= λ others. Got (first.0 ∷ others.0, others.1)) x
    (sym (many_one item n bytes) ∙ e) in
    let c = bind_got (many item n b.0.1) (λ others. Got (b.0.0 ∷ others.0, others.1)) x b.2 in
    same_length (b.0.0 ∷ c.0.0) c.0.1 x (got_is {A = List A} (b.0.0 ∷ c.0.0, c.0.1) x c.2) ∙ ap suc (many_counted item n b.0.1 c.0 c.1)

-- elements that were read, spelled one after another, and the bytes after them
pub record AreSpelled (bytes : List ℕ) (x : List DrawnElement × List ℕ) : Type 0 where
  pub fields : All flat.IsDrawn x.0
  pub spelling : bytes ≡ flat.spelled_all x.0 ++ x.1

pub all_spelled : (n : ℕ) (bytes : List ℕ) (x : List DrawnElement × List ℕ) → flat.AreBytes bytes → many (drawn_at Two) n bytes ≡ Got x
    → AreSpelled bytes x
all_spelled zero bytes x are e =
    let p : ([], bytes) ≡ x = got_is {A = List DrawnElement} ([], bytes) x (sym (many_none (drawn_at Two) bytes) ∙ e) in
    subst (λ (y : List DrawnElement × List ℕ). AreSpelled bytes y) p (record { fields = All-nil flat.IsDrawn; spelling = refl })
all_spelled (suc n) bytes x are e =
    let b = bind_got (drawn_at Two bytes) (λ first. many (drawn_at Two) n first.1 >>= λ others. Got (first.0 ∷ others.0, others.1)) x
    (sym (many_one (drawn_at Two) n bytes) ∙ e) in
    let c = bind_got (many (drawn_at Two) n b.0.1) (λ others. Got (b.0.0 ∷ others.0, others.1)) x b.2 in
    let s = (drawn_lawful Two).sound bytes b.0 are b.1 in
    let i : flat.IsDrawn b.0.0 = record { short = s.0.0.0; bytes = s.0.0.1; draws = s.0.1 } in
    let spelled : List ℕ = flat.spelled_drawn b.0.0 in
    let h = all_spelled n b.0.1 c.0 (AreBytes-rest bytes spelled b.0.1 s.1 are) c.1 in
    let p : (b.0.0 ∷ c.0.0, c.0.1) ≡ x = got_is {A = List DrawnElement} (b.0.0 ∷ c.0.0, c.0.1) x c.2 in
    subst (λ (y : List DrawnElement × List ℕ). AreSpelled bytes y) p (record {
      fields = All-cons flat.IsDrawn b.0.0 c.0.0 i h.fields;
      spelling =
          s.1 ∙ ap (λ (xs : List ℕ). spelled ++ xs) h.spelling ∙ sym (append_assoc spelled (flat.spelled_all c.0.0) c.0.1);
    })

-- the elements from one place up to another
pub record StandsSpelled (count at to : ℕ) (bytes : List ℕ) (es : List DrawnElement) : Type 0 where
  pub counted : length es ≡ count
  pub fields : All flat.IsDrawn es
  pub spelling : take (to - at) (drop at bytes) ≡ flat.spelled_all es

pub stand_spelled : (count at to : ℕ) (bytes : List ℕ) (es : List DrawnElement) → flat.AreBytes bytes → at ≤ to → to ≤ length bytes
    → many (drawn_at Two) count (drop at bytes) ≡ Got (es, drop to bytes) → StandsSpelled count at to bytes es
stand_spelled count at to bytes es are order within read =
    let rest : List ℕ = drop at bytes in
    let spelled : List ℕ = flat.spelled_all es in
    let h = all_spelled count rest (es, drop to bytes) (AreBytes-rest bytes (take at bytes) rest (sym (take-append-drop at bytes)) are)
    read in
    let l : length rest ≡ length spelled + length (drop to bytes) = ap length h.spelling ∙ length-append spelled (drop to bytes) in
    let n : to - at ≡ length spelled = omega (arith, l, length-drop at bytes, length-drop to bytes) in
    record {
      counted = many_counted (drawn_at Two) count rest (es, drop to bytes) read;
      fields = h.fields;
      spelling =
          ap (λ (k : ℕ). take k rest) n ∙ ap (take (length spelled)) h.spelling ∙ take-append_seam spelled (drop to bytes);
    }
