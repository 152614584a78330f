-- Values one after another, some of which were read already.
use Rattle.std.proofs.Common.{◌≡◌, ℕ, zero, suc, ◌+◌, ◌-◌, ◌<◌, ◌≤◌, List, [], ◌∷◌, ◌++◌, length, drop, refl, sym, ap, subst, ◌∙◌}
use Rattle.std.proofs.Common.{append_assoc, arith, length-drop, length-append}
use Rattle.std.proofs.lemmas.List.{append-nil, drop-drop}
use Rattle.record_grammar.specs.Read.{Read, Got, More, Bad, ◌>>=◌, many, with_front}
use Rattle.record_grammar.proofs.Steady.{IsSteady}
use Rattle.record_view.specs.declared.stop.Stop.{Stop}
use Rattle.record_view.specs.declared.stop.Stop.TheVariants as stops
use Rattle.record_view.specs.Gives.{Stops}
use Rattle.record_view.specs.Skips.{Continues}

module _ {A : Type 0} where
  moved : (front : List A) (first : A) (r : Read (List A)) → with_front front (r >>= λ others. Got (first ∷ others.0, others.1))
      ≡ with_front (front ++ first ∷ []) r
  moved front first (Got x) = ap (λ (xs : List A). Got (xs, x.1)) (sym (append_assoc front (first ∷ []) x.0))
  moved front first More = refl
  moved front first (Bad reason left) = refl

  pub many_one : (item : List ℕ → Read A) (n : ℕ) (bytes : List ℕ) → many item (suc n) bytes
      ≡ (item bytes >>= λ first. many item n first.1 >>= λ others. Got (first.0 ∷ others.0, others.1))
  unfolding many
  many_one item n bytes = refl

  pub many_none : (item : List ℕ → Read A) (bytes : List ℕ) → many item zero bytes ≡ Got ([], bytes)
  unfolding many
  many_none item bytes = refl

  -- one more was read
  pub many_next : (item : List ℕ → Read A) (front : List A) (n : ℕ) (bytes : List ℕ) (first : A) (rest : List ℕ) → item bytes
      ≡ Got (first, rest)
      → with_front front (many item (suc n) bytes) ≡ with_front (front ++ first ∷ []) (many item n rest)
  many_next item front n bytes first rest h =
      let one : many item (suc n) bytes ≡ (many item n rest >>= λ others. Got (first ∷ others.0, others.1)) = rw (many_one, h) refl in
      ap (with_front front) one ∙ moved front first (many item n rest)

  -- the first of these stops
  pub many_stops : (item : List ℕ → Read A) (n : ℕ) (bytes : List ℕ) (stop : Stop) → 0 < n → Stops stop (item bytes)
      → Stops stop (many item n bytes)
  many_stops item zero bytes stop h s = absurd (omega arith)
  many_stops item (suc n) bytes stops.More h s = rw (many_one, s) refl
  many_stops item (suc n) bytes (stops.Bad reason left) h s = rw (many_one, s) refl

  pub with_front_stops : (front : List A) (stop : Stop) (r : Read (List A)) → Stops stop r → Stops stop (with_front front r)
  with_front_stops front stops.More r h = ap (with_front front) h
  with_front_stops front (stops.Bad reason left) r h = ap (with_front front) h

  pub many_done : (item : List ℕ → Read A) (front : List A) (n : ℕ) (bytes : List ℕ) → n ≤ 0 → with_front front (many item n bytes)
      ≡ Got (front, bytes)
  many_done item front zero bytes h =
      ap (with_front front) (many_none item bytes) ∙ ap (λ (xs : List A). Got (xs, bytes)) (append-nil front)
  many_done item front (suc n) bytes h = absurd (omega arith)

  pub nothing_before : (r : Read (List A)) → with_front [] r ≡ r
  nothing_before (Got x) = refl
  nothing_before More = refl
  nothing_before (Bad reason left) = refl

  -- what a loop over a count keeps
  pub record HasMany (item : List ℕ → Read A) (count counter : ℕ) (front : List A) (rest bytes : List ℕ) : Type 0 where
    pub so_far : with_front front (many item (count - counter) rest) ≡ many item count bytes
    pub counted : length front ≡ counter

  pub HasMany-begin : (item : List ℕ → Read A) (count : ℕ) (bytes : List ℕ) → HasMany item count 0 [] bytes bytes
  HasMany-begin item count bytes =
      let k : count - 0 ≡ count = omega arith in
      record { so_far = nothing_before (many item (count - 0) bytes) ∙ ap (λ (n : ℕ). many item n bytes) k; counted = refl }

  pub HasMany-next : (item : List ℕ → Read A) (count counter : ℕ) (front : List A) (rest bytes : List ℕ) (first : A) (then : List ℕ)
      → counter < count → item rest ≡ Got (first, then)
      → HasMany item count counter front rest bytes → HasMany item count (counter + 1) (front ++ first ∷ []) then bytes
  HasMany-next item count counter front rest bytes first then lt got h =
      let k : count - counter ≡ suc (count - (counter + 1)) = omega arith in
      record {
        so_far =
            sym (many_next item front (count - (counter + 1)) rest first then got)
            ∙ ap (λ (n : ℕ). with_front front (many item n rest)) (sym k) ∙ h.so_far;
        counted = omega (arith, length-append front (first ∷ []), h.counted);
      }

  same_stop : (stop : Stop) (r s : Read (List A)) → r ≡ s → Stops stop r → Stops stop s
  same_stop stops.More r s e h = sym e ∙ h
  same_stop (stops.Bad reason left) r s e h = sym e ∙ h

  pub HasMany-stops : (item : List ℕ → Read A) (count counter : ℕ) (front : List A) (rest bytes : List ℕ) (stop : Stop) → counter < count
      → Stops stop (item rest)
      → HasMany item count counter front rest bytes → Stops stop (many item count bytes)
  HasMany-stops item count counter front rest bytes stop lt s h =
      same_stop stop (with_front front (many item (count - counter) rest)) (many item count bytes) h.so_far
      (with_front_stops front stop (many item (count - counter) rest)
      (many_stops item (count - counter) rest stop (omega arith) s))

  pub HasMany-done : (item : List ℕ → Read A) (count counter : ℕ) (front : List A) (rest bytes : List ℕ) → count ≤ counter
      → HasMany item count counter front rest bytes → many item count bytes ≡ Got (front, rest)
  HasMany-done item count counter front rest bytes le h = sym h.so_far ∙ many_done item front (count - counter) rest (omega arith)

  pub Continues-opening : (item : List ℕ → Read A) (start : List A) (count : ℕ) (bytes : List ℕ)
      → Continues item start count 0 start count bytes
  Continues-opening item start count bytes = record { in_range = omega arith; same = λ tail. refl }

  pub Continues-next : (item : List ℕ → Read A) → IsSteady 0 item
      → (front : List A) (left read : ℕ) (start : List A) (count : ℕ) (bytes : List ℕ) (first : A) (rest : List ℕ)
      → 0 < left → item (drop read bytes) ≡ Got (first, rest) → Continues item front left read start count bytes
      → Continues item (front ++ first ∷ []) (left - 1) (length bytes - length rest) start count bytes
  Continues-next item steady front left read start count bytes first rest positive got h =
      let in_range : read ≤ length bytes = h.in_range in
      let r = steady.rest (drop read bytes) (first, rest) got in
      let l : length (drop read bytes) ≡ length bytes - read = length-drop read bytes in
      let e : rest ≡ drop (read + r.0) bytes = r.2 ∙ drop-drop r.0 read bytes in
      let m : length rest ≡ length bytes - (read + r.0) = ap length e ∙ length-drop (read + r.0) bytes in
      let n : length bytes - length rest ≡ read + r.0 = omega (arith, r.1) in
      let k : left ≡ suc (left - 1) = omega arith in
      let d : drop (length bytes - length rest) bytes ≡ rest = ap (λ (i : ℕ). drop i bytes) n ∙ sym e in
      record {
        in_range = omega arith;
        same = λ tail.
            ap (λ (xs : List ℕ). with_front (front ++ first ∷ []) (many item (left - 1) (xs ++ tail))) d
            ∙ sym (many_next item front (left - 1) (drop read bytes ++ tail) first (rest ++ tail)
            (steady.got (drop read bytes) tail (first, rest) got))
            ∙ ap (λ (i : ℕ). with_front front (many item i (drop read bytes ++ tail))) (sym k)
            ∙ h.same tail;
      }

  pub Continues-room : (item : List ℕ → Read A) → IsSteady 0 item
      → (front : List A) (left read : ℕ) (start : List A) (count : ℕ) (bytes : List ℕ) (first : A) (rest : List ℕ)
      → item (drop read bytes) ≡ Got (first, rest) → Continues item front left read start count bytes → length rest ≤ length bytes
  Continues-room item steady front left read start count bytes first rest got h =
      let r = steady.rest (drop read bytes) (first, rest) got in
      let m : length rest ≡ length bytes - (read + r.0) = ap length (r.2 ∙ drop-drop r.0 read bytes) ∙ length-drop (read + r.0) bytes in
      omega arith

  -- what a loop over the bytes that are left keeps
  pub record Remains (item : List ℕ → Read A) (front : List A) (left : ℕ) (rest : List ℕ) (start : List A) (count : ℕ) (bytes : List ℕ)
      : Type 0 where
    pub counted : length front + left ≡ length start + count
    pub room : length rest ≤ length bytes
    pub others : drop (length bytes - length rest) bytes ≡ rest
    pub continues : Continues item front left (length bytes - length rest) start count bytes

  pub Remains-begin : (item : List ℕ → Read A) (start : List A) (count : ℕ) (bytes : List ℕ)
      → Remains item start count bytes start count bytes
  Remains-begin item start count bytes =
      let none : length bytes - length bytes ≡ 0 = omega arith in
      record {
        counted = refl;
        room = omega arith;
        others = ap (λ (n : ℕ). drop n bytes) none;
        continues =
            subst (λ (n : ℕ). Continues item start count n start count bytes) (sym none) (Continues-opening item start count bytes);
      }

  pub Remains-next : (item : List ℕ → Read A) → IsSteady 0 item
      → (front : List A) (left : ℕ) (rest : List ℕ) (start : List A) (count : ℕ) (bytes : List ℕ) (first : A) (others : List ℕ)
      → 0 < left → item rest ≡ Got (first, others) → Remains item front left rest start count bytes
      → Remains item (front ++ first ∷ []) (left - 1) others start count bytes
  Remains-next item steady front left rest start count bytes first others positive got h =
      let in_range : length rest ≤ length bytes = h.room in
      let read : ℕ = length bytes - length rest in
      let g : item (drop read bytes) ≡ Got (first, others) = ap item h.others ∙ got in
      let r = steady.rest rest (first, others) got in
      let e : others ≡ drop (read + r.0) bytes = r.2 ∙ ap (drop r.0) (sym h.others) ∙ drop-drop r.0 read bytes in
      let m : length others ≡ length bytes - (read + r.0) = ap length e ∙ length-drop (read + r.0) bytes in
      let n : length bytes - length others ≡ read + r.0 = omega (arith, r.1) in
      record {
        counted = omega (arith, length-append front (first ∷ []), h.counted);
        room = omega (arith, r.1);
        others = ap (λ (i : ℕ). drop i bytes) n ∙ sym e;
        continues = Continues-next item steady front left read start count bytes first others positive g h.continues;
      }
