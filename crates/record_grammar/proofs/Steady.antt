-- The result of a reader stays when more bytes come.
use Rattle.std.proofs.Common.{◌≡◌, ℕ, zero, suc, ◌+◌, ◌-◌, ◌*◌, ◌<◌, ◌≤◌, Bool, true, false, cond, ltb, List, [], ◌∷◌, ◌++◌, length, take}
use Rattle.std.proofs.Common.{drop, refl, sym, ap, subst, ◌∙◌, arith, rules, inl, inr, ◌⊎◌, length-append, length-drop}
use Rattle.std.proofs.lemmas.Bool.{cases_lt, le-ltb}
use Rattle.std.proofs.lemmas.List.{take-append-le, drop-append-le, drop-drop}
use Rattle.record_grammar.specs.declared.record_fault.Reason.{Reason}
use Rattle.record_grammar.specs.declared.record_fault.Reason.TheVariants.{Range}
use Rattle.record_grammar.specs.declared.limits.Limits.{Limits}
use Rattle.record_grammar.specs.Numbers.{number_from, can_be}
use Rattle.record_grammar.specs.Read.{Read, Got, More, Bad, ◌>>=◌, raw_at, many}

abbrev pub got : {A : Type 0} → A × List ℕ → Read A
got x = Got x

pub got_is : {A : Type 0} (x y : A × List ℕ) → got x ≡ got y → x ≡ y
got_is x y e = cc

pub bind_got : {A B : Type 0} (r : Read A) (f : A × List ℕ → Read B) (y : B × List ℕ) → (r >>= f) ≡ Got y → (x : A × List ℕ) × (r ≡ Got x)
    × (f x ≡ Got y)
bind_got (Got x) f y e = (x, refl, e)
bind_got More f y e = absurd cc
bind_got (Bad reason left) f y e = absurd cc

pub bind_bad : {A B : Type 0} (r : Read A) (f : A × List ℕ → Read B) (reason : Reason) (left : ℕ) → (r >>= f) ≡ Bad reason left
    → (r ≡ Bad reason left) ⊎ ((x : A × List ℕ) × (r ≡ Got x) × (f x ≡ Bad reason left))
bind_bad (Got x) f reason left e = inr (x, refl, e)
bind_bad More f reason left e = absurd cc
bind_bad (Bad why other) f reason left e = inl cc

-- The faulty byte is among the last `left` bytes of the reader, up to `before` bytes ahead of them.
pub record IsSteady {A : Type 0} (before : ℕ) (read : List ℕ → Read A) : Type 0 where
  pub got : (bytes tail : List ℕ) (x : A × List ℕ) → read bytes ≡ Got x → read (bytes ++ tail) ≡ Got (x.0, x.1 ++ tail)
  pub bad : (bytes tail : List ℕ) (reason : Reason) (left : ℕ) → read bytes ≡ Bad reason left → read (bytes ++ tail)
      ≡ Bad reason (left + length tail)
  pub rest : (bytes : List ℕ) (x : A × List ℕ) → read bytes ≡ Got x → (n : ℕ) × (n ≤ length bytes) × (x.1 ≡ drop n bytes)
  pub within : (bytes : List ℕ) (reason : Reason) (left : ℕ) → read bytes ≡ Bad reason left → left ≤ before + length bytes

pub steady_same : {A : Type 0} (before : ℕ) (r s : List ℕ → Read A) → ((bytes : List ℕ) → r bytes ≡ s bytes) → IsSteady before s
    → IsSteady before r
steady_same before r s same h = record {
  got = λ bytes tail x e. same (bytes ++ tail) ∙ h.got bytes tail x (sym (same bytes) ∙ e);
  bad = λ bytes tail reason left e. same (bytes ++ tail) ∙ h.bad bytes tail reason left (sym (same bytes) ∙ e);
  rest = λ bytes x e. h.rest bytes x (sym (same bytes) ∙ e);
  within = λ bytes reason left e. h.within bytes reason left (sym (same bytes) ∙ e);
}

pub steady_give : {A : Type 0} (before : ℕ) (a : A) → IsSteady before (λ bytes. Got (a, bytes))
steady_give {A} before a = record {
  got =
      λ bytes tail x e. let p : (a, bytes)
      ≡ x = got_is (a, bytes) x e in subst (λ (y : A × List ℕ). got (a, bytes ++ tail) ≡ Got (y.0, y.1 ++ tail)) p refl;
  bad = λ bytes tail reason left e. absurd cc;
  rest = λ bytes x e. let p : (a, bytes) ≡ x = got_is (a, bytes) x e in (0, omega arith, sym (ap (λ (y : A × List ℕ). y.1) p));
  within = λ bytes reason left e. absurd cc;
}

abbrev pub bad : {A : Type 0} → Reason → ℕ → Read A
bad reason left = Bad reason left

pub bad_is : {A : Type 0} (why reason : Reason) (m n : ℕ) → bad {A = A} why m ≡ bad reason n → (why ≡ reason) × (m ≡ n)
bad_is why reason m n e = (cc, cc)

pub steady_refuse : {A : Type 0} (why : Reason) → IsSteady {A = A} 1 (λ bytes. Bad why (suc (length bytes)))
steady_refuse {A} why = record {
  got = λ bytes tail x e. absurd cc;
  bad = λ bytes tail reason left e.
      let p = bad_is {A = A} why reason (suc (length bytes)) left e in
      let l : suc (length (bytes ++ tail)) ≡ left + length tail = omega (arith, length-append bytes tail, p.1) in
      ap (λ (n : ℕ). bad {A = A} why n) l ∙ ap (λ (r : Reason). bad {A = A} r (left + length tail)) p.0;
  rest = λ bytes x e. absurd cc;
  within = λ bytes reason left e. let p = bad_is {A = A} why reason (suc (length bytes)) left e in omega (arith, p.1);
}

-- a reader, and then one that depends on what was read
pub steady_then : {A B : Type 0} (before : ℕ) (r : List ℕ → Read A) (f : A → List ℕ → Read B) → IsSteady before r
    → ((a : A) → IsSteady 0 (f a)) → IsSteady before (λ bytes. r bytes >>= λ x. f x.0 x.1)
steady_then {A} {B} before r f hr hf = record {
  got = λ bytes tail y e.
      let b = bind_got (r bytes) (λ x. f x.0 x.1) y e in
      let one : r (bytes ++ tail) ≡ Got (b.0.0, b.0.1 ++ tail) = hr.got bytes tail b.0 b.1 in
      ap (λ (q : Read A). q >>= λ x. f x.0 x.1) one ∙ (hf b.0.0).got b.0.1 tail y b.2;
  bad = λ bytes tail reason left e.
      elim (bind_bad (r bytes) (λ x. f x.0 x.1) reason left e) [
        | inl h ↦ ap (λ (q : Read A). q >>= λ x. f x.0 x.1) (hr.bad bytes tail reason left h)
        | inr b ↦ ap (λ (q : Read A). q >>= λ x. f x.0 x.1) (hr.got bytes tail b.0 b.1) ∙ (hf b.0.0).bad b.0.1 tail reason left b.2
      ];
  rest = λ bytes y e.
      let b = bind_got (r bytes) (λ x. f x.0 x.1) y e in
      let one = hr.rest bytes b.0 b.1 in
      let two = (hf b.0.0).rest b.0.1 y b.2 in
      let l : length b.0.1 ≡ length bytes - one.0 = ap length one.2 ∙ length-drop one.0 bytes in
      (one.0 + two.0, omega (arith, one.1, two.1, l), two.2 ∙ ap (λ (xs : List ℕ). drop two.0 xs) one.2 ∙ drop-drop two.0 one.0 bytes);
  within = λ bytes reason left e.
      elim (bind_bad (r bytes) (λ x. f x.0 x.1) reason left e) [
        | inl h ↦ hr.within bytes reason left h
        | inr b ↦
            let one = hr.rest bytes b.0 b.1 in
            let l : length b.0.1 ≡ length bytes - one.0 = ap length one.2 ∙ length-drop one.0 bytes in
            let w : left ≤ 0 + length b.0.1 = (hf b.0.0).within b.0.1 reason left b.2 in
            omega arith
      ];
}

-- one of two readers
pub steady_if : {A : Type 0} (before : ℕ) (b : Bool) (r s : List ℕ → Read A) → IsSteady before r → IsSteady before s
    → IsSteady before (λ bytes. cond b (r bytes) (s bytes))
steady_if before true r s hr hs = record { got = hr.got; bad = hr.bad; rest = hr.rest; within = hr.within }
steady_if before false r s hr hs = record { got = hs.got; bad = hs.bad; rest = hs.rest; within = hs.within }

pub steady_wider : {A : Type 0} (r : List ℕ → Read A) → IsSteady 0 r → IsSteady 1 r
steady_wider r h =
    record {
      got = h.got;
      bad = h.bad;
      rest = h.rest;
      within = λ bytes reason left e. let w : left ≤ 0 + length bytes =
          h.within bytes reason left e in omega arith;
    }

-- a reader that looks at the first byte
abbrev pub by_first : {A : Type 0} → (ℕ → List ℕ → Read A) → List ℕ → Read A
by_first f [] = More
by_first f (b ∷ bytes) = f b bytes

module _ {A : Type 0} (f : ℕ → List ℕ → Read A) (h : (b : ℕ) → IsSteady 1 (f b)) where
  first_got : (bytes tail : List ℕ) (x : A × List ℕ) → by_first f bytes ≡ Got x → by_first f (bytes ++ tail) ≡ Got (x.0, x.1 ++ tail)
  first_got [] tail x e = absurd cc
  first_got (b ∷ bytes) tail x e = (h b).got bytes tail x e

  first_bad : (bytes tail : List ℕ) (reason : Reason) (left : ℕ) → by_first f bytes ≡ Bad reason left → by_first f (bytes ++ tail)
      ≡ Bad reason (left + length tail)
  first_bad [] tail reason left e = absurd cc
  first_bad (b ∷ bytes) tail reason left e = (h b).bad bytes tail reason left e

  first_rest : (bytes : List ℕ) (x : A × List ℕ) → by_first f bytes ≡ Got x → (n : ℕ) × (n ≤ length bytes) × (x.1 ≡ drop n bytes)
  first_rest [] x e = absurd cc
  first_rest (b ∷ bytes) x e = let r = (h b).rest bytes x e in (suc r.0, omega (arith, r.1), r.2)

  first_within : (bytes : List ℕ) (reason : Reason) (left : ℕ) → by_first f bytes ≡ Bad reason left → left ≤ 0 + length bytes
  first_within [] reason left e = absurd cc
  first_within (b ∷ bytes) reason left e = let w : left ≤ 1 + length bytes = (h b).within bytes reason left e in omega arith

  pub steady_first : IsSteady 0 (by_first f)
  steady_first = record { got = first_got; bad = first_bad; rest = first_rest; within = first_within }

-- ---- numbers, bytes, and values in a row

pub number_is : (limits : Limits) (left v : ℕ) (bytes : List ℕ) → number_from limits (suc left) v bytes
    ≡ by_first (λ b bytes. cond (can_be limits left (v * 256 + b)) (number_from limits left (v * 256 + b) bytes)
    (Bad Range (suc (length bytes)))) bytes
unfolding number_from
number_is limits left v [] = refl
number_is limits left v (b ∷ bytes) = refl

pub steady_number : (limits : Limits) (left v : ℕ) → IsSteady 0 (number_from limits left v)
unfolding number_from
steady_number limits zero v = steady_same 0 (number_from limits zero v) (λ bytes. Got (v, bytes)) (λ bytes. refl) (steady_give 0 v)
steady_number limits (suc left) v =
    let f : ℕ → List ℕ
    → Read ℕ = λ b bytes. cond (can_be limits left (v * 256 + b)) (number_from limits left (v * 256 + b) bytes)
    (Bad Range (suc (length bytes))) in
    steady_same 0 (number_from limits (suc left) v) (by_first f) (number_is limits left v) (steady_first f (λ b.
    steady_if 1 (can_be limits left (v * 256 + b)) (number_from limits left (v * 256 + b)) (λ bytes. Bad Range (suc (length bytes)))
    (steady_wider (number_from limits left (v * 256 + b)) (steady_number limits left (v * 256 + b))) (steady_refuse Range)))

pub raw_short : (n : ℕ) (bytes : List ℕ) → length bytes < n → raw_at n bytes ≡ More
unfolding raw_at
raw_short n bytes lt = let e : ltb (length bytes) n ≡ true = search (rules) in rw e refl

pub raw_long : (n : ℕ) (bytes : List ℕ) → n ≤ length bytes → raw_at n bytes ≡ Got (take n bytes, drop n bytes)
unfolding raw_at
raw_long n bytes le = let e : ltb (length bytes) n ≡ false = le-ltb _ _ le in rw e refl

pub steady_raw : (n : ℕ) → IsSteady 0 (raw_at n)
steady_raw n = record {
  got = λ bytes tail x e. elim (cases_lt (length bytes) n) [
    | inl lt ↦ absurd (cc (raw_short n bytes lt))
    | inr le ↦
        let p : (take n bytes, drop n bytes) ≡ x = got_is (take n bytes, drop n bytes) x (sym (raw_long n bytes le) ∙ e) in
        let q : raw_at n (bytes ++ tail)
        ≡ Got (take n bytes, drop n bytes ++ tail) = rw (
          raw_long n (bytes ++ tail) (omega (arith, length-append bytes tail)),
          take-append-le n bytes tail le,
          drop-append-le n bytes tail le,
        ) refl in
        q ∙ ap (λ (y : List ℕ × List ℕ). got (y.0, y.1 ++ tail)) p
  ];
  bad = λ bytes tail reason left e. elim (cases_lt (length bytes) n) [
    | inl lt ↦ absurd (cc (raw_short n bytes lt))
    | inr le ↦ absurd (cc (raw_long n bytes le))
  ];
  rest = λ bytes x e. elim (cases_lt (length bytes) n) [
    | inl lt ↦ absurd (cc (raw_short n bytes lt))
    | inr le ↦
        let p : (take n bytes, drop n bytes) ≡ x = got_is (take n bytes, drop n bytes) x (sym (raw_long n bytes le) ∙ e) in
        (n, le, sym (ap (λ (y : List ℕ × List ℕ). y.1) p))
  ];
  within = λ bytes reason left e. elim (cases_lt (length bytes) n) [
    | inl lt ↦ absurd (cc (raw_short n bytes lt))
    | inr le ↦ absurd (cc (raw_long n bytes le))
  ];
}

pub steady_many : {A : Type 0} (item : List ℕ → Read A) → IsSteady 0 item → (n : ℕ) → IsSteady 0 (many item n)
unfolding many
steady_many {A} item h zero = steady_same 0 (many item zero) (λ bytes. Got ([], bytes)) (λ bytes. refl) (steady_give 0 [])
steady_many {A} item h (suc n) =
    steady_then 0 item (λ first bytes. many item n bytes >>= λ others. Got (first ∷ others.0, others.1)) h (λ first.
    steady_then 0 (many item n) (λ others bytes. Got (first ∷ others, bytes)) (steady_many item h n)
    (λ others. steady_give 0 (first ∷ others)))
