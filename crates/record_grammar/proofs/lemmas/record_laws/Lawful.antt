-- A reader is lawful where it reads exactly what is spelled, needs more exactly where a spelling goes on, and refuses
-- the first byte with which none does.
use Rattle.std.proofs.Common.{◌≡◌, ℕ, suc, ◌<◌, List, [], ◌∷◌, ◌++◌, length, refl, sym, ap, subst, ◌∙◌, append_assoc, inl, inr, ◌⊎◌}
use Rattle.std.proofs.lemmas.List.Elements.{All-head, All-tail}
use Rattle.record_grammar.specs.declared.record_fault.Reason.{Reason}
use Rattle.record_grammar.specs.Read.{Read, Got, More, Bad, ◌>>=◌}
use Rattle.record_grammar.specs.Spelling.{AreBytes}
use Rattle.record_grammar.proofs.Steady.{got, got_is, bad, bad_is, bind_got, bind_bad, by_first}

-- the bytes before the faulty one, that byte, and the bytes after it
pub record IsRefused {A : Type 0} (read : List ℕ → Read A) (bytes : List ℕ) (reason : Reason) (left : ℕ) : Type 0 where
  pub before : List ℕ
  pub byte : ℕ
  pub behind : List ℕ
  pub parts : bytes ≡ before ++ byte ∷ behind
  pub counted : left ≡ suc (length behind)
  pub goes_on : read before ≡ More
  pub refused : (other : List ℕ) → read (before ++ byte ∷ other) ≡ Bad reason (suc (length other))

pub record IsLawful {A : Type 0} (Fits : A → Type 0) (spell : A → List ℕ) (read : List ℕ → Read A) : Type 0 where
  pub again : (a : A) (rest : List ℕ) → Fits a → read (spell a ++ rest) ≡ Got (a, rest)
  pub sound : (bytes : List ℕ) (x : A × List ℕ) → AreBytes bytes → read bytes ≡ Got x → Fits x.0 × (bytes ≡ spell x.0 ++ x.1)
  pub more : (bytes : List ℕ) → AreBytes bytes → read bytes ≡ More → (a : A) × (tail : List ℕ) × Fits a × (bytes ++ tail ≡ spell a)
  pub bad : (bytes : List ℕ) (reason : Reason) (left : ℕ) → AreBytes bytes → read bytes ≡ Bad reason left → IsRefused read bytes reason left

pub AreBytes-head : (b : ℕ) (bytes : List ℕ) → AreBytes (b ∷ bytes) → b < 256
AreBytes-head b bytes h = All-head (λ c. c < 256) b bytes h

pub AreBytes-tail : (b : ℕ) (bytes : List ℕ) → AreBytes (b ∷ bytes) → AreBytes bytes
AreBytes-tail b bytes h = All-tail (λ c. c < 256) b bytes h

AreBytes-behind : (xs ys : List ℕ) → AreBytes (xs ++ ys) → AreBytes ys
AreBytes-behind [] ys h = h
AreBytes-behind (x ∷ xs) ys h = AreBytes-behind xs ys (AreBytes-tail x (xs ++ ys) h)

pub AreBytes-rest : (bytes xs rest : List ℕ) → bytes ≡ xs ++ rest → AreBytes bytes → AreBytes rest
AreBytes-rest bytes xs rest e h = AreBytes-behind xs rest (subst AreBytes e h)

pub lawful_give : {A : Type 0} (Fits : A → Type 0) (a : A) → Fits a → ((x : A) → Fits x → x ≡ a)
    → IsLawful Fits (λ x. []) (λ bytes. Got (a, bytes))
lawful_give {A} Fits a fits only = record {
  again = λ x rest h. ap (λ (y : A). got (y, rest)) (sym (only x h));
  sound = λ bytes x are e.
      let p : (a, bytes) ≡ x = got_is (a, bytes) x e in
      subst (λ (y : A × List ℕ). Fits y.0 × (bytes ≡ [] ++ y.1)) p (fits, refl);
  more = λ bytes are e. absurd cc;
  bad = λ bytes reason left are e. absurd cc;
}

-- a reader that refuses its first byte
pub refused_first : {A : Type 0} (read : List ℕ → Read A) (b : ℕ) (bytes : List ℕ) (why reason : Reason) (left : ℕ) → read [] ≡ More
    → ((other : List ℕ) → read (b ∷ other) ≡ Bad why (suc (length other))) → read (b ∷ bytes) ≡ Bad reason left
    → IsRefused read (b ∷ bytes) reason left
refused_first {A} read b bytes why reason left more refuses e =
    let p = bad_is {A = A} why reason (suc (length bytes)) left (sym (refuses bytes) ∙ e) in
    record {
      before = [];
      byte = b;
      behind = bytes;
      parts = refl;
      counted = sym p.1;
      goes_on = more;
      refused = λ other. refuses other ∙ ap (λ (r : Reason). bad {A = A} r (suc (length other))) p.0;
    }

-- a byte that one reader refuses, refused by another that reads as the first does after some bytes
refused_as : {A B : Type 0} (r : List ℕ → Read A) (s : List ℕ → Read B) (then : Read A → Read B) (front bytes rest : List ℕ)
    (reason : Reason) (left : ℕ) → then More ≡ More → ((n : ℕ) → then (Bad reason n) ≡ Bad reason n)
    → ((xs : List ℕ) → s (front ++ xs) ≡ then (r xs)) → bytes ≡ front ++ rest → IsRefused r rest reason left
    → IsRefused s bytes reason left
refused_as r s then front bytes rest reason left more bad reads parts b =
    record {
      before = front ++ b.before;
      byte = b.byte;
      behind = b.behind;
      parts = parts ∙ ap (λ (xs : List ℕ). front ++ xs) b.parts ∙ sym (append_assoc front b.before (b.byte ∷ b.behind));
      counted = b.counted;
      goes_on = reads b.before ∙ ap then b.goes_on ∙ more;
      refused = λ other.
          ap s (append_assoc front b.before (b.byte ∷ other)) ∙ reads (b.before ++ b.byte ∷ other) ∙ ap then (b.refused other)
          ∙ bad (suc (length other));
    }

-- the same reader, said in another way
pub lawful_read : {A : Type 0} (Fits : A → Type 0) (spell : A → List ℕ) (r s : List ℕ → Read A) → ((bytes : List ℕ) → r bytes ≡ s bytes)
    → IsLawful Fits spell s → IsLawful Fits spell r
lawful_read Fits spell r s same h = record {
  again = λ a rest fits. same (spell a ++ rest) ∙ h.again a rest fits;
  sound = λ bytes x are e. h.sound bytes x are (sym (same bytes) ∙ e);
  more = λ bytes are e. h.more bytes are (sym (same bytes) ∙ e);
  bad = λ bytes reason left are e.
      refused_as s r (λ q. q) [] bytes bytes reason left refl (λ n. refl) same refl
      (h.bad bytes reason left are (sym (same bytes) ∙ e));
}

-- the same values and spellings, said in another way
pub lawful_values : {A : Type 0} (Fits Other : A → Type 0) (spell say : A → List ℕ) (r : List ℕ → Read A) → ((a : A) → Fits a → Other a)
    → ((a : A) → Other a → Fits a × (say a ≡ spell a)) → IsLawful Fits spell r → IsLawful Other say r
lawful_values Fits Other spell say r there back h = record {
  again = λ a rest fits. ap (λ (xs : List ℕ). r (xs ++ rest)) (back a fits).1 ∙ h.again a rest (back a fits).0;
  sound = λ bytes x are e.
      let s = h.sound bytes x are e in
      let o = there x.0 s.0 in
      (o, s.1 ∙ ap (λ (xs : List ℕ). xs ++ x.1) (sym (back x.0 o).1));
  more = λ bytes are e.
      let m = h.more bytes are e in
      let o = there m.0 m.2 in
      (m.0, m.1, o, m.3 ∙ sym (back m.0 o).1);
  bad = h.bad;
}

-- a value made of one that is read
pub lawful_map : {A C : Type 0} (FitsA : A → Type 0) (spellA : A → List ℕ) (r : List ℕ → Read A) (Fits : C → Type 0) (part : C → A)
    (make : A → C)
    → ((c : C) → Fits c → FitsA (part c) × (c ≡ make (part c))) → ((a : A) → FitsA a → Fits (make a) × (part (make a) ≡ a))
    → IsLawful FitsA spellA r → IsLawful Fits (λ c. spellA (part c)) (λ bytes. r bytes >>= λ x. Got (make x.0, x.1))
lawful_map {A} {C} FitsA spellA r Fits part make there back h = record {
  again = λ c rest fits.
      let t = there c fits in
      ap (λ (q : Read A). q >>= λ x. Got (make x.0, x.1)) (h.again (part c) rest t.0) ∙ ap (λ (d : C). got (d, rest)) (sym t.1);
  sound = λ bytes x are e.
      let b = bind_got (r bytes) (λ y. Got (make y.0, y.1)) x e in
      let s = h.sound bytes b.0 are b.1 in
      let k = back b.0.0 s.0 in
      let p : (make b.0.0, b.0.1) ≡ x = got_is (make b.0.0, b.0.1) x b.2 in
      subst (λ (y : C × List ℕ). Fits y.0 × (bytes ≡ spellA (part y.0) ++ y.1)) p (k.0, s.1 ∙ ap (λ (a : A). spellA a ++ b.0.1) (sym k.1));
  more = λ bytes are e.
      let m = h.more bytes are (more_of (r bytes) e) in
      let k = back m.0 m.2 in
      (make m.0, m.1, k.0, m.3 ∙ ap spellA (sym k.1));
  bad = λ bytes reason left are e.
      refused_as r (λ xs. r xs >>= λ x. Got (make x.0, x.1)) (λ q. q >>= λ x. Got (make x.0, x.1)) [] bytes bytes reason left refl
      (λ n. refl) (λ xs. refl) refl (h.bad bytes reason left are (bad_of (r bytes) reason left e));
}
  where
    more_of : (q : Read A) → (q >>= λ x. got (make x.0, x.1)) ≡ More → q ≡ More
    more_of (Got x) e = absurd cc
    more_of More e = refl
    more_of (Bad reason left) e = absurd cc

    bad_of : (q : Read A) (reason : Reason) (left : ℕ) → (q >>= λ x. got (make x.0, x.1)) ≡ Bad reason left → q ≡ Bad reason left
    bad_of (Got x) reason left e = absurd cc
    bad_of More reason left e = absurd cc
    bad_of (Bad why other) reason left e = cc

bind_more : {A B : Type 0} (r : Read A) (f : A × List ℕ → Read B) → (r >>= f) ≡ More → (r ≡ More)
    ⊎ ((x : A × List ℕ) × (r ≡ Got x) × (f x ≡ More))
bind_more (Got x) f e = inr (x, refl, e)
bind_more More f e = inl refl
bind_more (Bad reason left) f e = absurd cc

-- a part that is read first, and what depends on it
pub lawful_then : {A C : Type 0} (FitsA : A → Type 0) (spellA : A → List ℕ) (r : List ℕ → Read A) (Fits : C → Type 0) (part : C → A)
    (spellC : C → List ℕ) (f : A → List ℕ → Read C)
    → ((c : C) → Fits c → FitsA (part c)) → ((a : A) → FitsA a → (c : C) × Fits c × (part c ≡ a))
    → IsLawful FitsA spellA r → ((a : A) → FitsA a → IsLawful (λ c. Fits c × (part c ≡ a)) spellC (f a))
    → IsLawful Fits (λ c. spellA (part c) ++ spellC c) (λ bytes. r bytes >>= λ x. f x.0 x.1)
lawful_then {A} {C} FitsA spellA r Fits part spellC f there example h k = record {
  again = λ c rest fits.
      let one : r ((spellA (part c) ++ spellC c) ++ rest)
      ≡ Got (part c, spellC c ++ rest) = ap r (append_assoc (spellA (part c)) (spellC c) rest)
      ∙ h.again (part c) (spellC c ++ rest) (there c fits) in
      ap (λ (q : Read A). q >>= λ x. f x.0 x.1) one ∙ (k (part c) (there c fits)).again c rest (fits, refl);
  sound = λ bytes x are e.
      let b = bind_got (r bytes) (λ y. f y.0 y.1) x e in
      let s = h.sound bytes b.0 are b.1 in
      let t = (k b.0.0 s.0).sound b.0.1 x (AreBytes-rest bytes (spellA b.0.0) b.0.1 s.1 are) b.2 in (
        t.0.0,
        s.1 ∙ ap (λ (xs : List ℕ). spellA b.0.0 ++ xs) t.1 ∙ ap (λ (a : A). spellA a ++ (spellC x.0 ++ x.1)) (sym t.0.1)
            ∙ sym (append_assoc (spellA (part x.0)) (spellC x.0) x.1),
      );
  more = λ bytes are e.
      elim (bind_more (r bytes) (λ y. f y.0 y.1) e) [
        | inl m ↦
            let w = h.more bytes are m in
            let c = example w.0 w.2 in (
              c.0,
              w.1 ++ spellC c.0,
              c.1,
              sym (append_assoc bytes w.1 (spellC c.0))
                  ∙ ap (λ (xs : List ℕ). xs ++ spellC c.0) (w.3 ∙ ap spellA (sym c.2)),
            )
        | inr b ↦
            let s = h.sound bytes b.0 are b.1 in
            let w = (k b.0.0 s.0).more b.0.1 (AreBytes-rest bytes (spellA b.0.0) b.0.1 s.1 are) b.2 in (
              w.0,
              w.1,
              w.2.0,
              ap (λ (xs : List ℕ). xs ++ w.1) s.1 ∙ append_assoc (spellA b.0.0) b.0.1 w.1
                  ∙ ap (λ (xs : List ℕ). spellA b.0.0 ++ xs) w.3 ∙ ap (λ (a : A). spellA a ++ spellC w.0) (sym w.2.1),
            )
      ];
  bad = λ bytes reason left are e.
      elim (bind_bad (r bytes) (λ y. f y.0 y.1) reason left e) [
        | inl m ↦
            refused_as r (λ xs. r xs >>= λ x. f x.0 x.1) (λ q. q >>= λ x. f x.0 x.1) [] bytes bytes reason left refl (λ n. refl)
            (λ xs. refl) refl (h.bad bytes reason left are m)
        | inr g ↦
            let s = h.sound bytes g.0 are g.1 in
            refused_as (f g.0.0) (λ xs. r xs >>= λ x. f x.0 x.1) (λ q. q) (spellA g.0.0) bytes g.0.1 reason left refl (λ n. refl)
            (λ xs. ap (λ (q : Read A). q >>= λ x. f x.0 x.1) (h.again g.0.0 xs s.0)) s.1
            ((k g.0.0 s.0).bad g.0.1 reason left (AreBytes-rest bytes (spellA g.0.0) g.0.1 s.1 are) g.2)
      ];
}

-- a first byte, and what depends on it
pub lawful_first : {A : Type 0} (Fits : A → Type 0) (tag : A → ℕ) (spell : A → List ℕ) (f : ℕ → List ℕ → Read A) (why : ℕ → Reason)
    → (a : A) → Fits a
    → ((b : ℕ) → b < 256 → (((bytes : List ℕ) → f b bytes ≡ Bad (why b) (suc (length bytes))) × ((c : A) → Fits c → tag c ≡ b → ⊥))
    ⊎ IsLawful (λ c. Fits c × (tag c ≡ b)) spell (f b))
    → ((c : A) → Fits c → tag c < 256)
    → IsLawful Fits (λ c. tag c ∷ spell c) (by_first f)
lawful_first {A} Fits tag spell f why example fits cases small = record {
  again = λ c rest h.
      elim (cases (tag c) (small c h)) [
        | inl n ↦ absurd (n.1 c h refl)
        | inr l ↦ l.again c rest (h, refl)
      ];
  sound = first_sound;
  more = first_more;
  bad = first_bad;
}
  where
    first_sound : (bytes : List ℕ) (x : A × List ℕ) → AreBytes bytes → by_first f bytes ≡ Got x → Fits x.0
        × (bytes ≡ (tag x.0 ∷ spell x.0) ++ x.1)
    first_sound [] x are e = absurd cc
    first_sound (b ∷ bytes) x are e =
        elim (cases b (AreBytes-head b bytes are)) [
          | inl n ↦ absurd (cc (n.0 bytes))
          | inr l ↦ let s =
              l.sound bytes x (AreBytes-tail b bytes are) e in (
                s.0.0,
                ap (λ (xs : List ℕ). b ∷ xs) s.1
                    ∙ ap (λ (t : ℕ). t ∷ (spell x.0 ++ x.1)) (sym s.0.1),
              )
        ]

    first_more : (bytes : List ℕ) → AreBytes bytes → by_first f bytes ≡ More → (a : A) × (tail : List ℕ) × Fits a
        × (bytes ++ tail ≡ tag a ∷ spell a)
    first_more [] are e = (example, tag example ∷ spell example, fits, refl)
    first_more (b ∷ bytes) are e =
        elim (cases b (AreBytes-head b bytes are)) [
          | inl n ↦ absurd (cc (n.0 bytes))
          | inr l ↦ let m =
              l.more bytes (AreBytes-tail b bytes are) e in (
                m.0,
                m.1,
                m.2.0,
                ap (λ (xs : List ℕ). b ∷ xs) m.3
                    ∙ ap (λ (t : ℕ). t ∷ spell m.0) (sym m.2.1),
              )
        ]

    first_bad : (bytes : List ℕ) (reason : Reason) (left : ℕ) → AreBytes bytes → by_first f bytes ≡ Bad reason left
        → IsRefused (by_first f) bytes reason left
    first_bad [] reason left are e = absurd cc
    first_bad (b ∷ bytes) reason left are e =
        elim (cases b (AreBytes-head b bytes are)) [
          | inl n ↦ refused_first (by_first f) b bytes (why b) reason left refl n.0 e
          | inr l ↦
              refused_as (f b) (by_first f) (λ q. q) (b ∷ []) (b ∷ bytes) bytes reason left refl (λ n. refl) (λ xs. refl) refl
              (l.bad bytes reason left (AreBytes-tail b bytes are) e)
        ]
