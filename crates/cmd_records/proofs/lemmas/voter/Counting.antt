-- Counts of what passes a test, and the first that passes.
use Rattle.std.proofs.Common.{◌≡◌, ◌+◌, ◌<◌, ◌≤◌, ℕ, zero, suc, Bool, true, false, cond, List, [], ◌∷◌, map, length, get_or, Some, None}
use Rattle.std.proofs.Common.{refl, sym, ap, subst, ◌∙◌, arith}
use Rattle.std.specs.List.{count_by, find, AllByRecursion}
use Rattle.std.proofs.lemmas.List.Sums.{sum_by-cons}
use Rattle.std.proofs.lemmas.Bool.{ltb-true, ltb-false, lt-ltb}
use Rattle.cmd_records.specs.voter.Majority.{is_most}

pub most-true : (part all : ℕ) → is_most part all ≡ true → all < part + part
most-true part all e = ltb-true all (part + part) e

pub most-false : (part all : ℕ) → is_most part all ≡ false → part + part ≤ all
most-false part all e = ltb-false all (part + part) e

pub most-is : (part all : ℕ) → all < part + part → is_most part all ≡ true
most-is part all h = lt-ltb all (part + part) h

-- ---- counts

pub count-cons : {A : Type 0} (p : A → Bool) (x : A) (xs : List A) (b : Bool) → p x ≡ b
    → count_by p (x ∷ xs) ≡ cond b 1 0 + count_by p xs
count-cons p x xs b e = sum_by-cons (λ y. cond (p y) 1 0) x xs ∙ ap (λ c. cond c 1 0 + count_by p xs) e

-- two tests that pass for more than all together both pass for one
pub both : {A : Type 0} (f g : A → Bool) (xs : List A) → length xs < count_by f xs + count_by g xs
    → (x : A) × (f x ≡ true) × (g x ≡ true)
both f g [] h = absurd (omega (arith, h))
both {A} f g (x ∷ xs) h = by (both f g xs) (f x) refl (g x) refl
  where
    by : (length xs < count_by f xs + count_by g xs → (y : A) × (f y ≡ true) × (g y ≡ true)) → (a : Bool) → f x ≡ a → (b : Bool)
        → g x ≡ b → (y : A) × (f y ≡ true) × (g y ≡ true)
    by on true e true d = (x, e, d)
    by on true e false d = let n = count-cons f x xs true e in let m = count-cons g x xs false d in on (omega (arith, h, n, m))
    by on false e true d = let n = count-cons f x xs false e in let m = count-cons g x xs true d in on (omega (arith, h, n, m))
    by on false e false d = let n = count-cons f x xs false e in let m = count-cons g x xs false d in on (omega (arith, h, n, m))

pub count-le : {A : Type 0} (f g : A → Bool) (xs : List A) → ((x : A) → f x ≡ true → g x ≡ true) → count_by f xs ≤ count_by g xs
count-le f g [] h = omega arith
count-le f g (x ∷ xs) h = by (count-le f g xs h) (f x) refl (g x) refl
  where
    by : count_by f xs ≤ count_by g xs → (a : Bool) → f x ≡ a → (b : Bool) → g x ≡ b → count_by f (x ∷ xs) ≤ count_by g (x ∷ xs)
    by r true e true d = let n = count-cons f x xs true e in let m = count-cons g x xs true d in omega (arith, r, n, m)
    by r true e false d = let no : false ≡ true = sym d ∙ h x e in absurd cc
    by r false e true d = let n = count-cons f x xs false e in let m = count-cons g x xs true d in omega (arith, r, n, m)
    by r false e false d = let n = count-cons f x xs false e in let m = count-cons g x xs false d in omega (arith, r, n, m)

pub count-same : {A : Type 0} (f g : A → Bool) (xs : List A) → ((x : A) → f x ≡ g x) → count_by f xs ≡ count_by g xs
count-same f g [] h = refl
count-same f g (x ∷ xs) h =
    count-cons f x xs (g x) (h x) ∙ ap (λ n. cond (g x) 1 0 + n) (count-same f g xs h) ∙ sym (count-cons g x xs (g x) refl)

pub count-map : {A B : Type 0} (p : B → Bool) (f : A → B) (xs : List A) → count_by p (map f xs) ≡ count_by (λ x. p (f x)) xs
count-map p f [] = refl
count-map p f (x ∷ xs) =
    count-cons p (f x) (map f xs) (p (f x)) refl ∙ ap (λ n. cond (p (f x)) 1 0 + n) (count-map p f xs)
    ∙ sym (count-cons (λ y. p (f y)) x xs (p (f x)) refl)

-- what passes somewhere passes at an index
pub passes-at : {A : Type 0} (p : A → Bool) (xs : List A) (d : A) → 0 < count_by p xs
    → (k : ℕ) × (k < length xs) × (p (get_or xs k d) ≡ true)
passes-at p [] d h = absurd (omega (arith, h))
passes-at p (x ∷ xs) d h = by (passes-at p xs d) (p x) refl
  where
    by : (0 < count_by p xs → (k : ℕ) × (k < length xs) × (p (get_or xs k d) ≡ true)) → (b : Bool) → p x ≡ b
        → (k : ℕ) × (k < length (x ∷ xs)) × (p (get_or (x ∷ xs) k d) ≡ true)
    by on true e = (zero, omega arith, e)
    by on false e =
        let n = count-cons p x xs false e in
        let r = on (omega (arith, h, n)) in
        let less = r.1 in
        (suc r.0, omega (arith, less), r.2)

-- ---- the first that passes

pub find-only : {A : Type 0} (p : A → Bool) (w : A) (xs : List A) → ((x : A) → p x ≡ true → x ≡ w) → 0 < count_by p xs
    → find p xs ≡ Some w
find-only p w [] only some = absurd (omega (arith, some))
find-only p w (x ∷ xs) only some = by (find-only p w xs only) (p x) refl
  where
    by : (0 < count_by p xs → find p xs ≡ Some w) → (b : Bool) → p x ≡ b → cond b (Some x) (find p xs) ≡ Some w
    by on true e = ap Some (only x e)
    by on false e = let n = count-cons p x xs false e in on (omega (arith, some, n))

pub find-none : {A : Type 0} (p : A → Bool) (xs : List A) → ((x : A) → p x ≡ true → ⊥) → find p xs ≡ None
find-none p [] none = refl
find-none p (x ∷ xs) none = by (find-none p xs none) (p x) refl
  where
    by : find p xs ≡ None → (b : Bool) → p x ≡ b → cond b (Some x) (find p xs) ≡ None
    by on true e = absurd (none x e)
    by on false e = on

-- what is found passes, and is among them
pub find-some : {A : Type 0} (P : A → Type 0) (p : A → Bool) (w : A) (xs : List A) → AllByRecursion P xs → find p xs ≡ Some w
    → (p w ≡ true) × P w
find-some P p w [] all e = absurd cc
find-some P p w (x ∷ xs) all e = by (find-some P p w xs all.1) (p x) refl e
  where
    by : (find p xs ≡ Some w → (p w ≡ true) × P w) → (b : Bool) → p x ≡ b → cond b (Some x) (find p xs) ≡ Some w → (p w ≡ true) × P w
    by on true d f = let same : x ≡ w = cc in (subst (λ y. p y ≡ true) same d, subst P same all.0)
    by on false d f = on f
