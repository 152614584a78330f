-- Prefixes of lists.
use Rattle.std.proofs.Common.{◌≡◌, ◌≢◌, ℕ, ◌<◌, ◌≤◌, List, [], ◌∷◌, ◌++◌, length, take, drop, append_assoc, length-append, length-drop}
use Rattle.std.proofs.Common.{arith, refl, sym, ap, ◌∙◌}
use Rattle.std.proofs.lemmas.List.{append-nil, take-append-drop}
use Rattle.det_io.specs.Prefix.{IsPrefix, IsProperPrefix}

-- the empty list is a prefix of every list
pub prefix-none : {X : Type 0} (all : List X) → IsPrefix [] all
prefix-none all = (all, refl)

-- every list is a prefix of itself
pub prefix-same : {X : Type 0} (all : List X) → IsPrefix all all
prefix-same all = ([], append-nil all)

-- a list is a prefix of itself with more after it
pub prefix-append : {X : Type 0} (front rest : List X) → IsPrefix front (front ++ rest)
prefix-append front rest = (rest, refl)

-- the first n items are a prefix
pub prefix-take : {X : Type 0} (n : ℕ) (all : List X) → IsPrefix (take n all) all
prefix-take n all = (drop n all, take-append-drop n all)

-- a prefix of a prefix is a prefix
pub prefix-then : {X : Type 0} (a b c : List X) → IsPrefix a b → IsPrefix b c → IsPrefix a c
prefix-then a b c p q = (p.0 ++ q.0, sym (append_assoc a p.0 q.0) ∙ ap (λ l. l ++ q.0) p.1 ∙ q.1)

-- a prefix stays a prefix after the same items
pub prefix-behind : {X : Type 0} (a b c : List X) → IsPrefix b c → IsPrefix (a ++ b) (a ++ c)
prefix-behind a b c p = (p.0, append_assoc a b p.0 ∙ ap (λ l. a ++ l) p.1)

-- a prefix is no longer than the list
pub prefix-length : {X : Type 0} (a b : List X) → IsPrefix a b → length a ≤ length b
prefix-length a b p = rw (← p.1) (let n = length-append a p.0 in omega arith)

-- a proper prefix is a prefix
pub proper-prefix : {X : Type 0} (a b : List X) → IsProperPrefix a b → IsPrefix a b
proper-prefix a b p = (p.0, p.1)

length-none : {X : Type 0} (xs : List X) → length xs ≡ 0 → xs ≡ []
length-none [] h = refl
length-none (x ∷ xs) h = absurd (omega arith)

-- a proper prefix is shorter than the list
pub proper-length : {X : Type 0} (a b : List X) → IsProperPrefix a b → length a < length b
proper-length a b p = rw (← p.1) (let n = length-append a p.0 in let some : (length p.0 ≡ 0 → ⊥) =
    (λ z. p.2 (length-none p.0 z)) in omega arith)

-- a prefix that isn't the whole list is a proper one
pub proper-of : {X : Type 0} (a b : List X) → IsPrefix a b → a ≢ b → IsProperPrefix a b
proper-of a b p ne = (p.0, p.1, λ none. ne (sym (append-nil a) ∙ ap (λ l. a ++ l) (sym none) ∙ p.1))

-- the first n items of more than n are a proper prefix
pub proper-take : {X : Type 0} (n : ℕ) (all : List X) → n < length all → IsProperPrefix (take n all) all
proper-take n all h = (
  drop n all,
  take-append-drop n all,
  λ none. let z : length (drop n all) ≡ 0 = ap length none in let k =
      length-drop n all in omega arith,
)

-- a proper prefix of a prefix is a proper prefix
pub proper-then : {X : Type 0} (a b c : List X) → IsProperPrefix a b → IsPrefix b c → IsProperPrefix a c
proper-then a b c p q = proper-of a c (prefix-then a b c (p.0, p.1) q)
    (λ e. let n = proper-length a b p in let m = prefix-length b c q in let s = ap length e in omega arith)

-- a prefix of a proper prefix is a proper prefix
pub prefix-then-proper : {X : Type 0} (a b c : List X) → IsPrefix a b → IsProperPrefix b c → IsProperPrefix a c
prefix-then-proper a b c p q = proper-of a c (prefix-then a b c p (q.0, q.1))
    (λ e. let n = prefix-length a b p in let m = proper-length b c q in let s = ap length e in omega arith)

-- a proper prefix stays a proper prefix after the same items
pub proper-behind : {X : Type 0} (a b c : List X) → IsProperPrefix b c → IsProperPrefix (a ++ b) (a ++ c)
proper-behind a b c p = (p.0, append_assoc a b p.0 ∙ ap (λ l. a ++ l) p.1, p.2)
