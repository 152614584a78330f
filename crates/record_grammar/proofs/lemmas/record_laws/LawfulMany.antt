-- Values in a row are read lawfully.
use Rattle.std.proofs.Common.{◌≡◌, ℕ, zero, suc, List, [], ◌∷◌, ◌++◌, length, refl, ap, arith}
use Rattle.std.specs.List.{flat_map, All}
use Rattle.std.proofs.lemmas.List.Concat.{flat_map-cons}
use Rattle.std.proofs.lemmas.List.Elements.{All-nil, All-cons, All-head, All-tail}
use Rattle.record_grammar.specs.Read.{Read, Got, ◌>>=◌, many}
use Rattle.record_grammar.proofs.lemmas.record_laws.Lawful.{IsLawful, lawful_give, lawful_read, lawful_values, lawful_map, lawful_then}

-- values in a row
module _ {A : Type 0} (Fits : A → Type 0) (spell : A → List ℕ) (item : List ℕ → Read A) (a : A) (fits : Fits a)
    (h : IsLawful Fits spell item) where
  abbrev AreMany : ℕ → List A → Type 0
  AreMany n xs = (length xs ≡ n) × All Fits xs

  abbrev head : List A → A
  head [] = a
  head (x ∷ xs) = x

  abbrev tail : List A → List A
  tail [] = []
  tail (x ∷ xs) = xs

  pub copies : (n : ℕ) → (xs : List A) × (length xs ≡ n) × All Fits xs
  copies zero = ([], refl, All-nil Fits)
  copies (suc n) = let c = copies n in (a ∷ c.0, ap suc c.1, All-cons Fits a c.0 fits c.2)

  head_fits : (n : ℕ) (c : List A) → AreMany (suc n) c → Fits (head c)
  head_fits n [] h = absurd (omega (arith, h.0))
  head_fits n (x ∷ xs) h = All-head Fits x xs h.1

  tail_fits : (n : ℕ) (c : List A) (first : A) → AreMany (suc n) c → head c ≡ first → AreMany n (tail c) × (c ≡ first ∷ tail c)
  tail_fits n [] first h e = absurd (omega (arith, h.0))
  tail_fits n (x ∷ xs) first h e = ((omega (arith, h.0), All-tail Fits x xs h.1), ap (λ (y : A). y ∷ xs) e)

  spell_is : (n : ℕ) (c : List A) → AreMany (suc n) c → flat_map spell c ≡ spell (head c) ++ flat_map spell (tail c)
  spell_is n [] h = absurd (omega (arith, h.0))
  spell_is n (x ∷ xs) h = flat_map-cons spell x xs

  many_none : (bytes : List ℕ) → many item zero bytes ≡ Got ([], bytes)
  unfolding many
  many_none bytes = refl

  many_one : (n : ℕ) (bytes : List ℕ) → many item (suc n) bytes
      ≡ (item bytes >>= λ first. many item n first.1 >>= λ others. Got (first.0 ∷ others.0, others.1))
  unfolding many
  many_one n bytes = refl

  none_is : (c : List A) → AreMany zero c → c ≡ []
  none_is [] h = refl
  none_is (x ∷ xs) h = absurd (omega (arith, h.0))

  pub lawful_many : (n : ℕ) → IsLawful (λ xs. (length xs ≡ n) × All Fits xs) (flat_map spell) (many item n)
  lawful_many zero =
      lawful_read (AreMany zero) (flat_map spell) (many item zero) (λ bytes. Got ([], bytes)) many_none
      (lawful_values (AreMany zero) (AreMany zero) (λ c. []) (flat_map spell) (λ bytes. Got ([], bytes)) (λ c h. h)
      (λ c h. (h, ap (flat_map spell) (none_is c h)))
      (lawful_give (AreMany zero) [] (refl, All-nil Fits) none_is))
  lawful_many (suc n) =
      lawful_read (AreMany (suc n)) (flat_map spell) (many item (suc n))
      (λ bytes. item bytes >>= λ first. many item n first.1 >>= λ others. Got (first.0 ∷ others.0, others.1)) (many_one n)
      (lawful_values (AreMany (suc n)) (AreMany (suc n)) (λ c. spell (head c) ++ flat_map spell (tail c)) (flat_map spell)
      (λ bytes. item bytes >>= λ first. many item n first.1 >>= λ others. Got (first.0 ∷ others.0, others.1)) (λ c h. h)
      (λ c h. (h, spell_is n c h))
      (lawful_then Fits spell item (AreMany (suc n)) head (λ c. flat_map spell (tail c))
      (λ first bytes. many item n bytes >>= λ others. Got (first ∷ others.0, others.1))
      (head_fits n) (λ x fx. let c = copies n in (x ∷ c.0, (ap suc c.1, All-cons Fits x c.0 fx c.2), refl)) h
      (λ first ff. lawful_map (AreMany n) (flat_map spell) (many item n) (λ c. AreMany (suc n) c × (head c ≡ first)) tail
      (λ others. first ∷ others)
      (λ c hc. tail_fits n c first hc.0 hc.1) (λ others ho. (((ap suc ho.0, All-cons Fits first others ff ho.1), refl), refl))
      (lawful_many n))))
