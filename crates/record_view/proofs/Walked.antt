-- A walk over values at their places.
use Rattle.std.proofs.Common.{◌≡◌, ℕ, zero, suc, ◌-◌, ◌<◌, true, false, List, [], ◌∷◌, length, refl, sym, ap, subst, ◌∙◌, arith}
use Rattle.record_grammar.specs.Read.{Read, Got, More, Bad, ◌>>=◌, many}
use Rattle.record_view.specs.declared.stop.Stop.{Stop}
use Rattle.record_view.specs.declared.stop.Stop.TheVariants as stops
use Rattle.record_view.specs.Gives.{Stops}
use Rattle.record_view.specs.Walks.{is_got, list_got, stand_at, values_at}
use Rattle.record_view.proofs.Many.{many_one, many_none, many_stops}

none_got : {A : Type 0} (stop : Stop) (r : Read A) → Stops stop r → is_got r ≡ true → ⊥
none_got stops.More r s h = let e : false ≡ true = ap (λ (q : Read _). is_got q) (sym s) ∙ h in absurd cc
none_got (stops.Bad reason left) r s h = let e : false ≡ true = ap (λ (q : Read _). is_got q) (sym s) ∙ h in absurd cc

-- a reader can't both give and stop
pub never_both : {A : Type 0} (stop : Stop) (r : Read A) (x : A × List ℕ) → Stops stop r → r ≡ Got x → ⊥
never_both stop r x s e = none_got stop r s (ap (λ (q : Read _). is_got q) e)

module _ {A : Type 0} (item : List ℕ → Read A) where
  pub walk_none : (n : ℕ) (bytes : List ℕ) → n ≡ 0 → values_at item n bytes ≡ []
  walk_none n bytes e =
      ap (λ (k : ℕ). values_at item k bytes) e ∙ ap (λ (r : Read (List A)). list_got r) (many_none item bytes)

  with_first : (a : A) (r : Read (List A)) → is_got (r >>= λ others. Got (a ∷ others.0, others.1)) ≡ true
      → (is_got r ≡ true) × (list_got (r >>= λ others. Got (a ∷ others.0, others.1)) ≡ a ∷ list_got r)
  with_first a (Got x) h = (refl, refl)
  with_first a More h = absurd cc
  with_first a (Bad reason left) h = absurd cc

  next_of : (n : ℕ) (bytes : List ℕ) (a : A) (rest : List ℕ) → item bytes ≡ Got (a, rest) → stand_at item (suc n) bytes ≡ true
      → (stand_at item n rest ≡ true) × (values_at item (suc n) bytes ≡ a ∷ values_at item n rest)
  next_of n bytes a rest got h =
      let one : many item (suc n) bytes ≡ (many item n rest >>= λ others. Got (a ∷ others.0, others.1)) =
      rw (many_one, got) refl in
      let s = with_first a (many item n rest) (ap (λ (r : Read (List A)). is_got r) (sym one) ∙ h) in
      (s.0, ap (λ (r : Read (List A)). list_got r) one ∙ s.1)

  pub walk_next : (n : ℕ) (bytes : List ℕ) (a : A) (rest : List ℕ) → 0 < n → item bytes ≡ Got (a, rest) → stand_at item n bytes ≡ true
      → (stand_at item (n - 1) rest ≡ true) × (values_at item n bytes ≡ a ∷ values_at item (n - 1) rest)
  walk_next zero bytes a rest lt got h = absurd (omega arith)
  walk_next (suc n) bytes a rest lt got h =
      let k : n ≡ suc n - 1 = omega arith in
      subst (λ (m : ℕ). (stand_at item m rest ≡ true) × (values_at item (suc n) bytes ≡ a ∷ values_at item m rest)) k
      (next_of n bytes a rest got h)

  pub walk_goes_on : (n : ℕ) (bytes : List ℕ) (stop : Stop) → 0 < n → Stops stop (item bytes) → stand_at item n bytes ≡ true → ⊥
  walk_goes_on n bytes stop lt s h = none_got stop (many item n bytes) (many_stops item n bytes stop lt s) h

-- as many values are returned as are counted
pub walk_counted : {A : Type 0} (item : List ℕ → Read A) (n : ℕ) (bytes : List ℕ) → stand_at item n bytes ≡ true
    → length (values_at item n bytes) ≡ n
walk_counted {A} item zero bytes h = ap length (walk_none item zero bytes refl)
walk_counted {A} item (suc n) bytes h = by (item bytes) refl (walk_counted item n)
  where
    by : (r : Read A) → item bytes ≡ r → ((rest : List ℕ) → stand_at item n rest ≡ true → length (values_at item n rest) ≡ n)
        → length (values_at item (suc n) bytes) ≡ suc n
    by (Got x) got others =
        let w = next_of item n bytes x.0 x.1 got h in ap length w.1 ∙ ap suc (others x.1 w.0)
    by More got others = absurd (walk_goes_on item (suc n) bytes stops.More (omega arith) got h)
    by (Bad reason left) got others = absurd (walk_goes_on item (suc n) bytes (stops.Bad reason left) (omega arith) got h)
