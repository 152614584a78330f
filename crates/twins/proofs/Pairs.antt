-- Lists related place by place.
use Rattle.std.proofs.Common.{◌≡◌, ◌≢◌, ◌<◌, ◌≤◌, ◌+◌, ◌⊎◌, inl, inr, ℕ, suc, ◌-◌, List, [], ◌∷◌, ◌++◌, length, get_or, set, map}
use Rattle.std.proofs.Common.{refl, sym, ap, ◌∙◌, arith, eqb, leb, true, false, subst, length-append}
use Rattle.std.proofs.lemmas.Bool.Decides.{eqb_tells, leb_tells}
use Rattle.std.proofs.Math.ListN.{get_or-append}
use Rattle.std.proofs.lemmas.List.{get_or-append-add, get_or-set_same, get_or-set_other, length-set}
use Rattle.std.proofs.lemmas.List.Elements.{All-get_or}
use Rattle.std.proofs.Math.Seq.{get_or-append_seam}
use Rattle.std.specs.List.{All}
use Rattle.twins.specs.Pairs.{EachPair}

module _ {X Y : Type 0} where
  pub pair_none : (R : X → Y → Type 0) → EachPair R [] []
  pair_none R = record { count = refl; each = λ k x y h. absurd (omega arith) }

  pub pair_more : (R : X → Y → Type 0) (xs : List X) (ys : List Y) (x : X) (y : Y) → EachPair R xs ys → R x y
      → EachPair R (xs ++ x ∷ []) (ys ++ y ∷ [])
  pair_more R xs ys x y p one = record {
    count = (let c = p.count in omega (arith, length-append xs (x ∷ []), length-append ys (y ∷ [])));
    each = λ k a b h. at k a b (let l = length-append ys (y ∷ []) in omega arith) (eqb_tells k (length ys));
  }
    where
      at : (k : ℕ) (a : X) (b : Y) → k < length ys + 1
          → ((eqb k (length ys) ≡ true) × (k ≡ length ys)) ⊎ ((eqb k (length ys) ≡ false) × (k ≢ length ys))
          → R (get_or (xs ++ x ∷ []) k a) (get_or (ys ++ y ∷ []) k b)
      at k a b h (inl e) = rw (e.1, get_or-append_seam ys y [] b) (rw (← p.count) (rw (get_or-append_seam xs x [] a) one))
      at k a b h (inr e) =
          let n = e.1 in
          rw (get_or-append xs (x ∷ []) a k (let c = p.count in omega arith), get_or-append ys (y ∷ []) b k (omega arith))
          (p.each k a b (omega arith))

  pub pair_less : (R : X → Y → Type 0) (xs : List X) (ys : List Y) (x : X) (y : Y) → EachPair R (xs ++ x ∷ []) (ys ++ y ∷ [])
      → EachPair R xs ys × R x y
  pair_less R xs ys x y p =
      let same : length xs ≡ length ys = (let c = p.count in omega (arith, length-append xs (x ∷ []), length-append ys (y ∷ []))) in
      let last : R (get_or (xs ++ x ∷ []) (length ys) x) (get_or (ys ++ y ∷ []) (length ys) y) = p.each (length ys) x y
      (let l = length-append ys (y ∷ []) in omega arith) in
      let first : get_or (xs ++ x ∷ []) (length ys) x ≡ x = subst (λ n. get_or (xs ++ x ∷ []) n x ≡ x) same
      (get_or-append_seam xs x [] x) in (
        record {
          count = same;
          each = λ k a b h. rw (← get_or-append xs (x ∷ []) a k (omega arith), ← get_or-append ys (y ∷ []) b k h) (p.each k a b
              (let l = length-append ys (y ∷ []) in omega arith));
        },
        rw (first, get_or-append_seam ys y [] y) at last,
      )

  -- the last of both, and those before them
  pub pair_split : (R : X → Y → Type 0) (all xs : List X) (ys : List Y) (x : X) (y : Y) → all ≡ xs ++ x ∷ []
      → EachPair R all (ys ++ y ∷ []) → EachPair R xs ys × R x y
  pair_split R all xs ys x y is p = pair_less R xs ys x y (subst (λ (l : List X). EachPair R l (ys ++ y ∷ [])) is p)

  -- and back again
  pub pair_rejoin : (R : X → Y → Type 0) (all xs : List X) (ys same : List Y) (x : X) (y : Y) → all ≡ xs ++ x ∷ [] → same ≡ ys
      → EachPair R xs ys → R x y → EachPair R all (same ++ y ∷ [])
  pair_rejoin R all xs ys same x y is e p one = rw (is, e) (pair_more R xs ys x y p one)

  pub pair_join : (R : X → Y → Type 0) (xs us : List X) (ys bs : List Y) → EachPair R xs ys → EachPair R us bs
      → EachPair R (xs ++ us) (ys ++ bs)
  pair_join R xs us ys bs p q = record {
    count = (let c = p.count in let d = q.count in omega (arith, length-append xs us, length-append ys bs));
    each = λ k a b h. at k a b (let l = length-append ys bs in omega arith) (leb_tells (length ys) k);
  }
    where
      at : (k : ℕ) (a : X) (b : Y) → k < length ys + length bs
          → ((leb (length ys) k ≡ true) × (length ys ≤ k)) ⊎ ((leb (length ys) k ≡ false) × (k < length ys))
          → R (get_or (xs ++ us) k a) (get_or (ys ++ bs) k b)
      at k a b h (inr e) =
          let l = e.1 in
          rw (get_or-append xs us a k (let c = p.count in omega arith), get_or-append ys bs b k l) (p.each k a b l)
      at k a b h (inl e) =
          let l = e.1 in
          let m : k ≡ length ys + (k - length ys) = omega arith in
          let n : k ≡ length xs + (k - length ys) = (let c = p.count in omega arith) in
          let left : get_or (xs ++ us) k a ≡ get_or us (k - length ys) a = ap (λ i. get_or (xs ++ us) i a) n ∙ get_or-append-add xs us
          (k - length ys) a in
          let right : get_or (ys ++ bs) k b ≡ get_or bs (k - length ys) b = ap (λ i. get_or (ys ++ bs) i b) m ∙ get_or-append-add ys bs
          (k - length ys) b in
          rw (left, right) (q.each (k - length ys) a b (omega arith))

  pub pair_head : (R : X → Y → Type 0) (x : X) (xs : List X) (y : Y) (ys : List Y) → EachPair R (x ∷ xs) (y ∷ ys) → R x y
  pair_head R x xs y ys p = p.each 0 x y (omega arith)

  pub pair_tail : (R : X → Y → Type 0) (x : X) (xs : List X) (y : Y) (ys : List Y) → EachPair R (x ∷ xs) (y ∷ ys) → EachPair R xs ys
  pair_tail R x xs y ys p = record { count = (let c = p.count in omega arith); each = λ k a b h. p.each (suc k) a b (omega arith) }

  -- what follows from the relation at each place
  pub pair_then : (R Q : X → Y → Type 0) (xs : List X) (ys : List Y) → ((x : X) (y : Y) → R x y → Q x y) → EachPair R xs ys
      → EachPair Q xs ys
  pair_then R Q xs ys next p = record { count = p.count; each = λ k a b h. next (get_or xs k a) (get_or ys k b) (p.each k a b h) }

  -- and with a fact of each item
  pub pair_with : (R : X → Y → Type 0) (P : X → Type 0) (xs : List X) (ys : List Y) → EachPair R xs ys → All P xs
      → EachPair (λ x y. R x y × P x) xs ys
  pair_with R P xs ys p all =
      record { count = p.count; each = λ k a b h. (p.each k a b h, All-get_or P xs k a (let c = p.count in omega arith) all) }

  -- one item is replaced
  pub pair_set : (R : X → Y → Type 0) (xs : List X) (ys : List Y) (i : ℕ) (z : Y) → EachPair R xs ys → i < length ys
      → ((x : X) → R (get_or xs i x) z) → EachPair R xs (set ys i z)
  pair_set R xs ys i z p within one = record {
    count = p.count ∙ sym (length-set ys i z);
    each = λ k a b h. at k a b (subst (λ n. k < n) (length-set ys i z) h) (eqb_tells k i);
  }
    where
      at : (k : ℕ) (a : X) (b : Y) → k < length ys → ((eqb k i ≡ true) × (k ≡ i)) ⊎ ((eqb k i ≡ false) × (k ≢ i))
          → R (get_or xs k a) (get_or (set ys i z) k b)
      at k a b h (inl e) = rw (e.1, get_or-set_same ys i z b within) (one a)
      at k a b h (inr e) = rw (get_or-set_other ys i k z b e.1) (p.each k a b h)

  -- what is known of both alike
  pub pair_map : {Z : Type 0} (R : X → Y → Type 0) (f : X → Z) (g : Y → Z) → ((x : X) (y : Y) → R x y → f x ≡ g y)
      → (xs : List X) (ys : List Y) → EachPair R xs ys → map f xs ≡ map g ys
  pair_map R f g same [] [] p = refl
  pair_map R f g same [] (y ∷ ys) p = absurd (let c = p.count in omega arith)
  pair_map R f g same (x ∷ xs) [] p = absurd (let c = p.count in omega arith)
  pair_map R f g same (x ∷ xs) (y ∷ ys) p =
      ap (λ z. z ∷ map f xs) (same x y (pair_head R x xs y ys p))
      ∙ ap (λ zs. g y ∷ zs) (pair_map R f g same xs ys (pair_tail R x xs y ys p))

  pub pair_with_right : (R : X → Y → Type 0) (P : Y → Type 0) (xs : List X) (ys : List Y) → EachPair R xs ys → All P ys
      → EachPair (λ x y. R x y × P y) xs ys
  pair_with_right R P xs ys p all = record { count = p.count; each = λ k a b h. (p.each k a b h, All-get_or P ys k b h all) }

  -- what the relation says of each right item
  pub pair_all : (R : X → Y → Type 0) (P : Y → Type 0) → ((x : X) (y : Y) → R x y → P y) → (xs : List X) (ys : List Y)
      → EachPair R xs ys → All P ys
  pair_all R P next [] [] p = λ k d h. absurd (omega arith)
  pair_all R P next [] (y ∷ ys) p = absurd (let c = p.count in omega arith)
  pair_all R P next (x ∷ xs) ys p = λ k d h. next (get_or (x ∷ xs) k x) (get_or ys k d) (p.each k x d h)

  pub pair_one : (R : X → Y → Type 0) (x : X) (y : Y) → R x y → EachPair R (x ∷ []) (y ∷ [])
  pair_one R x y one = pair_more R [] [] x y (pair_none R) one
