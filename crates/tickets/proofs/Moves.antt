-- Each step keeps the rule.
use Rattle.std.proofs.Common.{◌≡◌, ◌≢◌, ℕ, zero, suc, ◌+◌, ◌≤◌, List, [], ◌∷◌, slice_set, true, false, true≢false, refl, sym, ◌∙◌, subst}
use Rattle.std.proofs.Common.{⊎_elim, arith}
use mathlib.Core.Option.{none, some, some-ne-none, some-injective}
use lib.ListN.{get_elem?}
use Rattle.atomic_table.specs.Table.{Me, step, Allows, Splits, Joins, opening, keeps}
use Rattle.atomic_table.proofs.Lists.{at_set, set_else, at_snoc, set_again}
use Rattle.tickets.specs.declared.view.View.{View}
use Rattle.tickets.specs.Tickets.{beginning, keeper, ticket_of, nobody, with_ticket, Fits, Ruled, Announces, Checks}

off : false ≡ true → ⊥
off e = true≢false (sym e)

module _ {T : Type 0} where
  -- the others fit, and so does the new view of this seat
  fits_set : (seat number : ℕ) (work : List T) (views : List (View T)) (by : ℕ) (w : View T)
      → ((j : ℕ) (u : View T) → j ≢ by → get_elem? views j ≡ some u → Fits seat number work j u)
      → Fits seat number work by w
      → (j : ℕ) (u : View T) → get_elem? (slice_set views by w) j ≡ some u → Fits seat number work j u
  fits_set seat number work views by w others mine j u e =
      ⊎_elim
      (λ (x : (j ≡ by) × (w ≡ u)). subst (λ (y : ℕ × View T). Fits seat number work y.0 y.1) (λ i. (sym x.0 i, x.1 i)) mine)
      (λ (x : (j ≢ by) × (get_elem? views j ≡ some u)). others j u x.0 x.1)
      (at_set views by j w u e)

  pub begins : Ruled {T = T} (opening (0 ∷ []) [] beginning)
  begins = (0, 0, [], (λ _. refl), one)
    where
      one : (by : ℕ) (v : View T) → get_elem? {A = View T} (beginning ∷ []) by ≡ some v → Fits 0 0 [] by v
      one zero v e = subst (Fits 0 0 [] 0) (some-injective _ _ e) ((λ _. (refl, refl, refl)), omega arith, λ _. refl)
      one (suc by) v e = absurd (some-ne-none v (sym e))

  pub announces : (slots id : ℕ) (m : Me (Unit {0}) (View T)) (work : List T) → m.0.keeps ≡ true
      → Allows Ruled slots id m 0 (λ n. n) (Announces work (step slots 0 0 0 none) m)
  announces slots id m work kept s r _ at _ =
      let mine = (r.4 id m.0 at).0 kept in
      let next = m.0.number + 1 in
      let w = keeper next work in
      let rule : Fits r.0 next work id w = ((λ _. (mine.0, refl, refl)), omega arith, λ _. refl) in (
        w,
        keeps,
        tt,
        (
          r.0,
          next,
          work,
          (λ (e : next ≡ 0). absurd (omega arith)),
          fits_set r.0 next work s.views id w
              (λ j u apart e. later r.0 r.1 r.2 j u m.0.number work mine.1 (λ is. apart (is ∙ sym mine.0)) (r.4 j u e))
              rule,
        ),
        refl,
      )
    where
      later : (seat number : ℕ) (now : List T) (j : ℕ) (u : View T) (mine : ℕ) (work : List T)
          → mine ≡ number → j ≢ seat → Fits seat number now j u → Fits seat (mine + 1) work j u
      later seat number now j u mine work is apart f =
          let low : u.claimed ≤ number = f.1 in
          ((λ k. absurd (apart (f.0 k).0)), omega arith, λ (e : u.claimed ≡ mine + 1). absurd (omega arith))

  pub checks : (slots id : ℕ) (m : Me (Unit {0}) (View T)) → m.0.keeps ≡ true
      → Allows Ruled slots id m 0 (λ n. n) (Checks (step slots 0 0 0 none) m)
  checks slots id m kept s r _ at _ =
      let f = r.4 id m.0 at in
      let mine = f.0 kept in (
        m.0,
        keeps,
        tt,
        (r.0, r.1, r.2, r.3, fits_set r.0 r.1 r.2 s.views id m.0 (λ j u _ e. r.4 j u e) f),
        (refl, λ (e : m.0.claimed ≡ m.0.number). f.2 (e ∙ mine.1) ∙ sym mine.2),
      )

  pub gives : (id : ℕ) (v : View T) → v.keeps ≡ true → Splits Ruled id v v (ticket_of v)
  gives id v kept s r at =
      let mine = (r.4 id v at).0 kept in
      let new : ((j : ℕ) → Fits r.0 r.1 r.2 j (ticket_of v)) =
      λ j. ((λ k. absurd (off k)), (let e = mine.1 in omega arith), λ _. mine.2) in (
        r.0,
        r.1,
        r.2,
        r.3,
        λ j u e. ⊎_elim
            (λ was. r.4 j u (subst (λ l. get_elem? l j ≡ some u) (set_again s.views id v at) was))
            (λ (same : ticket_of v ≡ u). subst (Fits r.0 r.1 r.2 j) same (new j))
            (at_snoc (slice_set s.views id v) (ticket_of v) u j e),
      )

  pub takes_in : (id : ℕ) (v : View T) (other : ℕ) (w : View T) → v.keeps ≡ true → Joins Ruled id v other w (with_ticket v w) nobody
  takes_in id v other w kept s r at ne there =
      let mine = (r.4 id v at).0 kept in
      let both = with_ticket v w in
      let one = slice_set s.views id both in
      let theirs = r.4 other w (sym (set_else s.views id other both ne) ∙ there) in
      let mine' : Fits r.0 r.1 r.2 id both = ((λ _. mine), theirs.1, theirs.2) in
      let spent : Fits r.0 r.1 r.2 other nobody = ((λ k. absurd (off k)), omega arith, λ (e : 0 ≡ r.1). r.3 (sym e)) in
      let mine_set = fits_set r.0 r.1 r.2 s.views id both (λ i y _ e. r.4 i y e) mine' in
      (r.0, r.1, r.2, r.3, fits_set r.0 r.1 r.2 one other nobody (λ j u _ e. mine_set j u e) spent)
