-- Each kind of step changes the state that a table shows as one event of the machine does, or leaves it.
use Rattle.std.proofs.Common.{◌≡◌, ℕ, zero, suc, ◌+◌, ◌<◌, ◌≤◌, ◌≢◌, ◌⊎◌, Bool, cond, min, List, [], ◌∷◌, ◌++◌, get_or, set, sym, refl, ap}
use Rattle.std.proofs.Common.{◌∙◌, subst, inl, inr, ⊎_elim, arith, length-append, length-set, get_or-set_same, get_or-set_other}
use Rattle.std.proofs.Common.{lt_of_not-le}
use mathlib.Core.Logic.{dite}
use mathlib.Core.Option.{some, some-injective, some-ne-none}
use native.Mathlib.Decide.{ℕ_discrete, dec_le}
use lib.ListN.{get_elem?}
use Rattle.std.proofs.lemmas.Bool.{lt-ltb}
use Rattle.atomic_table.proofs.Lists.{at_set, at_snoc, at_last, at_longer, set_here, set_else, set_again}
use Rattle.worker_pool.specs.declared.pool_view.Mark.{Mark}
use Rattle.worker_pool.specs.declared.pool_view.Mark.TheVariants.{Open, Finished, Reported, Skipped}
use Rattle.worker_pool.specs.declared.pool_view.PoolEntry.{PoolEntry}
use Rattle.worker_pool.specs.declared.pool_view.PoolView.{PoolView}
use Rattle.worker_pool.specs.Views.{entry, fresh, times, reported, Stands, IsAbove, marked, total, taken, passed, with_mark, one_less}
use Rattle.worker_pool.specs.Views.{newcomer, joined}
use Rattle.worker_pool.specs.Rule.{PoolState}
use Rattle.worker_pool.specs.Machine.{Machine, machine, next, claim, finish, look, report, Has, after}
use Rattle.worker_pool.specs.Moves.{moved, regrouped}
use Rattle.worker_pool.specs.MachineOfTable.{Becomes, At}
use Rattle.worker_pool.proofs.Entries.{least_of_small}
use Rattle.worker_pool.proofs.Marks.{here, there, stands_times, total_at}
use Rattle.worker_pool.proofs.Kept.{take_kept, pass_kept, stayed}
use Rattle.worker_pool.proofs.MarkKept.{mark_kept}
use Rattle.worker_pool.proofs.Sharing.{split_allowed, join_allowed}
use Rattle.worker_pool.proofs.Schedules.{at_inside}

stands_append : (b : ℕ) (k : Mark) (es fs : List PoolEntry) → Stands b k (es ++ fs) → Stands b k es ⊎ Stands b k fs
stands_append b k [] fs h = inr h
stands_append b k (e ∷ es) fs h = ⊎_elim (λ (x : e ≡ entry b k). inl (inl x))
    (λ (x : Stands b k (es ++ fs)). ⊎_elim (λ (y : Stands b k es). inl (inr y)) (λ (y : Stands b k fs). inr y)
    (stands_append b k es fs x)) h

stands_marked : (b c : ℕ) (k j : Mark) (es : List PoolEntry) → Stands c j (marked b k es) → ((c ≡ b) × (j ≡ k)) ⊎ ((c ≢ b) × Stands c j es)
stands_marked b c k j [] h = absurd h
stands_marked b c k j (e ∷ es) h = dite (ℕ_discrete e.block b)
    (λ is. ⊎_elim
    (λ (x : entry b k ≡ entry c j). inl (ap (λ (y : PoolEntry). y.block) (sym x), ap (λ (y : PoolEntry). y.mark) (sym x)))
    (λ (x : Stands c j (marked b k es)). ⊎_elim (λ (y : (c ≡ b) × (j ≡ k)). inl y) (λ (y : (c ≢ b) × Stands c j es). inr (y.0, inr y.1))
    (stands_marked b c k j es x))
    (subst (Stands c j) (here b k e es is) h))
    (λ ne. ⊎_elim
    (λ (x : e ≡ entry c j). inr ((λ same. ne (ap (λ (y : PoolEntry). y.block) x ∙ same)), inl x))
    (λ (x : Stands c j (marked b k es)). ⊎_elim (λ (y : (c ≡ b) × (j ≡ k)). inl y) (λ (y : (c ≢ b) × Stands c j es). inr (y.0, inr y.1))
    (stands_marked b c k j es x))
    (subst (Stands c j) (there b k e es ne) h))

-- two seats
total_two : (f : PoolView → ℕ) (l : List PoolView) (i j : ℕ) (v w : PoolView) → j ≢ i → get_elem? l i ≡ some v → get_elem? l j ≡ some w
    → f v + f w ≤ total f l
total_two f [] i j v w ne a b = absurd (some-ne-none v (sym a))
total_two f (x ∷ xs) zero zero v w ne a b = absurd (ne refl)
total_two f (x ∷ xs) zero (suc j) v w ne a b = let is : f x ≡ f v = ap f (some-injective x v a) in let t = total_at f xs j w b in
    omega arith
total_two f (x ∷ xs) (suc i) zero v w ne a b = let is : f x ≡ f w = ap f (some-injective x w b) in let t = total_at f xs i v a in
    omega arith
total_two f (x ∷ xs) (suc i) (suc j) v w ne a b = let t = total_two f xs i j v w (λ e. ne (ap suc e)) a b in omega arith

module _ (blocks : ℕ) (s : PoolState) (id : ℕ) (v : PoolView) (m : Machine) (h : At blocks s id v m) where
  module _ (room : v.seen < blocks) where
    abbrev ws : List ℕ
    ws = set s.words (v.seen + 1) 1

    same : get_or ws (v.seen + 1) 0 ≡ 1
    same = let e = h.ruled.sized in get_or-set_same s.words (v.seen + 1) 1 0 (omega arith)

    other : (b : ℕ) → b ≢ v.seen → get_or ws (b + 1) 0 ≡ get_or s.words (b + 1) 0
    other b ne = get_or-set_other s.words (v.seen + 1) (b + 1) 1 0 (λ e. ne (omega arith))

    low : get_or ws 0 0 ≡ get_or s.words 0 0
    low = get_or-set_other s.words (v.seen + 1) 0 1 0 (λ e. omega arith)

    number : get_or s.words (v.seen + 1) 0 ≡ 0 → v.seen ≡ next m
    number free = let f = h.ruled.fits id v h.seat in dite (dec_le v.seen (next m))
        (λ le. dite (dec_le (next m) v.seen) (λ ge. omega arith) (λ not. let lt : v.seen < next m = lt_of_not-le not in
        let one = h.shows.claimed v.seen lt in absurd (omega arith)))
        (λ not. let lt : next m < v.seen = lt_of_not-le not in let q = h.shows.counted (next m) (f.tried (next m) lt) in
        absurd (omega arith))

    pub claims_event : get_or s.words (v.seen + 1) 0 ≡ 0 → (v.seen ≡ next m) × (next m < blocks)
        × Becomes blocks (moved s (v.seen + 1) 1 id (taken v)) (after claim m)
    claims_event free = let n = number free in (
      n,
      omega arith,
      (
        take_kept blocks s h.ruled id v h.seat room h.shares [] free,
        record {
          least = h.shows.least ∙ sym low;
          claimed = λ b lt. dite (ℕ_discrete b v.seen) (λ e. subst (λ (k : ℕ). get_or ws (k + 1) 0 ≡ 1) (sym e) same)
              (λ ne. other b ne ∙ h.shows.claimed b (let l = length-append m.marks (Open ∷ []) in omega arith));
          counted = λ b one. let l = length-append m.marks (Open ∷ []) in
              dite (ℕ_discrete b v.seen) (λ e. omega arith) (λ ne. let q = h.shows.counted b (sym (other b ne) ∙ one) in omega arith);
          marks = λ j u b k at st. ⊎_elim
              (λ (e : (j ≡ id) × (taken v ≡ u)). ⊎_elim
              (λ (x : Stands b k v.entries). at_longer m.marks (Open ∷ []) b k (h.shows.marks id v b k h.seat x))
              (λ (x : Stands b k (entry v.seen Open ∷ [])). ⊎_elim
              (λ (y : entry v.seen Open ≡ entry b k). let num : v.seen ≡ b = ap (λ (z : PoolEntry). z.block) y in
              at_last m.marks Open b (omega arith) ∙ ap (λ (z : PoolEntry). some z.mark) y)
              (λ (y : ⊥). absurd y) x)
              (stands_append b k v.entries (entry v.seen Open ∷ []) (subst (λ (z : PoolView). Stands b k z.entries) (sym e.1) st)))
              (λ (e : (j ≢ id) × (get_elem? s.views j ≡ some u)). at_longer m.marks (Open ∷ []) b k (h.shows.marks j u b k e.1 st))
              (at_set s.views id j (taken v) u at);
        },
      ),
    )

    pub passes_no_event : get_or s.words (v.seen + 1) 0 ≡ 1 → Becomes blocks (moved s (v.seen + 1) 1 id (passed v)) m
    passes_no_event held = (
      pass_kept blocks s h.ruled id v h.seat room h.shares [] held,
      record {
        least = h.shows.least ∙ sym low;
        claimed = λ b lt. dite (ℕ_discrete b v.seen) (λ e. subst (λ (k : ℕ). get_or ws (k + 1) 0 ≡ 1) (sym e) same)
            (λ ne. other b ne ∙ h.shows.claimed b lt);
        counted = λ b one. dite (ℕ_discrete b v.seen) (λ e. h.shows.counted b (ap (λ (k : ℕ). get_or s.words (k + 1) 0) e ∙ held))
            (λ ne. h.shows.counted b (sym (other b ne) ∙ one));
        marks = λ j u b k at st. ⊎_elim
            (λ (e : (j ≡ id) × (passed v ≡ u)). h.shows.marks id v b k h.seat (subst (λ (z : PoolView). Stands b k z.entries) (sym e.1) st))
            (λ (e : (j ≢ id) × (get_elem? s.views j ≡ some u)). h.shows.marks j u b k e.1 st)
            (at_set s.views id j (passed v) u at);
      },
    )

  module _ (b : ℕ) (open_there : Stands b Open v.entries) where
    pub has_open : Has m b Open
    has_open = h.shows.marks id v b Open h.seat open_there

    -- the block gets the mark k, and word 0 the value n
    pub marks_event : (k : Mark) (n : ℕ) → n ≡ min (get_or s.words 0 0) (reported k b) → IsAbove k n b
        → Becomes blocks (moved s 0 n id (with_mark b k v)) (machine (set m.marks b k) n)
    marks_event k n is above = let size = h.ruled.sized in
        let other : ((d : ℕ) → get_or (set s.words 0 n) (d + 1) 0 ≡ get_or s.words (d + 1) 0) = λ d. get_or-set_other s.words 0 (d + 1) n 0
        (λ e. omega arith) in (
          mark_kept blocks s h.ruled id v h.seat h.shares b open_there k [] n is above,
          record {
            least = sym (get_or-set_same s.words 0 n 0 (omega arith));
            claimed = λ d lt. other d ∙ h.shows.claimed d (let l = length-set m.marks b k in omega arith);
            counted = λ d one. let q = h.shows.counted d (sym (other d) ∙ one) in let l = length-set m.marks b k in omega arith;
            marks = λ j u c i at st. ⊎_elim
                (λ (e : (j ≡ id) × (with_mark b k v ≡ u)). ⊎_elim
                (λ (x : (c ≡ b) × (i ≡ k)). subst (λ (z : ℕ). get_elem? (set m.marks b k) z ≡ some i) (sym x.0)
                (set_here m.marks b k (at_inside m.marks b Open has_open) ∙ ap some (sym x.1)))
                (λ (x : (c ≢ b) × Stands c i v.entries). set_else m.marks b c k x.0 ∙ h.shows.marks id v c i h.seat x.1)
                (stands_marked b c k i v.entries (subst (λ (z : PoolView). Stands c i z.entries) (sym e.1) st)))
                (λ (e : (j ≢ id) × (get_elem? s.views j ≡ some u)).
                let apart : c ≢ b = λ same. let two = total_two (λ (z : PoolView). times c z.entries) s.views id j v u e.0 h.seat e.1 in
                let one = stands_times c i u.entries st in let mine : 1 ≤ times c v.entries = subst (λ (z : ℕ). 1 ≤ times z v.entries)
                (sym same) (stands_times b Open v.entries open_there) in
                let q = h.ruled.counted c in let o = h.ruled.once c in absurd (omega arith) in
                set_else m.marks b c k apart ∙ h.shows.marks j u c i e.1 st)
                (at_set s.views id j (with_mark b k v) u at);
          },
        )

    pub finishes_event : Has m b Open × Becomes blocks (moved s 0 (get_or s.words 0 0) id (with_mark b Finished v)) (after (finish b) m)
    finishes_event = let small = least_of_small s.views in let l = h.ruled.least in (
      has_open,
      subst (λ (n : ℕ). Becomes blocks (moved s 0 (get_or s.words 0 0) id (with_mark b Finished v))
          (machine (set m.marks b Finished) n)) (sym h.shows.least) (marks_event Finished (get_or s.words 0 0) (omega arith) tt),
    )

    pub reports_event : Has m b Open × Becomes blocks (moved s 0 (min (get_or s.words 0 0) b) id (with_mark b Reported v))
        (after (report b) m)
    reports_event = (
      has_open,
      subst (λ (n : ℕ). Becomes blocks (moved s 0 (min (get_or s.words 0 0) b) id (with_mark b Reported v))
          (machine (set m.marks b Reported) (min n b))) (sym h.shows.least) (marks_event Reported (min (get_or s.words 0 0) b) refl tt),
    )

    pub skips_event : get_or s.words 0 0 < b → Has m b Open × Becomes blocks (moved s 0 (get_or s.words 0 0) id (with_mark b Skipped v))
        (after (look b) m)
    skips_event lt = let small = least_of_small s.views in let l = h.ruled.least in let e = h.shows.least in
        let C : Bool → Type 0 = λ t. Becomes blocks (moved s 0 (get_or s.words 0 0) id (with_mark b Skipped v))
        (cond t (machine (set m.marks b Skipped) m.least) m) in (
          has_open,
          subst C (sym (lt-ltb m.least b (omega arith))) (subst
              (λ (n : ℕ). Becomes blocks (moved s 0 (get_or s.words 0 0) id (with_mark b Skipped v)) (machine (set m.marks b Skipped) n))
              (sym h.shows.least) (marks_event Skipped (get_or s.words 0 0) (omega arith) lt)),
        )

  pub loads_no_event : Becomes blocks (moved s 0 (get_or s.words 0 0) id v) m
  loads_no_event = let size = h.ruled.sized in let w = get_or s.words 0 0 in (
    stayed blocks s h.ruled id v h.seat [],
    record {
      least = h.shows.least ∙ sym (get_or-set_same s.words 0 (get_or s.words 0 0) 0 (omega arith));
      claimed = λ b lt. get_or-set_other s.words 0 (b + 1) (get_or s.words 0 0) 0 (λ e. omega arith) ∙ h.shows.claimed b lt;
      counted = λ b one. h.shows.counted b (sym (get_or-set_other s.words 0 (b + 1) (get_or s.words 0 0) 0 (λ e. omega arith)) ∙ one);
      marks = λ j u b k at st. h.shows.marks j u b k (ap (λ (l : List PoolView). get_elem? l j) (sym (set_again s.views id v h.seat))
          ∙ at) st;
    },
  )

  pub splits_no_event : 2 ≤ v.shares → Becomes blocks (regrouped s (set s.views id (one_less v) ++ newcomer ∷ [])) m
  splits_no_event two = (
    split_allowed blocks id v two s h.ruled h.seat,
    record {
      least = h.shows.least;
      claimed = h.shows.claimed;
      counted = h.shows.counted;
      marks = λ j u b k at st. ⊎_elim
          (λ (e : get_elem? (set s.views id (one_less v)) j ≡ some u). ⊎_elim
          (λ (x : (j ≡ id) × (one_less v ≡ u)). h.shows.marks id v b k h.seat (subst (λ (z : PoolView). Stands b k z.entries) (sym x.1) st))
          (λ (x : (j ≢ id) × (get_elem? s.views j ≡ some u)). h.shows.marks j u b k x.1 st)
          (at_set s.views id j (one_less v) u e))
          (λ (e : newcomer ≡ u). absurd (subst (λ (z : PoolView). Stands b k z.entries) (sym e) st))
          (at_snoc (set s.views id (one_less v)) newcomer u j at);
    },
  )

  pub joins_no_event : (other : ℕ) (w : PoolView) → other ≢ id → get_elem? s.views other ≡ some w
      → Becomes blocks (regrouped s (set (set s.views id (joined v w)) other (fresh 0))) m
  joins_no_event other w ne at' = (
    join_allowed blocks id other v w h.shares s h.ruled h.seat ne (set_else s.views id other (joined v w) ne ∙ at'),
    record {
      least = h.shows.least;
      claimed = h.shows.claimed;
      counted = h.shows.counted;
      marks = λ j u b k at st. ⊎_elim
          (λ (x : (j ≡ other) × (fresh 0 ≡ u)). absurd (subst (λ (z : PoolView). Stands b k z.entries) (sym x.1) st))
          (λ (x : (j ≢ other) × (get_elem? (set s.views id (joined v w)) j ≡ some u)). ⊎_elim
          (λ (y : (j ≡ id) × (joined v w ≡ u)). ⊎_elim
          (λ (z : Stands b k v.entries). h.shows.marks id v b k h.seat z)
          (λ (z : Stands b k w.entries). h.shows.marks other w b k at' z)
          (stands_append b k v.entries w.entries (subst (λ (z : PoolView). Stands b k z.entries) (sym y.1) st)))
          (λ (y : (j ≢ id) × (get_elem? s.views j ≡ some u)). h.shows.marks j u b k y.1 st)
          (at_set s.views id j (joined v w) u x.1))
          (at_set (set s.views id (joined v w)) other j (fresh 0) u at);
    },
  )
