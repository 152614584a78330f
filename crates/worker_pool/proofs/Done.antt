-- A worker's last block gets its mark.
use Rattle.std.proofs.Common.{◌≡◌, ℕ, ◌+◌, ◌<◌, ◌≤◌, List, [], ◌∷◌, ◌++◌, length, map, Result, is_err, sym, refl, ap, ◌∙◌, subst, inl, inr}
use Rattle.std.proofs.Common.{Bool, true, false, arith, append_assoc, length-append}
use mathlib.Core.List.{map-append}
use Rattle.worker_pool.specs.declared.pool_view.Mark.{Mark}
use Rattle.worker_pool.specs.declared.pool_view.Mark.TheVariants.{Open, Finished, Reported, Skipped}
use Rattle.worker_pool.specs.declared.pool_view.PoolEntry.{PoolEntry}
use Rattle.worker_pool.specs.declared.pool_view.PoolView.{PoolView}
use Rattle.job.specs.Pass.{PassResult, Refusal}
use Rattle.pass_in_blocks.specs.declared.block_answer.BlockResult.{BlockResult}
use Rattle.pass_in_blocks.specs.declared.block_answer.BlockAnswer.{BlockAnswer}
use Rattle.pass_in_blocks.specs.BlockAnswers.{answer_of}
use Rattle.worker_pool.specs.Views.{entry, view, Stands, marked, Below, taken, passed, with_mark, mark_after}
use Rattle.worker_pool.specs.Gather.{refuses}
use Rattle.worker_pool.specs.Results.{Rising, shown, IsHonest, Honest, result_at, results_of, Tidy, Works}
use Rattle.worker_pool.proofs.Entries.{below_append, below_more}
use Rattle.worker_pool.proofs.Marks.{here, there}

three : {A : Type 0} (es fs gs : List A) → (es ++ fs) ++ gs ≡ es ++ (fs ++ gs)
three es fs gs = simp append_assoc

nil : {A : Type 0} (es : List A) → es ++ [] ≡ es
nil [] = refl
nil (e ∷ es) = ap (λ (r : List _). e ∷ r) (nil es)

pub stands_last : (b : ℕ) (k : Mark) (es : List PoolEntry) → Stands b k (es ++ entry b k ∷ [])
stands_last b k [] = inl refl
stands_last b k (e ∷ es) = inr (stands_last b k es)

pub marked_last : (n : ℕ) (k : Mark) (es : List PoolEntry) → Below n es → marked n k (es ++ entry n Open ∷ []) ≡ es ++ entry n k ∷ []
marked_last n k [] h = here n k (entry n Open) [] refl
marked_last n k (e ∷ es) h = let lt : e.block < n = h.0 in there n k e (es ++ entry n Open ∷ []) (λ is. absurd (omega arith))
    ∙ ap (λ (r : List PoolEntry). e ∷ r) (marked_last n k es h.1)

rising_more : (lo n : ℕ) (k : Mark) (es : List PoolEntry) → lo ≤ n → Below n es → Rising lo es → Rising lo (es ++ entry n k ∷ [])
rising_more lo n k [] le h r = (le, tt)
rising_more lo n k (e ∷ es) le h r = let lt : e.block < n = h.0 in (r.0, rising_more (e.block + 1) n k es (omega arith) h.1 r.1)

-- the view of a seat that took a block and marked it
pub marked_view : (v w u : PoolView) (k : Mark) (b : ℕ) → Below v.seen v.entries → w ≡ taken v → b ≡ v.seen → u ≡ with_mark b k w
    → u ≡ view (v.entries ++ entry v.seen k ∷ []) (v.seen + 1) v.shares
marked_view v w u k b below took is got = got ∙ ap (with_mark b k) took ∙ ap (λ (c : ℕ). with_mark c k (taken v)) is
    ∙ ap (λ (es : List PoolEntry). view es (v.seen + 1) v.shares) (marked_last v.seen k v.entries below)

module _ {E P : Type 0} (block : ℕ → Result (PassResult E P) Refusal) where
  pub honest_append : (es fs : List PoolEntry) → Honest block es → Honest block fs → Honest block (es ++ fs)
  honest_append [] fs h k = k
  honest_append (e ∷ es) fs h k = (h.0, honest_append es fs h.1 k)

  pub results_append : (es fs : List PoolEntry) → results_of block (es ++ fs) ≡ results_of block es ++ results_of block fs
  results_append [] fs = refl
  results_append (e ∷ es) fs = ap (λ (r : List (ℕ × Result (PassResult E P) Refusal)). result_at block e.mark e.block ++ r)
      (results_append es fs) ∙ sym (three (result_at block e.mark e.block) (results_of block es) (results_of block fs))

  pub tidy_more : (v w : PoolView) (k : Mark) → Tidy block v → IsHonest block k v.seen
      → w ≡ view (v.entries ++ entry v.seen k ∷ []) (v.seen + 1) v.shares → Tidy block w
  tidy_more v w k h honest is = subst (Tidy block) (sym is) (record {
    honest = honest_append v.entries (entry v.seen k ∷ []) h.honest (honest, tt);
    below = below_append (v.seen + 1) v.entries (entry v.seen k ∷ []) (below_more v.seen (v.seen + 1) v.entries (omega arith) h.below)
        (omega arith, tt);
    rising = rising_more 0 v.seen k v.entries (omega arith) h.below h.rising;
  })

  works_more : (v w : PoolView) (k : Mark) (rs qs : List (BlockResult E P)) → Works block v rs → IsHonest block k v.seen
      → w ≡ view (v.entries ++ entry v.seen k ∷ []) (v.seen + 1) v.shares → map shown qs ≡ result_at block k v.seen
      → Works block w (rs ++ qs)
  works_more v w k rs qs h honest is results = record {
    tidy = tidy_more v w k h.tidy honest is;
    results = map-append shown rs qs ∙ (λ i. h.results i ++ results i) ∙ ap
        (λ (r : List (ℕ × Result (PassResult E P) Refusal)). results_of block v.entries ++ r) (sym (nil (result_at block k v.seen)))
        ∙ sym (results_append v.entries (entry v.seen k ∷ [])) ∙ ap (λ (u : PoolView). results_of block u.entries) (sym is);
  }

  pub works_passed : (v w : PoolView) (rs : List (BlockResult E P)) → Works block v rs → w ≡ passed v → Works block w rs
  works_passed v w rs h is = subst (λ (u : PoolView). Works block u rs) (sym is) (record {
    tidy = record {
      honest = h.tidy.honest;
      below = below_more v.seen (v.seen + 1) v.entries (omega arith) h.tidy.below;
      rising = h.tidy.rising;
    };
    results = h.results;
  })

  pub works_skipped : (v cl u : PoolView) (b : ℕ) (rs : List (BlockResult E P)) → Works block v rs → b ≡ v.seen → cl ≡ taken v
      → u ≡ with_mark b Skipped cl → Works block u rs
  works_skipped v cl u b rs h is took got = subst (λ (qs : List (BlockResult E P)). Works block u qs) (nil rs)
      (works_more v u Skipped rs [] h tt (marked_view v cl u Skipped b h.tidy.below took is got) refl)

  honest_after : (refused : Bool) (b : ℕ) → refuses block b ≡ refused → IsHonest block (mark_after refused) b
  honest_after true b is = is
  honest_after false b is = is

  result_after : (refused : Bool) (b : ℕ) → result_at block (mark_after refused) b ≡ (b, block b) ∷ []
  result_after true b = refl
  result_after false b = refl

  -- the block that was claimed last has a result and gets its mark
  pub works_marked : (refused : Bool) (v cl lk u : PoolView) (b : ℕ) (rs qs : List (BlockResult E P)) (a : BlockAnswer E P)
      → Works block v rs → b ≡ v.seen → cl ≡ taken v → lk ≡ cl → u ≡ with_mark b (mark_after refused) lk
      → answer_of a ≡ block b → qs ≡ rs ++ record { block = b; answer = a } ∷ [] → refused ≡ is_err (answer_of a) → Works block u qs
  works_marked refused v cl lk u b rs qs a h is took same got right_answer pushed told =
      let k = mark_after refused in
      let now : answer_of a ≡ block v.seen = right_answer ∙ ap block is in
      subst (λ (ps : List (BlockResult E P)). Works block u ps) (sym pushed)
      (works_more v u k rs (record { block = b; answer = a } ∷ []) h (honest_after refused v.seen (sym (told ∙ ap is_err now)))
      (marked_view v lk u k b h.tidy.below (same ∙ took) is got) ((λ i. (is i, now i) ∷ []) ∙ sym (result_after refused v.seen)))

pub taken_stands : (v w u : PoolView) (b : ℕ) → b ≡ v.seen → w ≡ taken v → u ≡ w → Stands b Open u.entries
taken_stands v w u b is took same = subst (λ (x : PoolView). Stands b Open x.entries) (sym (same ∙ took))
    (subst (λ (x : ℕ). Stands x Open (v.entries ++ entry v.seen Open ∷ [])) (sym is) (stands_last v.seen Open v.entries))

-- the block that was claimed last has its mark
pub mark_stands : (k : Mark) (v cl lk u : PoolView) (b : ℕ) → Below v.seen v.entries → b ≡ v.seen → cl ≡ taken v → lk ≡ cl
    → u ≡ with_mark b k lk → Stands v.seen k u.entries
mark_stands k v cl lk u b below is took same got = subst (λ (x : PoolView). Stands v.seen k x.entries)
    (sym (marked_view v lk u k b below (same ∙ took) is got)) (stands_last v.seen k v.entries)

-- a worker has no more results than blocks that it has seen
rising_few : (lo n : ℕ) (es : List PoolEntry) → Rising lo es → Below n es → lo ≤ n → lo + length es ≤ n
rising_few lo n [] r b le = omega arith
rising_few lo n (e ∷ es) r b le = let x : e.block < n = b.0 in let y : lo ≤ e.block = r.0 in
    let ih = rising_few (e.block + 1) n es r.1 b.1 (omega arith) in omega arith

module _ {E P : Type 0} (block : ℕ → Result (PassResult E P) Refusal) where
  at_most_one : (k : Mark) (b : ℕ) → length (result_at block k b) ≤ 1
  at_most_one Open b = omega arith
  at_most_one Finished b = omega arith
  at_most_one Reported b = omega arith
  at_most_one Skipped b = omega arith

  results_few : (es : List PoolEntry) → length (results_of block es) ≤ length es
  results_few [] = omega arith
  results_few (e ∷ es) = let ih = results_few es in let one = at_most_one e.mark e.block in
      omega (arith, length-append (result_at block e.mark e.block) (results_of block es))

  length_shown : (rs : List (BlockResult E P)) → length (map shown rs) ≡ length rs
  length_shown [] = refl
  length_shown (r ∷ rs) = let ih = length_shown rs in omega arith

  pub room : (v : PoolView) (rs : List (BlockResult E P)) → Works block v rs → length rs ≤ v.seen
  room v rs h = let a = results_few v.entries in let b = rising_few 0 v.seen v.entries h.tidy.rising h.tidy.below (omega arith) in
      let c = ap length h.results in omega (arith, a, b, c, length_shown rs)
