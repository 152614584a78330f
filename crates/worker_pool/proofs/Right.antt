-- The results of a worker's blocks are right.
use Rattle.std.proofs.Common.{◌≡◌, ℕ, ◌<◌, ◌≤◌, List, [], ◌∷◌, map, Result, refl, arith}
use Rattle.std.specs.List.{All}
use Rattle.std.proofs.lemmas.List.Elements.{All-nil, All-cons, All-head, All-tail, All-append, All-same}
use Rattle.job.specs.Pass.{PassResult, Refusal}
use Rattle.pass_in_blocks.specs.declared.block_answer.BlockResult.{BlockResult}
use Rattle.pass_in_blocks.specs.BlockAnswers.{IsRight, AreRight}
use Rattle.worker_pool.specs.declared.pool_view.Mark.{Mark}
use Rattle.worker_pool.specs.declared.pool_view.Mark.TheVariants.{Open, Finished, Reported, Skipped}
use Rattle.worker_pool.specs.declared.pool_view.PoolEntry.{PoolEntry}
use Rattle.worker_pool.specs.declared.pool_view.PoolView.{PoolView}
use Rattle.worker_pool.specs.Views.{Below}
use Rattle.worker_pool.specs.Results.{shown, result_at, results_of, Works}

module _ {E P : Type 0} (block : ℕ → Result (PassResult E P) Refusal) (blocks : ℕ) where
  abbrev IsOf : ℕ × Result (PassResult E P) Refusal → Type 0
  IsOf q = (q.0 < blocks) × (q.1 ≡ block q.0)

  at_right : (k : Mark) (b : ℕ) → b < blocks → All IsOf (result_at block k b)
  at_right Open b lt = All-nil IsOf
  at_right Finished b lt = All-cons IsOf (b, block b) [] (lt, refl) (All-nil IsOf)
  at_right Reported b lt = All-cons IsOf (b, block b) [] (lt, refl) (All-nil IsOf)
  at_right Skipped b lt = All-nil IsOf

  entries_right : (n : ℕ) (es : List PoolEntry) → n ≤ blocks → Below n es → All IsOf (results_of block es)
  entries_right n [] le h = All-nil IsOf
  entries_right n (e ∷ es) le h = let lt : e.block < n = h.0 in
      All-append IsOf (result_at block e.mark e.block) (results_of block es) (at_right e.mark e.block (omega arith))
      (entries_right n es le h.1)

  shown_right : (rs : List (BlockResult E P)) → All IsOf (map shown rs) → AreRight block blocks rs
  shown_right [] h = All-nil (IsRight block blocks)
  shown_right (r ∷ rs) h = All-cons (IsRight block blocks) r rs
      (All-head IsOf (shown r) (map shown rs) h)
      (shown_right rs (All-tail IsOf (shown r) (map shown rs) h))

  -- a worker that has seen no more than the blocks of the pass
  pub right_of : (v : PoolView) (rs : List (BlockResult E P)) (n : ℕ) → n ≡ blocks → v.seen ≤ n → Works block v rs
      → AreRight block blocks rs
  right_of v rs n sized seen works = shown_right rs
      (All-same IsOf (map shown rs) (results_of block v.entries) works.results
      (entries_right v.seen v.entries (omega arith) works.tidy.below))
