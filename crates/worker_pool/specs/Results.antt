-- The work that a worker has done: the marks of its entries, and its results.
use Rattle.std.specs.Prelude.{◌≡◌, ℕ, ◌+◌, ◌≤◌, ◌⊎◌, true, false, List, [], ◌∷◌, ◌++◌, map, Result}
use Rattle.job.specs.Pass.{PassResult, Refusal}
use Rattle.worker_pool.specs.declared.pool_view.Mark.{Mark}
use Rattle.worker_pool.specs.declared.pool_view.Mark.TheVariants.{Open, Finished, Reported, Skipped}
use Rattle.worker_pool.specs.declared.pool_view.PoolEntry.{PoolEntry}
use Rattle.worker_pool.specs.declared.pool_view.PoolView.{PoolView}
use Rattle.pass_in_blocks.specs.declared.block_answer.BlockResult.{BlockResult}
use Rattle.pass_in_blocks.specs.BlockAnswers.{answer_of}
use Rattle.worker_pool.specs.Views.{Stands, Below}
use Rattle.worker_pool.specs.Gather.{refuses}

-- each block is above those before it, and the first is n or more
abbrev pub Rising : ℕ → List PoolEntry → Type 0
Rising n [] = Unit {0}
Rising n (e ∷ es) = (n ≤ e.block) × Rising (e.block + 1) es

-- a block that ends the work: one that refused, or one above a refusal
abbrev pub Stops : List PoolEntry → Type 0
Stops es = (b : ℕ) × (Stands b Reported es ⊎ Stands b Skipped es)

module _ {E P : Type 0} where
  abbrev pub shown : BlockResult E P → ℕ × Result (PassResult E P) Refusal
  shown r = (r.block, answer_of r.answer)

-- given the result of each block
module _ {E P : Type 0} (block : ℕ → Result (PassResult E P) Refusal) where
  -- no block is Open, a Finished block isn't a refusal, and a Reported block is one
  abbrev pub IsHonest : Mark → ℕ → Type 0
  IsHonest Open b = ⊥
  IsHonest Finished b = refuses block b ≡ false
  IsHonest Reported b = refuses block b ≡ true
  IsHonest Skipped b = Unit {0}

  abbrev pub Honest : List PoolEntry → Type 0
  Honest [] = Unit {0}
  Honest (e ∷ es) = IsHonest e.mark e.block × Honest es

  -- a result for an entry that is Finished or Reported, and for no other
  abbrev pub result_at : Mark → ℕ → List (ℕ × Result (PassResult E P) Refusal)
  result_at Open b = []
  result_at Finished b = (b, block b) ∷ []
  result_at Reported b = (b, block b) ∷ []
  result_at Skipped b = []

  abbrev pub results_of : List PoolEntry → List (ℕ × Result (PassResult E P) Refusal)
  results_of [] = []
  results_of (e ∷ es) = result_at e.mark e.block ++ results_of es

  -- a view without an Open entry, whose marks are true, in rising order of the blocks
  pub record Tidy (v : PoolView) : Type 0 where
    pub honest : Honest v.entries
    pub below : Below v.seen v.entries
    pub rising : Rising 0 v.entries

  -- the same, with exactly the results of its entries
  pub record Works (v : PoolView) (rs : List (BlockResult E P)) : Type 0 where
    pub tidy : Tidy v
    pub results : map shown rs ≡ results_of v.entries

  -- The share of a worker with this view: exactly the results of the blocks that it claimed. It has
  -- tried all blocks, or knows of one that refuses.
  pub record IsShare (blocks : ℕ) (v : PoolView) (rs : List (BlockResult E P)) : Type 0 where
    pub results : map shown rs ≡ results_of v.entries
    pub tried : (blocks ≤ v.seen) ⊎ Stops v.entries
