-- A worker's share of a pass, and two of them together.
use Rattle.std.proofs.Common.{◌≡◌, ℕ, ◌≤◌, ◌⊎◌, List, [], ◌∷◌, ◌++◌, map, Result, Ok, Err, IfOk, sym, ap, ◌∙◌, subst, inl, inr, ⊎_elim}
use Rattle.std.proofs.Common.{arith}
use mathlib.Core.List.{map-append}
use Rattle.std.specs.Global.{Global}
use Rattle.std.specs.declared.vec.Vec.{Vec}
use Rattle.std.specs.declared.alloc.AllocError.{AllocError}
use Rattle.job.specs.Meaning.{Meaning}
use Rattle.job.specs.Pass.{PassResult, Refusal}
use Rattle.pass_in_blocks.specs.declared.block_answer.BlockResult.{BlockResult}
use Rattle.worker_pool.specs.declared.seat.PassSeat.{PassSeat}
use Rattle.worker_pool.specs.declared.task.Task.{Task}
use Rattle.worker_pool.specs.declared.pool_view.Mark.{Mark}
use Rattle.worker_pool.specs.declared.pool_view.PoolEntry.{PoolEntry}
use Rattle.worker_pool.specs.declared.pool_view.PoolView.{PoolView}
use Rattle.worker_pool.specs.Handles.{IsAt}
use Rattle.worker_pool.specs.Views.{entry, Stands, joined}
use Rattle.worker_pool.specs.Messages.{AreOf, IsShareOf, IsReply}
use Rattle.worker_pool.specs.Results.{Stops, shown, Works, IsShare}
use Rattle.worker_pool.proofs.Done.{results_append}

stands_before : (b : ℕ) (k : Mark) (es fs : List PoolEntry) → Stands b k es → Stands b k (es ++ fs)
stands_before b k [] fs h = absurd h
stands_before b k (e ∷ es) fs h = ⊎_elim (λ (x : e ≡ entry b k). inl x) (λ (x : Stands b k es). inr (stands_before b k es fs x)) h

module _ {E P : Type 0} (block : ℕ → Result (PassResult E P) Refusal) (blocks : ℕ) where
  tried_joined : (v w : PoolView) → (blocks ≤ v.seen) ⊎ Stops v.entries → (blocks ≤ (joined v w).seen) ⊎ Stops (joined v w).entries
  tried_joined v w tried = ⊎_elim (λ (x : blocks ≤ v.seen). inl (omega arith)) (λ (x : Stops v.entries).
      inr (
        x.0,
        ⊎_elim (λ y. inl (stands_before x.0 _ v.entries w.entries y))
            (λ y. inr (stands_before x.0 _ v.entries w.entries y)) x.1,
      )) tried

  pub share_joined : (v w u : PoolView) (rs qs ps : List (BlockResult E P)) → IsShare block blocks v rs → IsShare block blocks w qs
      → u ≡ joined v w → ps ≡ rs ++ qs → IsShare block blocks u ps
  share_joined v w u rs qs ps h k is all = subst (λ (x : PoolView). IsShare block blocks x ps) (sym is) (record {
    results = ap (map shown) all ∙ map-append shown rs qs ∙ (λ i. h.results i ++ k.results i)
        ∙ sym (results_append block v.entries w.entries);
    tried = tried_joined v w h.tried;
  })

  -- a worker's work is a share if each block was tried, or a refusal is known
  pub share_of : (v : PoolView) (rs qs : List (BlockResult E P)) → Works block v rs → (v.seen ≡ blocks) ⊎ Stops v.entries → qs ≡ rs
      → IsShare block blocks v qs
  share_of v rs qs works tried is = record {
    results = ap (map shown) is ∙ works.results;
    tried = ⊎_elim (λ (x : v.seen ≡ blocks). inl (omega arith)) (λ (x : Stops v.entries). inr x) tried;
  }

-- the share in a reply without "out of memory", for the task of its ticket
pub brought : {S G E L P : Type 0} (m : Meaning S G E L P) (announced : List (Task S G E L P)) (t : Task S G E L P) (seat : PassSeat)
    (results : Result (Vec (BlockResult E P) Global) AllocError) (given : Vec (BlockResult E P) Global) → IsReply m announced seat results
    → announced ≡ t ∷ [] → results ≡ Ok given → AreOf m t given.items × IsShareOf m t seat given.items
brought m announced t seat results given reply is ok = subst
    (λ s. IfOk s (λ x. AreOf m t x.items × IsShareOf m t seat x.items)) ok (reply t is).1

abbrev first : {A : Type 0} → A → List A → A
first a [] = a
first a (x ∷ xs) = x

-- a worker's share of the task of its ticket is a reply
pub replied : {S G E L P : Type 0} (m : Meaning S G E L P) (announced : List (Task S G E L P)) (d : Task S G E L P) (seat : PassSeat)
    (results : Result (Vec (BlockResult E P) Global) AllocError) → announced ≡ d ∷ [] → IsAt seat d.table
    → IfOk results (λ x. AreOf m d x.items) → IfOk results (λ x. IsShareOf m d seat x.items) → IsReply m announced seat results
replied m announced d seat (Ok x) is here right whole t for = subst
    (λ u. IsAt seat u.table × (AreOf m u x.items × IsShareOf m u seat x.items))
    (ap (first d) (sym is ∙ for)) (here, (right, whole))
replied m announced d seat (Err e) is here right whole t for = (
  subst (λ u. IsAt seat u.table) (ap (first d) (sym is ∙ for)) here,
  tt,
)
