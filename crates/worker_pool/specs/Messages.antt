-- The messages to a kept thread and back.
use Rattle.std.specs.Prelude.{◌≡◌, ℕ, List, [], ◌∷◌, ◌++◌, ◌⊎◌, Result, IfOk}
use Rattle.std.specs.List.{All}
use Rattle.std.specs.Global.{Global}
use Rattle.std.specs.declared.vec.Vec.{Vec}
use Rattle.job.specs.Meaning.{Meaning}
use Rattle.job.specs.Passes.{IsReady, block_in, blocks_in}
use Rattle.pass_in_blocks.specs.BlockAnswers.{IsRight, Shows}
use Rattle.pass_in_blocks.specs.ShownElements.{shown_in}
use Rattle.pass_in_blocks.specs.declared.block_answer.BlockResult.{BlockResult}
use Rattle.std.specs.declared.alloc.AllocError.{AllocError}
use Rattle.worker_pool.specs.declared.messages.Reply.{Reply}
use Rattle.worker_pool.specs.declared.messages.Work.{Work}
use Rattle.worker_pool.specs.declared.seat.PassSeat.{PassSeat}
use Rattle.worker_pool.specs.declared.task.Task.{Task}
use Rattle.worker_pool.specs.Handles.{view_of, block_count, IsAt}
use Rattle.worker_pool.specs.Results.{IsShare}
use Rattle.worker_pool.specs.Views.{IsNew}

module _ {S G E L P : Type 0} where
  -- a pass that is ready, with a table for its blocks
  pub record IsTask (m : Meaning S G E L P) (Covers : S → P → ℕ → Type 0) (Own : S → E → Type 0)
      (Fit : S → L → Type 0) (t : Task S G E L P) : Type 0 where
    pub ready : IsReady m Covers Own Fit t.pass
    pub sized : block_count t.table ≡ blocks_in t.pass

  -- a result equals that of its block of the pass, and shows the elements that the block shows
  abbrev pub IsOf : Meaning S G E L P → Task S G E L P → BlockResult E P → Type 0
  IsOf m t r = IsRight (block_in m t.pass) (blocks_in t.pass) r
      × Shows (shown_in m t.pass r.block) r.answer

  abbrev pub AreOf : Meaning S G E L P → Task S G E L P → List (BlockResult E P) → Type 0
  AreOf m t results = All (IsOf m t) results

  -- These are the results of the blocks that the worker with this seat claimed. It has tried all
  -- blocks of the pass, or knows of a refusal.
  abbrev pub IsShareOf : Meaning S G E L P → Task S G E L P → PassSeat
      → List (BlockResult E P) → Type 0
  IsShareOf m t seat results = IsShare (block_in m t.pass) (block_count t.table)
      (view_of seat) results

  -- a seat at the task's table, with the results of the blocks that were claimed with it
  pub record HasFound (m : Meaning S G E L P) (t : Task S G E L P) (seat : PassSeat)
      (results : List (BlockResult E P)) : Type 0 where
    pub here : IsAt seat t.table
    pub right : AreOf m t results
    pub share : IsShareOf m t seat results

  -- the ticket is for this task, and the seat is a new one at its table
  pub record IsWork (m : Meaning S G E L P) (Covers : S → P → ℕ → Type 0) (Own : S → E → Type 0)
      (Fit : S → L → Type 0) (announced : List (Task S G E L P)) (t : Task S G E L P)
      (seat : PassSeat) : Type 0 where
    pub same : announced ≡ t ∷ []
    pub task : IsTask m Covers Own Fit t
    pub here : IsAt seat t.table
    pub new : IsNew (view_of seat)

  -- If the ticket is for one task, the seat is at its table. Unless memory ran out, the worker's
  -- share of the pass is also complete and right.
  abbrev pub IsReply : Meaning S G E L P → List (Task S G E L P) → PassSeat
      → Result (Vec (BlockResult E P) Global) AllocError → Type 0
  IsReply m announced seat results =
      (t : Task S G E L P) → announced ≡ t ∷ []
      → IsAt seat t.table
      × IfOk results (λ given. AreOf m t given.items × IsShareOf m t seat given.items)

-- One more piece of work was received, and its reply was sent, unless there was no place for it.
-- `had` and `sent` are the lists before, `has` and `sends` those after, and `free` is the number of
-- places known to be free.
abbrev pub IsServed : {S B G E L P : Type 0} → List (Work S B G E L P) → List (Work S B G E L P)
    → List (Reply S B G E L P) → List (Reply S B G E L P) → ℕ → Type 0
IsServed {S} {B} {G} {E} {L} {P} had has sent sends free = (work : Work S B G E L P)
    × (reply : Reply S B G E L P) × (has ≡ had ++ work ∷ []) × (reply.ticket ≡ work.ticket)
    × ((sends ≡ sent ++ reply ∷ []) ⊎ ((sends ≡ sent) × (free ≡ 0)))
