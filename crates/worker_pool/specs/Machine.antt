-- The pool as a machine: the claimed blocks and their marks. It has no workers, so every schedule
-- of any number of workers is a list of its events.
use Rattle.std.specs.Prelude.{◌≡◌, ℕ, ◌<◌, ◌⊎◌, min, Bool, true, false, cond, ltb, List, [], ◌∷◌}
use Rattle.std.specs.Prelude.{◌++◌, length, slice_set}
use mathlib.Core.Option.{some}
use lib.ListN.{get_elem?}
use Rattle.worker_pool.specs.declared.pool_view.Mark.{Mark}
use Rattle.worker_pool.specs.declared.pool_view.Mark.TheVariants.{Open, Finished, Reported, Skipped}
use Rattle.worker_pool.specs.Views.{no_block}

-- the mark of each claimed block, and the least block that was reported
pub record Machine : Type 0 where
  pub marks : List Mark
  pub least : ℕ

abbrev pub machine : List Mark → ℕ → Machine
machine marks least = record { marks = marks; least = least }

-- the block that is claimed next, which is the number of claimed blocks
abbrev pub next : Machine → ℕ
next m = length m.marks

abbrev pub start : Machine
start = machine [] no_block

pub data Event : Type 0 where
  claim : Event
  finish : ℕ → Event
  look : ℕ → Event
  report : ℕ → Event

-- the block b is claimed and has the mark k
abbrev pub Has : Machine → ℕ → Mark → Type 0
Has m b k = get_elem? m.marks b ≡ some k

abbrev pub after : Event → Machine → Machine
after claim m = machine (m.marks ++ Open ∷ []) m.least
after (finish b) m = machine (slice_set m.marks b Finished) m.least
after (look b) m = cond (ltb m.least b) (machine (slice_set m.marks b Skipped) m.least) m
after (report b) m = machine (slice_set m.marks b Reported) (min m.least b)

-- given the number of blocks, and for each whether it is a refusal
module _ (blocks : ℕ) (refuses : ℕ → Bool) where
  abbrev pub Allowed : Event → Machine → Type 0
  Allowed claim m = next m < blocks
  Allowed (finish b) m = Has m b Open × (refuses b ≡ false)
  Allowed (look b) m = Has m b Open
  Allowed (report b) m = Has m b Open × (refuses b ≡ true)

  -- the events are allowed in order, and lead from the first state to the second
  abbrev pub Leads : List Event → Machine → Machine → Type 0
  Leads [] m n = m ≡ n
  Leads (e ∷ es) m n = Allowed e m × Leads es (after e m) n

-- no block is Open, and either one was reported or all are claimed
abbrev pub HasEnded : ℕ → Machine → Type 0
HasEnded blocks m = ((b : ℕ) → ¬ Has m b Open) × (((b : ℕ) × Has m b Reported) ⊎ (next m ≡ blocks))
