-- The result that an ended machine gathers from the results of the blocks.
use Rattle.std.specs.Prelude.{ℕ, zero, suc, Bool, cond, ltb, [], Result, Ok, Err, is_err}
use Rattle.job.specs.Pass.{PassResult, Refusal}
use Rattle.pass_in_blocks.specs.Steps.{beside}
use Rattle.worker_pool.specs.Machine.{Machine}

module _ {E P : Type 0} where
  -- whether a block is a refusal, given the result of each block
  abbrev pub refuses : (ℕ → Result (PassResult E P) Refusal) → ℕ → Bool
  refuses block b = is_err (block b)

  module _ (join : P → P → P) (unit : P) where
    -- no element
    abbrev pub empty : PassResult E P
    empty = record { elements = []; draws = []; part = unit }

    abbrev pub left_by : Result (PassResult E P) Refusal → PassResult E P
    left_by (Ok done) = done
    left_by (Err refusal) = empty

    module _ (block : ℕ → Result (PassResult E P) Refusal) where
      -- the blocks below n, in the order of their numbers
      abbrev pub together : ℕ → PassResult E P
      together zero = empty
      together (suc n) = beside join (together n) (left_by (block n))

      -- the refusal of the least block that was reported, or all blocks together
      abbrev pub gather : ℕ → Machine → Result (PassResult E P) Refusal
      gather blocks m = cond (ltb m.least blocks) (block m.least) (Ok (together blocks))
