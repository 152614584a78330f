-- The results of blocks.
use Rattle.std.specs.Prelude.{◌≡◌, ℕ, ◌<◌, List, Result, Ok, Err}
use Rattle.std.specs.List.{All}
use Rattle.det_values.specs.declared.frames.DrawnElement.{DrawnElement}
use Rattle.job.specs.Pass.{PassResult, Refusal}
use Rattle.pass_in_blocks.specs.declared.block_answer.BlockDone.{BlockDone}
use Rattle.pass_in_blocks.specs.declared.block_answer.BlockAnswer.{BlockAnswer}
use Rattle.pass_in_blocks.specs.declared.block_answer.BlockAnswer.TheVariants.{Done, Refused}
use Rattle.pass_in_blocks.specs.declared.block_answer.BlockResult.{BlockResult}

module _ {E P : Type 0} where
  abbrev pub left_by : BlockDone E P → PassResult E P
  left_by done = record {
    elements = done.elements.items;
    draws = done.draws.items;
    part = done.part;
  }

  abbrev pub answer_of : BlockAnswer E P → Result (PassResult E P) Refusal
  answer_of (Done done) = Ok (left_by done)
  answer_of (Refused element code) = Err (record { element = element; code = code })

  -- the block shows these elements; a refusal shows none
  abbrev pub Shows : List DrawnElement → BlockAnswer E P → Type 0
  Shows es (Done done) = done.shown ≡ es
  Shows es (Refused element code) = Unit {0}

  -- each result shows the elements that its block shows
  abbrev pub AreShown : (ℕ → List DrawnElement) → List (BlockResult E P) → Type 0
  AreShown shown rs = All (λ r. Shows (shown r.block) r.answer) rs

  -- given the result of each block, and their number
  module _ (block : ℕ → Result (PassResult E P) Refusal) (blocks : ℕ) where
    -- a result equals that of its block
    abbrev pub IsRight : BlockResult E P → Type 0
    IsRight r = (r.block < blocks) × (answer_of r.answer ≡ block r.block)

    abbrev pub AreRight : List (BlockResult E P) → Type 0
    AreRight rs = All IsRight rs
