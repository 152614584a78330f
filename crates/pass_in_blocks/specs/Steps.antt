-- The steps of a block, element by element, and of a pass, block by block.
use Rattle.std.specs.Prelude.{◌≡◌, ℕ, ◌+◌, ◌%◌, ◌≤◌, ◌<◌, List, ◌++◌, length, take, slice_index_or}
use Rattle.std.specs.Prelude.{Option, None, Some, Result, Ok, Err}
use Rattle.det_client.specs.declared.element_random.PassKeys.{PassKeys}
use Rattle.det_client.specs.element_random.RandomStreams.{AreKeysOf}
use Rattle.det_values.specs.declared.frames.DrawnElement.{DrawnElement}
use Rattle.job.specs.Meaning.{Meaning}
use Rattle.job.specs.Laws.{CoverTogether}
use Rattle.job.specs.Passes.{PassValue}
use Rattle.job.specs.Pass.{PassResult, Refusal, nothing, taken}
use Rattle.job.specs.declared.pass.PoolFault.{PoolFault}
use Rattle.job.specs.declared.pass.PoolFault.TheVariants.{Refused, OutOfMemory}
use Rattle.pass_in_blocks.specs.declared.block_answer.BlockAnswer.{BlockAnswer}
use Rattle.pass_in_blocks.specs.BlockAnswers.{answer_of, Shows}

module _ {E P : Type 0} where
  -- elements, draws and a part as one value
  abbrev pub pass_result : List E → List ℕ → P → PassResult E P
  pass_result es ds part = record { elements = es; draws = ds; part = part }

  -- the value now is the defined one; only "out of memory" may be returned without a cause here
  abbrev pub IsAdded : {T : Type 0} → Result T PoolFault → PassResult E P
      → Result (PassResult E P) Refusal → Type 0
  IsAdded (Ok done) now meant = meant ≡ Ok now
  IsAdded (Err (Refused element code)) now meant =
      meant ≡ Err (record { element = element; code = code })
  IsAdded (Err OutOfMemory) now meant = Unit {0}

  -- the results of two neighbours, joined
  abbrev pub beside : (P → P → P) → PassResult E P → PassResult E P → PassResult E P
  beside join done next = record {
    elements = done.elements ++ next.elements;
    draws = done.draws ++ next.draws;
    part = join done.part next.part;
  }

  -- given the result of each block and the elements that it shows
  module _ (block : ℕ → Result (PassResult E P) Refusal) (shown : ℕ → List DrawnElement) where
    -- the place of block b is empty, or has its result with the elements that it shows
    abbrev pub IsPlace : ℕ → Option (BlockAnswer E P) → Type 0
    IsPlace b (Some answer) = (answer_of answer ≡ block b) × Shows (shown b) answer
    IsPlace b None = Unit {0}

    abbrev pub ArePlaces : List (Option (BlockAnswer E P)) → Type 0
    ArePlaces places =
        (b : ℕ) (d : Option (BlockAnswer E P)) → b < length places
        → IsPlace b (slice_index_or places b d)

module _ {S E L P : Type 0} where
  abbrev pub HasKeys : PassValue S E L P → PassKeys → Type 0
  HasKeys t keys = AreKeysOf keys t.seed t.cycle t.number

  -- the part comes from few enough elements to join another
  abbrev pub HasRoom : (S → P → ℕ → Type 0) → PassValue S E L P → P → Type 0
  HasRoom Covers t part = (n : ℕ) × (n < 65536) × Covers t.job part n

module _ {S G E L P : Type 0} where
  -- the result of no element
  abbrev pub none_in : Meaning S G E L P → PassValue S E L P → PassResult E P
  none_in m t =
      nothing m t.job t.plan t.carry t.seed t.cycle t.number

  -- the elements from index i on, added to a result
  abbrev pub added_to : Meaning S G E L P → PassValue S E L P → ℕ → List E → PassResult E P
      → Result (PassResult E P) Refusal
  added_to m t =
      taken m t.job t.plan t.carry t.seed t.cycle t.number

  -- the result of the first n elements
  abbrev pub first_in : Meaning S G E L P → PassValue S E L P → ℕ → Result (PassResult E P) Refusal
  first_in m t n = added_to m t 0 (take n t.elements) (none_in m t)

-- a block can be added to those before it
pub record CanJoin {S E P : Type 0} (Covers : S → P → ℕ → Type 0) (j : S)
    (done next : PassResult E P) : Type 0 where
  pub level : length done.draws ≡ length done.elements
  pub some : 0 < length next.elements
  pub together : length done.elements % 256 + length next.elements ≤ 256
  pub next_level : length next.draws ≡ length next.elements
  pub room : length done.elements + length next.elements ≤ 65536
  pub covers : CoverTogether (Covers j) done.part next.part
