-- One pass over the elements of a container in order: the result that RunWorkerPool of the AUTOSAR
-- Adaptive Platform must have, whatever its workers do. It doesn't mention workers.
use Rattle.std.specs.Prelude.{ℕ, ◌+◌, ◌*◌, List, [], ◌∷◌, ◌++◌, length, take, drop, Result, Ok, Err}
use Rattle.std.specs.Prelude.{nat_le, if◌then◌else◌}
use Rattle.det_client.specs.element_random.RandomStreams.{key}
use Rattle.job.specs.Meaning.{Meaning, ElementResult}

-- the new elements, the draws of each, and the joined part
pub record PassResult (E P : Type 0) : Type 0 where
  pub elements : List E
  pub draws : List ℕ
  pub part : P

-- The number of elements of a block, given the number of all elements; the last block may be
-- shorter. Up to 4,096 elements it is 64, so that all workers get some. Beyond it is 256, so that a
-- claim costs little beside a block.
unfoldable pub block_size : ℕ → ℕ
block_size n = if nat_le n 4096 then 64 else 256

-- from a list with a value for each of n elements: the values of block b
abbrev pub in_block : {X : Type 0} → ℕ → ℕ → List X → List X
in_block n b xs = take (block_size n) (drop (block_size n * b) xs)

-- the least element that refuses, and its code
pub record Refusal : Type 0 where
  pub element : ℕ
  pub code : ℕ

module _ {S G E L P : Type 0} (m : Meaning S G E L P) (j : S) (plan : L) (carry : P)
    (seed cycle pass : ℕ) where
  -- the result of no element
  abbrev pub nothing : PassResult E P
  nothing = record { elements = []; draws = []; part = m.unit_part j }

  -- a result with one more element
  abbrev pub more : PassResult E P → ElementResult E P → ℕ → PassResult E P
  more done w drawn = record {
    elements = done.elements ++ w.element ∷ [];
    draws = done.draws ++ drawn ∷ [];
    part = m.joined j done.part w.part;
  }

  -- the elements from index i on, in order, added to a result; the first refusal ends it
  abbrev pub taken : ℕ → List E → PassResult E P → Result (PassResult E P) Refusal
  taken i [] done = Ok done
  taken i (e ∷ es) done =
      elim (m.worked j plan carry pass e (key seed cycle pass i)) [
        | Ok w ↦ taken (i + 1) es (more done w (m.drawn j plan carry pass e
            (key seed cycle pass i)))
        | Err code ↦ Err (record { element = i; code = code })
      ]

  -- all elements
  abbrev pub passed : List E → Result (PassResult E P) Refusal
  passed es = taken 0 es nothing

  -- the elements of block b
  abbrev pub block : ℕ → List E → Result (PassResult E P) Refusal
  block b es = taken (block_size (length es) * b) (in_block (length es) b es) nothing
