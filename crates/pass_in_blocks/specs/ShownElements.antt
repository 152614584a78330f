-- The elements that a pass shows, block by block, and their bytes.
use Rattle.std.specs.Prelude.{◌≡◌, ℕ, List, [], ◌++◌, length, take, Result, Ok, Err, if◌then◌else◌}
use Rattle.std.specs.List.{All}
use Rattle.det_values.specs.declared.frames.DrawnElement.{DrawnElement}
use Rattle.det_values.specs.Spelling.{spelled_all, IsDrawn}
use Rattle.job.specs.Meaning.{Meaning}
use Rattle.job.specs.Pass.{PassResult, Refusal, in_block}
use Rattle.job.specs.Cycle.{shown_with}
use Rattle.job.specs.Passes.{PassValue, block_in, drawn_so_far}

-- the bytes of these elements were added
pub record AreSpelled (es : List DrawnElement) (old new : List ℕ) : Type 0 where
  pub bytes : new ≡ old ++ spelled_all es
  pub fields : All IsDrawn es

module _ {S G E L P : Type 0} (m : Meaning S G E L P) (t : PassValue S E L P) where
  -- the shown form of the new elements before index n, given them and their draws
  abbrev pub shown_before : ℕ → List E → List ℕ → List DrawnElement
  shown_before n es ds =
      shown_with m t.job es (drawn_so_far (take n t.earlier) ds)

  -- the elements that block b shows, given its result
  abbrev pub shown_by : ℕ → Result (PassResult E P) Refusal → List DrawnElement
  shown_by b (Ok done) = shown_with m t.job done.elements
      (drawn_so_far (in_block (length t.elements) b t.earlier) done.draws)
  shown_by b (Err refusal) = []

  -- the elements that block b shows, if the pass shows its elements
  abbrev pub shown_in : ℕ → List DrawnElement
  shown_in b = if t.shows then shown_by b (block_in m t b) else []

  -- the same for all elements before index n
  abbrev pub frame_before : ℕ → List E → List ℕ → List DrawnElement
  frame_before n es ds = if t.shows then shown_before n es ds else []
