-- The verdict on the rows of copies, which are compared row by row.
use Rattle.std.specs.Prelude.{ℕ, zero, suc, ◌+◌, List, [], ◌∷◌, length, map, true}
use Rattle.std.specs.Prelude.{Option, Some, None}
use Rattle.std.specs.Option.{option_or, unwrap_or}
use Rattle.std.specs.List.{slice_get, range_with_len}
use Rattle.det_values.specs.Values.{ProfileValue}
use Rattle.det_values.specs.declared.frames.CycleInput.{CycleInput}
use Rattle.det_values.specs.declared.frames.Frame.{Frame}
use Rattle.job.specs.Meaning.{Meaning}
use Rattle.cycle_engine.specs.Frames.{frames}
use Rattle.frame_queue.specs.declared.row.Row.{Row}
use Rattle.record_grammar.specs.declared.item.Item.TheVariants as items
use Rattle.copies.specs.declared.row.Row.{Row as Read}
use Rattle.copies.specs.declared.row.Row.TheVariants as reads
use Rattle.copies.specs.declared.verdict.Verdict.{Verdict}
use Rattle.copies.specs.declared.verdict.Verdict.TheVariants.{Agree}
use Rattle.copies.specs.Verdict.{first_other}

-- ---- what copies send

-- the rows of a copy: these frames as they are altered, numbered from `f` on
abbrev pub rows_from : (ℕ → Frame → Frame) → ℕ → List Frame → List Row
rows_from altered f [] = []
rows_from altered f (frame ∷ more) =
    record { number = f; frame = altered f frame } ∷ rows_from altered (f + 1) more

-- ---- the verdict on rows

-- a row as it is read in a record
abbrev pub as_read : Option Row → Read
as_read None = reads.Whole
as_read (Some row) = reads.Item (items.Frame row.frame)

-- row `f` of a copy
abbrev pub row_at : ℕ → List Row → Read
row_at f rows = as_read (slice_get rows f)

-- the least copy whose row `f` isn't equal to that of copy 0, and where the two differ first
abbrev pub row_verdict : ℕ → List (List Row) → Option Verdict
row_verdict f [] = None
row_verdict f (ours ∷ others) = first_other (f + 1) (row_at f ours) 1 (map (row_at f) others)

-- the first of this number of rows, counted on from `f`, that not all copies have equal
abbrev pub first_verdict : ℕ → ℕ → List (List Row) → Option Verdict
first_verdict f zero copies = None
first_verdict f (suc more) copies =
    option_or (row_verdict f copies) (first_verdict (f + 1) more copies)

-- ---- the verdict on a run

module _ {S G E L P : Type 0} (m : Meaning S G E L P) (profile : ProfileValue)
    (inputs : List CycleInput) (altered : ℕ → ℕ → Frame → Frame) where
  -- the frames of the run, from Register to Terminate
  abbrev pub run_frames : List Frame
  run_frames = frames m profile inputs true

  -- all rows of a copy
  abbrev pub copy_rows : ℕ → List Row
  copy_rows copy = rows_from (altered copy) 0 run_frames

  -- The copies agree, or the first row that not all have equal decides.
  abbrev pub twin_verdict : ℕ → Verdict
  twin_verdict copies = unwrap_or
      (first_verdict 0 (length run_frames) (map copy_rows (range_with_len 0 copies)))
      (Agree (length inputs))
