-- A law of the verdict.
use Rattle.std.specs.Prelude.{◌≡◌, ◌↔◌, List, ◌∷◌, length, map, None}
use Rattle.std.specs.List.{AllByRecursion}
use Rattle.det_values.specs.declared.frames.Frame.{Frame}
use Rattle.frame_queue.specs.declared.row.Row.{Row}
use Rattle.twins.specs.TwinVerdict.{first_verdict}

-- the frames in these rows
abbrev pub frames_in : List Row → List Frame
frames_in rows = map (λ (row : Row). row.frame) rows

-- copies with the same number of rows have no row that differs exactly where all of them have the
-- frames of copy 0
abbrev pub Agreeing : Type 0
Agreeing = (ours : List Row) (others : List (List Row))
    → AllByRecursion (λ rows. length rows ≡ length ours) others
    → (first_verdict 0 (length ours) (ours ∷ others) ≡ None)
    ↔ AllByRecursion (λ rows. frames_in rows ≡ frames_in ours) others
