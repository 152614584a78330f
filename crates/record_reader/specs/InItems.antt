-- The frames and runs among the items of a record.
use Rattle.std.specs.Prelude.{ℕ, List, [], ◌∷◌}
use Rattle.std.specs.List.{flat_map}
use Rattle.det_values.specs.declared.frames.Frame.{Frame}
use Rattle.det_values.specs.declared.frames.Frame.TheVariants.{Run}
use Rattle.det_values.specs.declared.frames.RunFrame.{RunFrame}
use Rattle.record_grammar.specs.declared.item.Item.{Item}
use Rattle.record_grammar.specs.declared.item.Item.TheVariants as items
use Rattle.record_grammar.specs.Spelling.{spelled}

-- the frame of an item; none for a header
abbrev pub frame_in : Item → List Frame
frame_in (items.Header profile) = []
frame_in (items.Frame frame) = frame ∷ []

-- the run of an item, or none
abbrev pub run_in : Item → List RunFrame
run_in (items.Frame (Run run)) = run ∷ []
run_in item = []

-- the runs among items
abbrev pub runs_in : List Item → List RunFrame
runs_in xs = flat_map run_in xs

-- the spelling of a record's first items: its header, and of the others the chosen frames
abbrev pub spelled_by : (Item → List Frame) → List Item → List ℕ
spelled_by chosen (items.Header profile ∷ behind) = spelled profile (flat_map chosen behind)
spelled_by chosen other = []
