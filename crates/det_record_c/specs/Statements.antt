-- The laws of a record that was written to its end, and of a cycle that is written in several
-- calls.
use Rattle.std.specs.Prelude.{◌≡◌, ℕ, List, ◌++◌}
use Rattle.det_values.specs.declared.frames.CycleInput.{CycleInput}
use Rattle.det_values.specs.declared.frames.DrawnElement.{DrawnElement}
use Rattle.det_values.specs.declared.frames.Frame.{Frame}
use Rattle.det_values.specs.Values.{ProfileValue}
use Rattle.record_grammar.specs.declared.place.Place.TheVariants as places
use Rattle.record_grammar.specs.declared.item.Item.{Item}
use Rattle.record_grammar.specs.Laws.{items_of, item_spelling}
use Rattle.record_grammar.specs.Spelling.{SpellsWhole}
use Rattle.c_types.specs.declared.record.DetRecord.{DetRecord}
use Rattle.c_types.specs.Places.{place_of}
use Rattle.det_record_c.specs.declared.run.DetRun.{DetRun}
use Rattle.det_record_c.specs.Items.{cycle_in}
use Rattle.det_record_c.specs.Parts.{Written}
use Rattle.det_record_c.specs.Runs.{Opened, closing_of}

-- the items are those of a profile and of the frames of a run, and the bytes are their spelling
pub record IsWholeRecord (items : List Item) (bytes : List ℕ) : Type 0 where
  pub profile : ProfileValue
  pub frames : List Frame
  pub parts : items ≡ items_of profile frames
  pub spells : SpellsWhole profile frames bytes

abbrev pub WholeRecord : Type 0
WholeRecord =
    (r : DetRecord) (items : List Item) (bytes : List ℕ) → place_of r ≡ places.End
    → Written r items bytes → IsWholeRecord items bytes

-- the bytes of opening a cycle, of all its elements and of closing it are the one spelling of its
-- frame
abbrev pub CycleInCalls : Type 0
CycleInCalls =
    (run : DetRun) (input : CycleInput) (elements : List DrawnElement) (begun output : List ℕ)
    → Opened run input elements begun → run.left ≡ 0
    → begun ++ closing_of output
    ≡ item_spelling (place_of run.state) (cycle_in input elements output)
