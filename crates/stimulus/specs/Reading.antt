-- The reading of a text as a stimulus. The format is this project's own.
use Rattle.std.specs.Prelude.{ℕ, ◌+◌, ◌==◌, nat_lt, Bool, true, false, List, [], ◌∷◌, ◌++◌, length}
use Rattle.std.specs.Prelude.{Option, None, Some, if◌then◌else◌, option_and_then}
use Rattle.std.specs.List.{slice_split}
use Rattle.det_values.specs.declared.frames.CycleInput.{CycleInput}
use Rattle.stimulus.specs.declared.stimulus_item.StimulusItem.{StimulusItem}
use Rattle.stimulus.specs.declared.stimulus_item.StimulusItem.TheVariants as items
use Rattle.stimulus.specs.Lines.{line_of}
use Rattle.stimulus.specs.Places.{Place, First, Ended, Step, taken}

-- how a text ends: with the line `terminate`, or with a bad line of this number
pub data Ending : Type 0 where
  Terminated : Ending
  BadLine : ℕ → Ending

-- The good lines at the beginning of a text, and the items that they complete. Then, whether they
-- are all of a stimulus, and whether the bad line counts as fed.
pub record Reading : Type 0 where
  pub head : List (List ℕ)
  pub items : List StimulusItem
  pub is_whole : Bool
  pub bad_is_fed : Bool

-- the whole lines of a text, and last what comes after its last LF
abbrev pub parts : List ℕ → List (List ℕ)
parts text = slice_split (λ b. b == 10) text

-- a reading, after good lines that gave these items
abbrev pub after : List (List ℕ) → List StimulusItem → Reading → Reading
after head given r = record r { head = head ++ r.head; items = given ++ r.items }

-- the first line is bad
abbrev pub bad_at_once : Bool → Reading
bad_at_once fed = record { head = []; items = []; is_whole = false; bad_is_fed = fed }

abbrev pub complete : Reading
complete = record { head = []; items = []; is_whole = true; bad_is_fed = false }

-- what comes after the last LF: it counts as fed from its 129th byte on, and at the end from its
-- first
abbrev pub at_end : Place → List ℕ → Reading
at_end Ended [] = complete
at_end Ended (b ∷ bs) = bad_at_once true
at_end _ line = bad_at_once (nat_lt 128 (length line))

-- a whole line at a place
abbrev pub text_step : ℕ → Place → List ℕ → Option Step
text_step events place line =
    if nat_lt 128 (length line) then None else option_and_then (taken place) (line_of events line)

abbrev pub go_on : List ℕ → Option Step → (Place → Reading) → Reading
go_on line None next = bad_at_once true
go_on line (Some s) next = after (line ∷ []) s.items (next s.place)

unfoldable pub reading_from : ℕ → Place → List (List ℕ) → Reading
reading_from events place [] = bad_at_once false
reading_from events place (line ∷ []) = at_end place line
reading_from events place (line ∷ next ∷ lines) =
    go_on line (text_step events place line) (λ p. reading_from events p (next ∷ lines))

-- a whole text, for this number of events
abbrev pub reading : ℕ → List ℕ → Reading
reading events text = reading_from events First (parts text)

abbrev pub inputs_of : List StimulusItem → List CycleInput
inputs_of [] = []
inputs_of (items.Cycle input ∷ others) = input ∷ inputs_of others
inputs_of (items.Terminate ∷ others) = inputs_of others

abbrev pub ending_of : Reading → Ending
ending_of r = if r.is_whole then Terminated else BadLine (length r.head + 1)

-- the longest list of good whole lines at the beginning
abbrev pub good_lines : ℕ → List ℕ → List (List ℕ)
good_lines events text = (reading events text).head

-- the inputs of the complete blocks
abbrev pub blocks : ℕ → List ℕ → List CycleInput
blocks events text = inputs_of (reading events text).items

-- how a text ends
abbrev pub ending : ℕ → List ℕ → Ending
ending events text = ending_of (reading events text)

-- some line is bad, whatever comes after
abbrev pub has_bad : ℕ → List ℕ → Bool
has_bad events text = (reading events text).bad_is_fed
