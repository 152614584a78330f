-- The state of a reader: its place, and what is still to be returned.
use Rattle.std.specs.Prelude.{◌≡◌, ℕ, ◌+◌, ◌*◌, ◌≤◌, List, [], ◌∷◌, length, Option, None}
use Rattle.std.specs.Prelude.{option_map}
use Rattle.stimulus.specs.declared.line_place.LinePlace.{LinePlace}
use Rattle.stimulus.specs.declared.line_place.LinePlace.TheVariants as counted
use Rattle.stimulus.specs.declared.parse_line.Line.{Line}
use Rattle.stimulus.specs.declared.state.State.{State}
use Rattle.stimulus.specs.declared.state.State.TheVariants as states
use Rattle.stimulus.specs.declared.state.AfterLine.{AfterLine}
use Rattle.stimulus.specs.declared.state.AfterLine.TheVariants as answers
use Rattle.stimulus.specs.declared.stimulus_item.StimulusItem.{StimulusItem}
use Rattle.stimulus.specs.declared.stimulus_item.StimulusItem.TheVariants as items
use Rattle.stimulus.specs.Places.{Place, First, Between, Inside, Ended, step, taken}

abbrev pub place_of : State → Place
place_of states.First = First
place_of states.Between = Between
place_of (states.Inside blocks input) = Inside blocks input
place_of states.Last = Ended
place_of states.Ended = Ended

-- a place by its numbers of blocks and samples
abbrev pub counted_of : Place → LinePlace
counted_of First = counted.First
counted_of Between = counted.Between
counted_of (Inside blocks input) = counted.Inside blocks (length input.samples)
counted_of Ended = counted.Ended

-- the place after a line, wherever the numbers are these; none if the line may not come there
abbrev pub FollowingIs : Option LinePlace → LinePlace → Line → Type 0
FollowingIs next at line =
    (place : Place) → counted_of place ≡ at
    → next ≡ option_map (λ s. counted_of s.place) (taken place line)

-- the item that a line completed and that is still to be returned
abbrev pub items_to_give : State → List StimulusItem
items_to_give states.Last = items.Terminate ∷ []
items_to_give _ = []

abbrev pub AfterLineIs : AfterLine → State → Line → Type 0
AfterLineIs (answers.Line s) state line =
    (taken (place_of state) line ≡ step [] (place_of s)) × (items_to_give s ≡ [])
AfterLineIs (answers.Item item s) state line =
    taken (place_of state) line ≡ step (item ∷ items_to_give s) (place_of s)
AfterLineIs (answers.Bad s) state line = (taken (place_of state) line ≡ None) × (s ≡ state)
AfterLineIs (answers.OutOfMemory s) state line = s ≡ state

-- the greatest number of lines that can have been read in a state
abbrev pub most_lines : State → ℕ
most_lines states.First = 0
most_lines states.Between = 1
most_lines (states.Inside blocks input) = 4097 * blocks + length input.samples
most_lines states.Last = 4097 * 1000001
most_lines states.Ended = 4097 * 1000001

-- no stimulus has more lines
abbrev pub all_lines : ℕ
all_lines = 4097 * 1000001

-- and no block begins or goes on after more
abbrev pub limit_of : State → ℕ
limit_of (states.Inside blocks input) = 4097 * 1000000 + 4096
limit_of _ = all_lines

abbrev pub Counts : AfterLine → State → Type 0
Counts (answers.Line s) state =
    most_lines state ≤ limit_of state → (most_lines state + 1 ≤ most_lines s)
    × (most_lines s ≤ limit_of s)
Counts (answers.Item item s) state =
    most_lines state ≤ limit_of state → (most_lines state + 1 ≤ most_lines s)
    × (most_lines s ≤ limit_of s)
Counts (answers.Bad s) state = Unit {0}
Counts (answers.OutOfMemory s) state = Unit {0}
