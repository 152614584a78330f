-- What a reader knows of the bytes that were fed to it, and of the items that it returned.
use Rattle.std.specs.Prelude.{◌≡◌, ℕ, ◌+◌, ◌-◌, ◌*◌, ◌<◌, ◌≤◌, List, [], ◌∷◌, ◌++◌, length, drop}
use Rattle.std.specs.Prelude.{Option, Some, None, Result, Ok, Err, true, false}
use Rattle.stimulus.specs.declared.stimulus_item.StimulusItem.{StimulusItem}
use Rattle.stimulus.specs.declared.stimulus_item.StimulusError.{StimulusError}
use Rattle.stimulus.specs.declared.stimulus_item.StimulusError.TheVariants as errors
use Rattle.stimulus.specs.declared.stimulus_item.StimulusFault.{StimulusFault}
use Rattle.stimulus.specs.declared.parser.StimulusParser.{StimulusParser}
use Rattle.stimulus.specs.Limits.{IsItem}
use Rattle.stimulus.specs.States.{place_of, items_to_give, all_lines}
use Rattle.stimulus.specs.Reading.{Reading, Terminated, BadLine, reading, reading_from, parts}
use Rattle.stimulus.specs.Reading.{after, inputs_of, blocks, ending, has_bad}

-- the bytes that weren't read yet
abbrev pub left : StimulusParser → List ℕ
left r = drop r.read r.pending.items

-- the bad line was found, whatever comes after
abbrev pub bad_reading : List (List ℕ) → List StimulusItem → Reading
bad_reading head given = record { head = head; items = given; is_whole = false; bad_is_fed = true }

-- A reader that found no bad line goes on as if it read everything from the beginning, whatever
-- comes after.
abbrev pub Resumes : Option StimulusFault → StimulusParser → List (List ℕ) → List ℕ
    → List StimulusItem → Type 0
Resumes None r head bytes given =
    (length head ≡ r.lines)
    × ((tail : List ℕ) → reading r.events (bytes ++ tail)
    ≡ after head (given
    ++ items_to_give r.state) (reading_from r.events (place_of r.state) (parts (left r ++ tail))))
Resumes (Some fault) r head bytes given =
    (length head + 1 ≡ fault.line)
    × ((tail : List ℕ) → reading r.events (bytes ++ tail) ≡ bad_reading head given)

-- these bytes were fed, and these items returned
pub record StandsFor (r : StimulusParser) (bytes : List ℕ)
    (given : List StimulusItem) : Type 0 where
  -- the good lines that it read
  pub head : List (List ℕ)
  pub resumes : Resumes r.fault r head bytes given
  pub settled : r.settled ≡ true → r.fault ≡ None → (parts (left r) ≡ left r ∷ [])
      × (items_to_give r.state ≡ [])

-- Nothing was fed since the last result, which was that no more can be returned or that a line is
-- bad.
abbrev pub IsSettled : StimulusParser → Type 0
IsSettled r = r.settled ≡ true

-- at most this many items can be returned before more is fed: a line completes two at most
abbrev pub waiting : StimulusParser → ℕ
waiting r = 2 * length (left r) + length (items_to_give r.state)

-- after this many more bytes some line is bad: a stimulus has at most `all_lines` lines, of at most
-- 129 bytes each
abbrev pub room_before : Option StimulusFault → StimulusParser → ℕ
room_before None r = 129 * (all_lines + 1 - r.lines) - length (left r)
room_before (Some fault) r = 0

abbrev pub room : StimulusParser → ℕ
room r = room_before r.fault r

-- This item comes next, and its samples are within their limits. No more than 1,000,000 blocks were
-- returned, this one included.
pub record Gives (item : StimulusItem) (events : ℕ) (bytes : List ℕ) (given : List StimulusItem)
    : Type 0 where
  pub others : List StimulusItem
  pub items : (reading events bytes).items ≡ given ++ item ∷ others
  pub within : IsItem events item
  pub few : length (inputs_of (given ++ item ∷ [])) ≤ 1000000

-- all items of the lines that were fed were returned, and none of the lines is bad
pub record GaveAll (events : ℕ) (bytes : List ℕ) (given : List StimulusItem) : Type 0 where
  pub items : (reading events bytes).items ≡ given
  pub blocks : blocks events bytes ≡ inputs_of given
  pub good : has_bad events bytes ≡ false

-- all items before the bad line were returned, and it is bad whatever comes after
pub record FoundBad (line events : ℕ) (bytes : List ℕ) (given : List StimulusItem) : Type 0 where
  pub items : (reading events bytes).items ≡ given
  pub blocks : blocks events bytes ≡ inputs_of given
  pub bad : has_bad events bytes ≡ true
  pub ending : ending events bytes ≡ BadLine line

abbrev pub NextIs : Result (Option StimulusItem) StimulusError → StimulusParser → List ℕ
    → List StimulusItem → Type 0
NextIs (Ok (Some item)) r bytes given =
    StandsFor r bytes (given ++ item ∷ []) × Gives item r.events bytes given
NextIs (Ok None) r bytes given = StandsFor r bytes given × GaveAll r.events bytes given
NextIs (Err (errors.Bad fault)) r bytes given =
    StandsFor r bytes given × FoundBad fault.line r.events bytes given
NextIs (Err errors.OutOfMemory) r bytes given = StandsFor r bytes given

-- after None the reader is settled and has room, and after a bad line it is settled
abbrev pub Settles : Result (Option StimulusItem) StimulusError → StimulusParser → Type 0
Settles (Ok None) r = IsSettled r × (1 ≤ room r)
Settles (Err (errors.Bad fault)) r = IsSettled r
Settles _ r = Unit {0}

-- with each item, fewer can be returned before more is fed
abbrev pub Falls : Result (Option StimulusItem) StimulusError → StimulusParser → StimulusParser
    → Type 0
Falls (Ok (Some item)) old new = waiting new < waiting old
Falls _ old new = Unit {0}

abbrev pub FinishIs : Result (Unit {0}) StimulusFault → ℕ → List ℕ → Type 0
FinishIs (Ok u) events bytes = ending events bytes ≡ Terminated
FinishIs (Err fault) events bytes = ending events bytes ≡ BadLine fault.line
