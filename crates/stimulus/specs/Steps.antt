-- The step of a reader over one line.
use Rattle.std.specs.Prelude.{◌≡◌, ℕ, ◌+◌, ◌<◌, List, length, Some, None, Result, Ok, Err, true}
use Rattle.stimulus.specs.declared.parse_line.Line.{Line}
use Rattle.stimulus.specs.declared.state.State.{State}
use Rattle.stimulus.specs.declared.state.State.TheVariants as states
use Rattle.stimulus.specs.declared.state.AfterLine.TheVariants as answers
use Rattle.stimulus.specs.declared.stimulus_item.StimulusItem.{StimulusItem}
use Rattle.stimulus.specs.declared.stimulus_item.StimulusError.{StimulusError}
use Rattle.stimulus.specs.declared.stimulus_item.StimulusError.TheVariants as errors
use Rattle.stimulus.specs.declared.parser.StimulusParser.{StimulusParser}
use Rattle.stimulus.specs.declared.parser.Progress.{Progress}
use Rattle.stimulus.specs.declared.parser.Progress.TheVariants as progress
use Rattle.stimulus.specs.States.{AfterLineIs}
use Rattle.stimulus.specs.StandsFor.{StandsFor, NextIs, Settles, waiting}

abbrev pub LineIs : Result Progress StimulusError → StimulusParser → List ℕ → List StimulusItem
    → Type 0
LineIs (Ok (progress.Item item)) r bytes given = NextIs (Ok (Some item)) r bytes given
LineIs (Ok progress.Line) r bytes given = StandsFor r bytes given
LineIs (Ok progress.Open) r bytes given = NextIs (Ok None) r bytes given
LineIs (Err error) r bytes given = NextIs (Err error) r bytes given

-- a line was read, or an item returned
abbrev pub Shrinks : Result Progress StimulusError → StimulusParser → StimulusParser → Type 0
Shrinks (Ok progress.Open) old new = Unit {0}
Shrinks (Ok _) old new = waiting new < waiting old
Shrinks (Err error) old new = Unit {0}

-- the next line is bad, and this is recorded
abbrev pub BadIs : StimulusError → StimulusParser → StimulusParser → Type 0
BadIs (errors.Bad fault) old new =
    (fault.line ≡ old.lines + 1) × (new.fault ≡ Some fault) × (new.settled ≡ true)
    × (new.events ≡ old.events) × (new.state ≡ old.state)
BadIs errors.OutOfMemory old new = ⊥

-- what stays the same over a line
pub record Keeps (old new : StimulusParser) : Type 0 where
  pub events : new.events ≡ old.events
  pub fault : new.fault ≡ old.fault
  pub settled : new.settled ≡ old.settled
  pub pending : new.pending.items ≡ old.pending.items

-- this many bytes and lines were read
abbrev pub Moves : ℕ → ℕ → StimulusParser → StimulusParser → Type 0
Moves len lines old new =
    Keeps old new × (new.read ≡ old.read + len) × (new.lines ≡ old.lines + lines)

abbrev pub TookIs : Result Progress StimulusError → Line → ℕ → StimulusParser → StimulusParser
    → Type 0
TookIs (Ok progress.Line) line len old new =
    Moves len 1 old new × AfterLineIs (answers.Line new.state) old.state line
TookIs (Ok (progress.Item item)) line len old new =
    Moves len 1 old new × AfterLineIs (answers.Item item new.state) old.state line
TookIs (Ok progress.Open) line len old new = ⊥
TookIs (Err (errors.Bad fault)) line len old new =
    BadIs (errors.Bad fault) old new × AfterLineIs (answers.Bad new.state) old.state line
TookIs (Err errors.OutOfMemory) line len old new = Moves 0 0 old new × (new.state ≡ old.state)

-- `Terminate` is still to be returned
abbrev pub IsLast : State → Type 0
IsLast state = state ≡ states.Last

-- there are bytes after the line `terminate`
abbrev pub IsPastEnd : State → List ℕ → Type 0
IsPastEnd state bytes = (state ≡ states.Ended) × (0 < length bytes)

abbrev pub OpenSettles : Result Progress StimulusError → StimulusParser → Type 0
OpenSettles (Ok progress.Open) r = Settles (Ok None) r
OpenSettles (Ok _) r = Unit {0}
OpenSettles (Err error) r = Settles (Err error) r
