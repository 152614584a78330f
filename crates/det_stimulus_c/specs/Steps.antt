-- What a step finds, reports and changes, and what is told at the end.
use Rattle.std.specs.Prelude.{◌≡◌, ℕ, ◌+◌, ◌-◌, ◌^◌, ◌<◌, ◌≤◌, Bool, true, false, List, [], ◌∷◌}
use Rattle.std.specs.Prelude.{◌++◌, length, take, Some, None}
use Rattle.c_types.specs.CValues.{time_of, sample_of}
use Rattle.stimulus.specs.declared.line_place.LinePlace.{LinePlace}
use Rattle.stimulus.specs.declared.parse_line.Line.{Line}
use Rattle.stimulus.specs.declared.parse_line.Line.TheVariants as lines
use Rattle.stimulus.specs.Lines.{line_of}
use Rattle.stimulus.specs.Reading.{Ending, Terminated, BadLine, good_lines, has_bad}
use Rattle.stimulus.specs.States.{FollowingIs}
use Rattle.det_stimulus_c.specs.declared.det_stimulus.DetStimulus.{DetStimulus}
use Rattle.det_stimulus_c.specs.declared.found.DetStimulusStep.{DetStimulusStep}
use Rattle.det_stimulus_c.specs.declared.found.Found.{Found}
use Rattle.det_stimulus_c.specs.declared.found.Found.TheVariants.{More, Good, Bad}
use Rattle.det_stimulus_c.specs.Taken.{place_of, HasTaken}

-- ---- what is reported

abbrev pub number_of : Found → ℕ
number_of More = 0
number_of (Good lines.Stim n) = 1
number_of (Good (lines.Cycle time) n) = 2
number_of (Good (lines.Sample s) n) = 3
number_of (Good lines.Terminate n) = 4
number_of Bad = 5

abbrev pub taken_of : Found → ℕ
taken_of (Good line n) = n
taken_of _ = 0

-- the time of a block, or a sample
abbrev pub Says : Found → DetStimulusStep → Type 0
Says (Good (lines.Cycle time) n) step = time_of step.time ≡ time
Says (Good (lines.Sample s) n) step = sample_of step.sample ≡ s
Says _ step = Unit {0}

-- ---- what is found after the bytes that were taken

-- the next good line has this content, and `n` bytes with its LF
pub record IsTaken (line : Line) (n : ℕ) (old new : DetStimulus) (text bytes : List ℕ)
    : Type 0 where
  pub within : n ≤ length bytes
  pub few : n ≤ 129
  pub content : line_of old.events (take (n - 1) bytes) ≡ Some line
  pub good : good_lines old.events (text ++ take n bytes)
      ≡ good_lines old.events text ++ take (n - 1) bytes ∷ []
  pub taken : HasTaken new (text ++ take n bytes)

-- no whole good line comes next, and whether some line is bad
abbrev pub HasNoMore : Bool → ℕ → List ℕ → List ℕ → Type 0
HasNoMore bad events text bytes =
    (good_lines events (text ++ bytes) ≡ good_lines events text)
    × (has_bad events (text ++ bytes) ≡ bad)

abbrev pub FoundIs : Found → DetStimulus → DetStimulus → List ℕ → List ℕ → Type 0
FoundIs More old new text bytes = HasNoMore false old.events text bytes
FoundIs (Good line n) old new text bytes = IsTaken line n old new text bytes
FoundIs Bad old new text bytes = HasNoMore true old.events text bytes

abbrev pub Stays : Found → DetStimulus → DetStimulus → Type 0
Stays (Good line n) old new = new.events ≡ old.events
Stays _ old new = new ≡ old

-- the result of a step, for what it found
pub record IsStep (answer : ℕ) (step : DetStimulusStep) (old new : DetStimulus) (bytes : List ℕ)
    : Type 0 where
  pub found : Found
  pub number : answer ≡ number_of found
  pub taken : step.taken ≡ taken_of found
  pub says : Says found step
  pub is : (text : List ℕ) → HasTaken old text → FoundIs found old new text bytes
  pub stays : Stays found old new

-- ---- a line at a place

-- the struct has the place after a line
pub record GoesOn (place : LinePlace) (old new : DetStimulus) : Type 0 where
  pub there : place_of new ≡ place
  pub events : new.events ≡ old.events
  pub lines : old.lines + 1 < 2 ^ 64 → new.lines ≡ old.lines + 1

abbrev pub TakenIs : Found → Line → ℕ → DetStimulus → DetStimulus → Type 0
TakenIs More line n old new = ⊥
TakenIs (Good said m) line n old new =
    (said ≡ line) × (m ≡ n) × FollowingIs (Some (place_of new)) (place_of old) line
    × GoesOn (place_of new) old new
TakenIs Bad line n old new = FollowingIs None (place_of old) line × (new ≡ old)

-- ---- the end

abbrev pub EndIs : Bool → Ending → ℕ → ℕ → Type 0
EndIs true end old new = (end ≡ Terminated) × (new ≡ old)
EndIs false end old new = end ≡ BadLine new
