-- Good lists of lines, defined line by line: which line may come after which others, and the blocks
-- of such a list.
use Rattle.std.specs.Prelude.{◌≡◌, ℕ, ◌+◌, ◌<◌, ◌≤◌, nat_lt, ◌↔◌, ◌⊎◌, Bool, true, false, List, []}
use Rattle.std.specs.Prelude.{◌∷◌, ◌++◌, length, map, Some}
use Rattle.std.specs.List.{All, count_by}
use Rattle.det_values.specs.Values.{SampleValue}
use Rattle.det_values.specs.declared.frames.CycleInput.{CycleInput}
use Rattle.stimulus.specs.declared.parse_line.Line.{Line}
use Rattle.stimulus.specs.declared.parse_line.Line.TheVariants as lines
use Rattle.stimulus.specs.Lines.{line_of}
use Rattle.stimulus.specs.Reading.{Terminated, BadLine, parts, good_lines, blocks, ending, has_bad}

abbrev pub is_cycle : Line → Bool
is_cycle (lines.Cycle time) = true
is_cycle lines.Stim = false
is_cycle (lines.Sample s) = false
is_cycle lines.Terminate = false

abbrev pub is_end : Line → Bool
is_end lines.Terminate = true
is_end lines.Stim = false
is_end (lines.Cycle time) = false
is_end (lines.Sample s) = false

abbrev pub cycles : List Line → ℕ
cycles earlier = count_by is_cycle earlier

abbrev pub ends : List Line → ℕ
ends earlier = count_by is_end earlier

-- how many lines `sample` come after the last line `cycle`, with `n` before these lines
abbrev pub samples_from : ℕ → List Line → ℕ
samples_from n [] = n
samples_from n (lines.Stim ∷ later) = samples_from n later
samples_from n (lines.Cycle time ∷ later) = samples_from 0 later
samples_from n (lines.Sample s ∷ later) = samples_from (n + 1) later
samples_from n (lines.Terminate ∷ later) = samples_from n later

-- after the first line, and before the end
abbrev pub IsOpen : List Line → Type 0
IsOpen earlier = (0 < length earlier) × (ends earlier ≡ 0)

-- this line may come after these
abbrev pub MayStand : List Line → Line → Type 0
MayStand earlier lines.Stim = length earlier ≡ 0
MayStand earlier (lines.Cycle time) = IsOpen earlier × (cycles earlier < 1000000)
MayStand earlier (lines.Sample s) =
    IsOpen earlier × (0 < cycles earlier) × (samples_from 0 earlier < 4096)
MayStand earlier lines.Terminate = IsOpen earlier

-- each of these lines may come after those before it
abbrev pub InOrder : List Line → List Line → Type 0
InOrder earlier [] = Unit {0}
InOrder earlier (l ∷ later) = MayStand earlier l × InOrder (earlier ++ l ∷ []) later

-- these texts are lines of at most 128 bytes with this content, in order
pub record IsGood (events : ℕ) (texts : List (List ℕ)) (says : List Line) : Type 0 where
  pub short : All (λ text. length text ≤ 128) texts
  pub spelled : map (line_of events) texts ≡ map Some says
  pub order : InOrder [] says

-- the samples before the first line `cycle`, and the inputs of the blocks after them
pub record Blocks : Type 0 where
  pub samples : List SampleValue
  pub inputs : List CycleInput

abbrev pub blocks_in : List Line → Blocks
blocks_in [] = record { samples = []; inputs = [] }
blocks_in (lines.Cycle time ∷ later) =
    record {
      samples = [];
      inputs = record { time = time; samples = (blocks_in later).samples }
          ∷ (blocks_in later).inputs;
    }
blocks_in (lines.Sample s ∷ later) =
    record { samples = s ∷ (blocks_in later).samples; inputs = (blocks_in later).inputs }
blocks_in (lines.Stim ∷ later) = blocks_in later
blocks_in (lines.Terminate ∷ later) = blocks_in later

-- without the last one, unless all are complete
abbrev pub without_last : Bool → List CycleInput → List CycleInput
without_last true inputs = inputs
without_last false [] = []
without_last false (input ∷ []) = []
without_last false (input ∷ next ∷ inputs) = input ∷ without_last false (next ∷ inputs)

-- the inputs of the blocks that a line `cycle` or `terminate` follows
abbrev pub complete_blocks : List Line → List CycleInput
complete_blocks says = without_last (nat_lt 0 (ends says)) (blocks_in says).inputs

-- After lines with this content, a line counts as fed once its LF or its 129th byte was fed. After
-- the line `terminate` it counts from its first byte.
abbrev pub IsFed : List Line → List ℕ → List (List ℕ) → Type 0
IsFed says line [] = (128 < length line) ⊎ ((ends says ≡ 1) × (0 < length line))
IsFed says line (next ∷ later) = Unit {0}

-- the meaning of `good_lines`, `blocks`, `ending` and `has_bad` of a text
pub record IsHead (events : ℕ) (text : List ℕ) : Type 0 where
  pub says : List Line
  pub good : IsGood events (good_lines events text) says
  -- whole lines at its beginning, and what comes after them
  pub line : List ℕ
  pub others : List (List ℕ)
  pub begins : parts text ≡ good_lines events text ++ line ∷ others
  -- no more of its whole lines are good
  pub longest : (texts : List (List ℕ)) (next : List ℕ) (later : List (List ℕ)) (more : List Line)
      → parts text ≡ texts ++ next ∷ later → IsGood events texts more
      → length texts ≤ length (good_lines events text)
  pub blocks : blocks events text ≡ complete_blocks says
  -- they are the whole text, and the last one is `terminate`
  pub terminated : (ending events text ≡ Terminated)
      ↔ ((parts text ≡ good_lines events text ++ [] ∷ []) × (ends says ≡ 1))
  pub bad : (ending events text ≡ Terminated → ⊥) → ending events text
      ≡ BadLine (length (good_lines events text) + 1)
  pub fed : (has_bad events text ≡ true) ↔ IsFed says line others
