-- How a record is spelled, and which values have a spelling. All numbers are big-endian; signed
-- ones are in two's complement.
use Rattle.std.specs.Prelude.{◌≡◌, ℕ, ◌^◌, ◌<◌, ◌≤◌, ℤ, List, [], ◌∷◌, ◌++◌, length, map, Option}
use Rattle.std.specs.Prelude.{Some, None, codes, true, FitsSigned}
use Rattle.std.specs.List.{flat_map, All}
use Rattle.std.specs.Int.{w64, cast_unsigned, to_be_bytes}
use Rattle.det_values.specs.declared.format.Format.{Format}
use Rattle.det_values.specs.declared.format.Format.TheVariants.{One, Two}
use Rattle.det_values.specs.declared.event.Policy.{Policy}
use Rattle.det_values.specs.declared.event.Policy.TheVariants.{Last, Fresh}
use Rattle.det_values.specs.declared.refused_at.Phase.{Phase}
use Rattle.det_values.specs.declared.refused_at.Phase.TheVariants as phases
use Rattle.det_values.specs.declared.frames.CycleInput.{CycleInput}
use Rattle.det_values.specs.declared.frames.DrawnElement.{DrawnElement}
use Rattle.det_values.specs.declared.frames.Outcome.{Outcome}
use Rattle.det_values.specs.declared.frames.Outcome.TheVariants.{Finished, Refused}
use Rattle.det_values.specs.declared.frames.RunFrame.{RunFrame}
use Rattle.det_values.specs.declared.frames.Frame.{Frame}
use Rattle.det_values.specs.declared.frames.Frame.TheVariants.{Register, Discover, Init, Run}
use Rattle.det_values.specs.declared.frames.Frame.TheVariants.{Terminate}
use Rattle.det_values.specs.Values.{SampleValue, EventSpecValue, RefusedAtValue, ProfileValue}
use Rattle.det_values.specs.Spelling as flat
pub use Rattle.det_values.specs.Spelling.{AreBytes}
unfoldable pub use Rattle.det_values.specs.Spelling.{spelled_u16, spelled_u32}
use Rattle.det_values.specs.Limits.{IsSampleValue, IsCapacity, IsCycleTime, is_event_name, IsPlace}
use Rattle.det_values.specs.Limits.{KnowsPolicies}

-- at most `most` bytes
abbrev pub IsString : ℕ → List ℕ → Type 0
IsString most bytes = (length bytes ≤ most) × AreBytes bytes

unfoldable pub spelled_u64 : ℕ → List ℕ
spelled_u64 n = to_be_bytes w64 n

abbrev pub spelled_signed : ℤ → List ℕ
spelled_signed z = spelled_u64 (cast_unsigned w64 z)

-- ---- the header

abbrev pub version : Format → ℕ
version One = 1
version Two = 2

abbrev pub policy_number : Policy → ℕ
policy_number Last = 0
policy_number Fresh = 1

-- format 1 doesn't spell it
abbrev pub spelled_policy : Format → Policy → List ℕ
spelled_policy One policy = []
spelled_policy Two policy = policy_number policy ∷ []

abbrev pub spelled_event : Format → EventSpecValue → List ℕ
spelled_event format e = spelled_u16 e.capacity ++ (length e.name ∷ (e.name
    ++ spelled_policy format e.policy))

abbrev pub spelled_params : List ℤ → List ℕ
spelled_params params = spelled_u16 (length params) ++ flat_map spelled_signed params

abbrev pub spelled_events : Format → List EventSpecValue → List ℕ
spelled_events format events = spelled_u16 (length events) ++ flat_map (spelled_event format) events

unfoldable pub magic : List ℕ
magic = codes "DETREC"

-- the fields before the parameters
unfoldable pub spelled_numbers : ProfileValue → List ℕ
spelled_numbers p = magic ++ (spelled_u16 (version p.format) ++ (spelled_u16 p.job
    ++ (spelled_u64 p.seed ++ spelled_u64 p.cycle_time)))

unfoldable pub spelled_header : ProfileValue → List ℕ
spelled_header p = spelled_numbers p ++ (spelled_params p.params
    ++ spelled_events p.format p.events)

abbrev pub IsEvent : EventSpecValue → Type 0
IsEvent e = IsCapacity e.capacity × (is_event_name e.name ≡ true)

pub record IsHeader (p : ProfileValue) : Type 0 where
  pub job : p.job < 2 ^ 16
  pub seed : p.seed < 2 ^ 64
  pub cycle_time : IsCycleTime p.cycle_time
  pub few_params : length p.params ≤ 16
  pub params : All (FitsSigned w64) p.params
  pub few_events : length p.events ≤ 256
  pub events : All IsEvent p.events
  pub policies : KnowsPolicies p.format p.events

-- ---- the parts of frames

abbrev pub spelled_element : List ℕ → List ℕ
spelled_element bytes = spelled_u16 (length bytes) ++ bytes

abbrev pub IsElement : List ℕ → Type 0
IsElement bytes = IsString 64 bytes

-- format 1 doesn't spell the draws
abbrev pub spelled_drawn : Format → DrawnElement → List ℕ
spelled_drawn One e = spelled_element e.bytes
spelled_drawn Two e = flat.spelled_drawn e

abbrev pub MayDraw : Format → ℕ → Type 0
MayDraw One draws = draws ≡ 0
MayDraw Two draws = Unit {0}

abbrev pub IsDrawn : Format → DrawnElement → Type 0
IsDrawn format e = IsElement e.bytes × (e.draws < 2 ^ 32) × MayDraw format e.draws

abbrev pub spelled_time : Option ℕ → List ℕ
spelled_time None = 0 ∷ []
spelled_time (Some t) = 1 ∷ spelled_u64 t

abbrev pub IsTime : Option ℕ → Type 0
IsTime None = Unit {0}
IsTime (Some t) = t < 2 ^ 64

abbrev pub spelled_sample : SampleValue → List ℕ
spelled_sample s = spelled_u16 s.event ++ spelled_signed s.value

-- a sample of an event below `events`
abbrev pub IsSample : ℕ → SampleValue → Type 0
IsSample events s = (s.event < events) × IsSampleValue s.value

abbrev pub spelled_input : CycleInput → List ℕ
spelled_input i = spelled_time i.time ++ (spelled_u32 (length i.samples)
    ++ flat_map spelled_sample i.samples)

abbrev pub IsInput : ℕ → CycleInput → Type 0
IsInput events i = IsTime i.time × (length i.samples ≤ 4096) × All (IsSample events) i.samples

abbrev pub phase_number : Phase → ℕ
phase_number phases.Prepare = 0
phase_number phases.Pool = 1
phase_number phases.Conclude = 2

abbrev pub spelled_refusal : RefusedAtValue → List ℕ
spelled_refusal at = phase_number at.phase ∷ at.pass ∷ (spelled_u32 at.element
    ++ spelled_u32 at.code)

abbrev pub IsRefusal : RefusedAtValue → Type 0
IsRefusal at = IsPlace at.phase at.pass at.element × (at.code < 2 ^ 32)

abbrev pub spelled_finished : Format → List DrawnElement → List ℕ → List ℕ
spelled_finished format elements output = spelled_u32 (length elements)
    ++ (flat_map (spelled_drawn format) elements ++ (spelled_u32 (length output) ++ output))

abbrev pub spelled_outcome : Format → Outcome → List ℕ
spelled_outcome format (Finished elements output) = 0 ∷ spelled_finished format elements output
spelled_outcome format (Refused at) = 1 ∷ spelled_refusal at

abbrev pub IsOutcome : Format → Outcome → Type 0
IsOutcome format (Finished elements output) = (length elements ≤ 65536)
    × All (IsDrawn format) elements × IsString 1048576 output
IsOutcome format (Refused at) = IsRefusal at

-- ---- the frames

unfoldable pub spelled_frame : Format → Frame → List ℕ
spelled_frame format Register = 1 ∷ []
spelled_frame format Discover = 2 ∷ []
spelled_frame format (Init elements) = 3 ∷ (spelled_u32 (length elements)
    ++ flat_map spelled_element elements)
spelled_frame format (Run r) = 4 ∷ (spelled_input r.input ++ spelled_outcome format r.outcome)
spelled_frame format Terminate = 5 ∷ []

-- a frame whose fields are in their ranges, in a run with this number of events
unfoldable pub IsFrame : Format → ℕ → Frame → Type 0
IsFrame format events Register = Unit {0}
IsFrame format events Discover = Unit {0}
IsFrame format events (Init elements) = (length elements ≤ 65536) × All IsElement elements
IsFrame format events (Run r) = IsInput events r.input × IsOutcome format r.outcome
IsFrame format events Terminate = Unit {0}

-- What a frame must meet beyond its types: its samples are of the run's events, and in format 1
-- nothing is drawn.
abbrev pub MayDrawAll : Format → Outcome → Type 0
MayDrawAll format (Finished elements output) = All (λ e. MayDraw format e.draws) elements
MayDrawAll format (Refused at) = Unit {0}

abbrev pub CanSpell : Format → ℕ → Frame → Type 0
CanSpell format events (Run r) = All (λ s. s.event < events) r.input.samples
    × MayDrawAll format r.outcome
CanSpell format events frame = Unit {0}

-- ---- the whole

-- Register, Discover, Init, at most 1,000,000 Runs and Terminate
pub record AreRun (frames : List Frame) : Type 0 where
  pub elements : List (List ℕ)
  pub runs : List RunFrame
  pub few : length runs ≤ 1000000
  pub order : frames ≡ Register ∷ Discover ∷ Init elements ∷ (map Run runs ++ Terminate ∷ [])

abbrev pub spelled : ProfileValue → List Frame → List ℕ
spelled profile frames = spelled_header profile ++ flat_map (spelled_frame profile.format) frames

-- the bytes are the spelling of a profile and of the frames of a run, or of its first frames
pub record Spells (profile : ProfileValue) (frames : List Frame) (bytes : List ℕ) : Type 0 where
  pub header : IsHeader profile
  pub fields : All (IsFrame profile.format (length profile.events)) frames
  pub order : (more : List Frame) × AreRun (frames ++ more)
  pub spelling : bytes ≡ spelled profile frames

-- the same of all frames of a run
abbrev pub SpellsWhole : ProfileValue → List Frame → List ℕ → Type 0
SpellsWhole profile frames bytes = Spells profile frames bytes × AreRun frames
