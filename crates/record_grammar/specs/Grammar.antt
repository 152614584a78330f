-- How a record is read from left to right, in formats 1 and 2.
use Rattle.std.specs.Prelude.{ℕ, ◌-◌, ℤ, List, [], ◌∷◌, length, Option, Some, None, ◌==◌, nat_lt}
use Rattle.std.specs.Prelude.{nat_le, ◌&&◌, if◌then◌else◌}
use Rattle.std.specs.Int.{w64, cast_signed}
use Rattle.det_values.specs.declared.format.Format.{Format}
use Rattle.det_values.specs.declared.format.Format.TheVariants.{One, Two}
use Rattle.det_values.specs.declared.event.Policy.{Policy}
use Rattle.det_values.specs.declared.event.Policy.TheVariants.{Last, Fresh}
use Rattle.det_values.specs.declared.refused_at.Phase.{Phase}
use Rattle.det_values.specs.declared.refused_at.Phase.TheVariants as phases
use Rattle.det_values.specs.declared.frames.CycleInput.{CycleInput}
use Rattle.det_values.specs.declared.frames.DrawnElement.{DrawnElement}
use Rattle.det_values.specs.declared.frames.Outcome.TheVariants.{Finished, Refused}
use Rattle.det_values.specs.declared.frames.Frame.{Frame}
use Rattle.det_values.specs.declared.frames.Frame.TheVariants as frames
use Rattle.det_values.specs.Values.{SampleValue, EventSpecValue, RefusedAtValue, ProfileValue}
use Rattle.det_values.specs.Limits.{allowed_in_name}
use Rattle.record_grammar.specs.declared.record_fault.Reason.{Reason}
use Rattle.record_grammar.specs.declared.record_fault.Reason.TheVariants.{Magic, Version, Range}
use Rattle.record_grammar.specs.declared.record_fault.Reason.TheVariants.{Order}
use Rattle.record_grammar.specs.declared.record_fault.Reason.TheVariants.{TooMany, Trailing}
use Rattle.record_grammar.specs.declared.limits.Limits.TheVariants.{Around}
use Rattle.record_grammar.specs.declared.place.Layout.{Layout}
use Rattle.record_grammar.specs.declared.place.Place.{Place}
use Rattle.record_grammar.specs.declared.place.Place.TheVariants as places
use Rattle.record_grammar.specs.declared.item.Item.{Item}
use Rattle.record_grammar.specs.declared.item.Item.TheVariants as items
use Rattle.record_grammar.specs.Read.{Read, Got, More, Bad, ◌>>=◌, raw_at, many, with_front}
use Rattle.record_grammar.specs.Numbers.{number, number_from}

-- any i64
unfoldable pub signed_at : List ℕ → Read ℤ
signed_at bytes = do
  n ← number 8 0 18446744073709551615 bytes
  Got (cast_signed w64 n.0, n.1)

-- an i64 from -10^12 to 10^12
unfoldable pub sample_value_at : List ℕ → Read ℤ
sample_value_at bytes = do
  n ← number_from (Around 1000000000000) 8 0 bytes
  Got (cast_signed w64 n.0, n.1)

-- a length of `width` bytes, at most `most`, and then that many bytes
unfoldable pub string_at : ℕ → ℕ → List ℕ → Read (List ℕ)
string_at width most bytes = do
  n ← number width 0 most bytes
  raw_at n.0 n.1

-- ---- the header

-- a byte that must be the expected one
abbrev pub exactly_at : Reason → ℕ → List ℕ → Read ℕ
exactly_at reason expected [] = More
exactly_at reason expected (b ∷ bytes) =
    if b == expected then Got (expected, bytes) else Bad reason (length (b ∷ bytes))

-- the text DETREC
unfoldable pub magic_at : List ℕ → Read ℕ
magic_at bytes = do
  d ← exactly_at Magic 68 bytes
  e ← exactly_at Magic 69 d.1
  t ← exactly_at Magic 84 e.1
  r ← exactly_at Magic 82 t.1
  f ← exactly_at Magic 69 r.1
  exactly_at Magic 67 f.1

unfoldable pub format_at : List ℕ → Read Format
format_at [] = More
format_at (b ∷ bytes) =
    if b == 1 then Got (One, bytes) else if b == 2 then Got (Two, bytes)
    else Bad Version (length (b ∷ bytes))

unfoldable pub version_at : List ℕ → Read Format
version_at bytes = do
  high ← exactly_at Version 0 bytes
  format_at high.1

-- a byte of an event's name
unfoldable pub name_byte_at : List ℕ → Read ℕ
name_byte_at [] = More
name_byte_at (b ∷ bytes) =
    if allowed_in_name b then Got (b, bytes) else Bad Range (length (b ∷ bytes))

unfoldable pub name_at : List ℕ → Read (List ℕ)
name_at bytes = do
  n ← number 1 1 32 bytes
  many name_byte_at n.0 n.1

abbrev pub policy_of : ℕ → Policy
policy_of n = if n == 0 then Last else Fresh

-- format 1 doesn't spell it
unfoldable pub policy_at : Format → List ℕ → Read Policy
policy_at One bytes = Got (Last, bytes)
policy_at Two bytes = do
  n ← number 1 0 1 bytes
  Got (policy_of n.0, n.1)

unfoldable pub event_at : Format → List ℕ → Read EventSpecValue
event_at format bytes = do
  capacity ← number 2 1 1024 bytes
  name ← name_at capacity.1
  policy ← policy_at format name.1
  Got (record { capacity = capacity.0; name = name.0; policy = policy.0 }, policy.1)

unfoldable pub params_at : List ℕ → Read (List ℤ)
params_at bytes = do
  count ← number 2 0 16 bytes
  many signed_at count.0 count.1

unfoldable pub events_at : Format → List ℕ → Read (List EventSpecValue)
events_at format bytes = do
  count ← number 2 0 256 bytes
  many (event_at format) count.0 count.1

unfoldable pub profile_at : List ℕ → Read ProfileValue
profile_at bytes = do
  magic ← magic_at bytes
  format ← version_at magic.1
  job ← number 2 0 65535 format.1
  seed ← number 8 0 18446744073709551615 job.1
  cycle ← number 8 1 9223372036854775807 seed.1
  params ← params_at cycle.1
  events ← events_at format.0 params.1
  Got (
    record {
      format = format.0;
      job = job.0;
      seed = seed.0;
      cycle_time = cycle.0;
      params = params.0;
      events = events.0;
    },
    events.1,
  )

-- ---- the parts of frames

-- an element of Init
abbrev pub element_at : List ℕ → Read (List ℕ)
element_at bytes = string_at 2 64 bytes

-- an element of a finished run
unfoldable pub drawn_at : Format → List ℕ → Read DrawnElement
drawn_at One bytes = do
  e ← element_at bytes
  Got (record { bytes = e.0; draws = 0 }, e.1)
drawn_at Two bytes = do
  e ← element_at bytes
  d ← number 4 0 4294967295 e.1
  Got (record { bytes = e.0; draws = d.0 }, d.1)

unfoldable pub time_at : List ℕ → Read (Option ℕ)
time_at bytes = do
  flag ← number 1 0 1 bytes
  if flag.0 == 0 then Got (None, flag.1)
      else (number 8 0 18446744073709551615 flag.1 >>= λ t. Got (Some t.0, t.1))

-- a sample of an event below `events`
unfoldable pub sample_at : ℕ → List ℕ → Read SampleValue
sample_at events bytes = do
  event ← number 2 0 (events - 1) bytes
  value ← sample_value_at event.1
  Got (record { event = event.0; value = value.0 }, value.1)

-- the greatest number of samples of a cycle, by the number of events
abbrev pub most_samples : ℕ → ℕ
most_samples events = if events == 0 then 0 else 4096

unfoldable pub samples_at : ℕ → List ℕ → Read (List SampleValue)
samples_at events bytes = do
  count ← number 4 0 (most_samples events) bytes
  many (sample_at events) count.0 count.1

unfoldable pub input_at : ℕ → List ℕ → Read CycleInput
input_at events bytes = do
  time ← time_at bytes
  samples ← samples_at events time.1
  Got (record { time = time.0; samples = samples.0 }, samples.1)

abbrev pub phase_of : ℕ → Phase
phase_of n = if n == 0 then phases.Prepare else if n == 1 then phases.Pool else phases.Conclude

-- the greatest pass and the greatest element at which a phase refuses
abbrev pub most_pass : Phase → ℕ
most_pass phases.Prepare = 0
most_pass phases.Pool = 7
most_pass phases.Conclude = 0

abbrev pub most_element : Phase → ℕ
most_element phases.Prepare = 0
most_element phases.Pool = 65535
most_element phases.Conclude = 0

unfoldable pub refusal_at : List ℕ → Read RefusedAtValue
refusal_at bytes = do
  phase ← number 1 0 2 bytes
  pass ← number 1 0 (most_pass (phase_of phase.0)) phase.1
  element ← number 4 0 (most_element (phase_of phase.0)) pass.1
  code ← number 4 0 4294967295 element.1
  Got (
    record {
      phase = phase_of phase.0;
      pass = pass.0;
      element = element.0;
      code = code.0;
    },
    code.1,
  )

-- ---- the frames

-- the rest of an Init frame after its tag and count, where `done` was read and `left` elements are
-- left
unfoldable pub init_from : List (List ℕ) → ℕ → List ℕ → Read Frame
init_from done left bytes = do
  elements ← with_front done (many element_at left bytes)
  Got (frames.Init elements.0, elements.1)

-- the same for a finished run
unfoldable pub finished_from : Format → CycleInput → List DrawnElement → ℕ → List ℕ → Read Frame
finished_from format input done left bytes = do
  elements ← with_front done (many (drawn_at format) left bytes)
  output ← string_at 4 1048576 elements.1
  Got (frames.Run (record { input = input; outcome = Finished elements.0 output.0 }), output.1)

unfoldable pub init_at : List ℕ → Read Frame
init_at bytes = do
  count ← number 4 0 65536 bytes
  init_from [] count.0 count.1

unfoldable pub finished_at : Format → CycleInput → List ℕ → Read Frame
finished_at format input bytes = do
  count ← number 4 0 65536 bytes
  finished_from format input [] count.0 count.1

unfoldable pub refused_at : CycleInput → List ℕ → Read Frame
refused_at input bytes = do
  at ← refusal_at bytes
  Got (frames.Run (record { input = input; outcome = Refused at.0 }), at.1)

unfoldable pub run_at : Layout → List ℕ → Read Frame
run_at layout bytes = do
  input ← input_at layout.events bytes
  flag ← number 1 0 1 input.1
  if flag.0 == 0 then finished_at layout.format input.0 flag.1 else refused_at input.0 flag.1

-- why a tag is refused that may not come in its place
abbrev pub tag_reason : ℕ → Reason
tag_reason b = if nat_le 1 b && nat_le b 5 then Order else Range

-- the frame with this tag, where it may come in the place
unfoldable pub tagged_at : Place → ℕ → List ℕ → Read Frame
tagged_at places.Header b bytes = More
tagged_at (places.Register layout) b bytes =
    if b == 1 then Got (frames.Register, bytes) else Bad (tag_reason b) (length (b ∷ bytes))
tagged_at (places.Discover layout) b bytes =
    if b == 2 then Got (frames.Discover, bytes) else Bad (tag_reason b) (length (b ∷ bytes))
tagged_at (places.Init layout) b bytes =
    if b == 3 then init_at bytes else Bad (tag_reason b) (length (b ∷ bytes))
tagged_at (places.Runs layout before) b bytes =
    if b == 4 then (if nat_lt before 1000000 then run_at layout bytes
    else Bad TooMany (length (b ∷ bytes)))
    else if b == 5 then Got (frames.Terminate, bytes) else Bad (tag_reason b) (length (b ∷ bytes))
tagged_at places.End b bytes = Bad Trailing (length (b ∷ bytes))

-- the frame that may come in a place
unfoldable pub frame_at : Place → List ℕ → Read Frame
frame_at place [] = More
frame_at place (b ∷ bytes) = tagged_at place b bytes

-- the item that may come in a place
unfoldable pub item_at : Place → List ℕ → Read Item
item_at places.Header bytes = do
  p ← profile_at bytes
  Got (items.Header p.0, p.1)
item_at place bytes = do
  f ← frame_at place bytes
  Got (items.Frame f.0, f.1)
