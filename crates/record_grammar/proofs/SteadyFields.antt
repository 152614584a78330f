-- Each reader of the grammar is steady.
use Rattle.std.proofs.Common.{◌≡◌, ℕ, suc, ◌-◌, Bool, cond, List, [], ◌∷◌, ◌++◌, length, Some, None, refl, ltb, eqb}
use Rattle.std.specs.Int.{w64, cast_signed}
use Rattle.det_values.specs.declared.format.Format.{Format}
use Rattle.det_values.specs.declared.format.Format.TheVariants.{One, Two}
use Rattle.det_values.specs.declared.event.Policy.TheVariants.{Last}
use Rattle.det_values.specs.declared.frames.CycleInput.{CycleInput}
use Rattle.det_values.specs.declared.frames.DrawnElement.{DrawnElement}
use Rattle.det_values.specs.declared.frames.Outcome.TheVariants.{Finished, Refused}
use Rattle.det_values.specs.declared.frames.Frame.{Frame}
use Rattle.det_values.specs.declared.frames.Frame.TheVariants as frames
use Rattle.det_values.specs.Values.{ProfileValue}
use Rattle.det_values.specs.Limits.{allowed_in_name}
use Rattle.record_grammar.specs.declared.record_fault.Reason.{Reason}
use Rattle.record_grammar.specs.declared.record_fault.Reason.TheVariants.{Magic, Version, Range, TooMany, Trailing}
use Rattle.record_grammar.specs.declared.limits.Limits.TheVariants.{Between, Around}
use Rattle.record_grammar.specs.declared.place.Layout.{Layout}
use Rattle.record_grammar.specs.declared.place.Place.{Place}
use Rattle.record_grammar.specs.declared.place.Place.TheVariants as places
use Rattle.record_grammar.specs.declared.item.Item.TheVariants as items
use Rattle.record_grammar.specs.Read.{Read, Got, More, Bad, ◌>>=◌, raw_at, many, with_front}
use Rattle.record_grammar.specs.Numbers.{number, number_from}
use Rattle.record_grammar.specs.Grammar.{signed_at, sample_value_at, string_at, exactly_at, magic_at, format_at, version_at, name_byte_at}
use Rattle.record_grammar.specs.Grammar.{name_at, policy_of, policy_at, event_at, params_at, events_at, profile_at, element_at, drawn_at}
use Rattle.record_grammar.specs.Grammar.{time_at, sample_at, most_samples, samples_at, input_at, phase_of, most_pass, most_element}
use Rattle.record_grammar.specs.Grammar.{refusal_at, init_from, finished_from, init_at, finished_at, refused_at, run_at, tag_reason}
use Rattle.record_grammar.specs.Grammar.{tagged_at, frame_at, item_at}
use Rattle.record_grammar.proofs.Steady.{IsSteady, steady_same, steady_give, steady_refuse, steady_then, steady_if, steady_wider, by_first}
use Rattle.record_grammar.proofs.Steady.{steady_first, steady_number, steady_raw, steady_many}

pub number_steady : (width least most : ℕ) → IsSteady 0 (number width least most)
number_steady width least most = steady_number (Between least most) width 0

pub signed_steady : IsSteady 0 signed_at
unfolding signed_at
signed_steady =
    steady_then 0 (number 8 0 18446744073709551615) (λ n bytes. Got (cast_signed w64 n, bytes)) (number_steady 8 0 18446744073709551615)
    (λ n.
    steady_give 0 (cast_signed w64 n))

pub sample_value_steady : IsSteady 0 sample_value_at
unfolding sample_value_at
sample_value_steady =
    steady_then 0 (number_from (Around 1000000000000) 8 0) (λ n bytes. Got (cast_signed w64 n, bytes))
    (steady_number (Around 1000000000000) 8 0) (λ n.
    steady_give 0 (cast_signed w64 n))

pub string_steady : (width most : ℕ) → IsSteady 0 (string_at width most)
unfolding string_at
string_steady width most = steady_then 0 (number width 0 most) raw_at (number_steady width 0 most) steady_raw

-- ---- the header

-- a value behind a first byte that passes a test, or else this reason
pub tested_steady : {A : Type 0} (passes : Bool) (a : A) (why : Reason)
    → IsSteady 1 (λ bytes. cond passes (Got (a, bytes)) (Bad why (suc (length bytes))))
tested_steady passes a why =
    steady_if 1 passes (λ bytes. Got (a, bytes)) (λ bytes. Bad why (suc (length bytes))) (steady_give 1 a) (steady_refuse why)

abbrev exactly_by : Reason → ℕ → ℕ → List ℕ → Read ℕ
exactly_by reason expected b bytes = cond (eqb b expected) (Got (expected, bytes)) (Bad reason (suc (length bytes)))

exactly_same : (reason : Reason) (expected : ℕ) (bytes : List ℕ) → exactly_at reason expected bytes
    ≡ by_first (exactly_by reason expected) bytes
exactly_same reason expected [] = refl
exactly_same reason expected (b ∷ bytes) = refl

pub exactly_steady : (reason : Reason) (expected : ℕ) → IsSteady 0 (exactly_at reason expected)
exactly_steady reason expected =
    steady_same 0 (exactly_at reason expected) (by_first (exactly_by reason expected)) (exactly_same reason expected)
    (steady_first (exactly_by reason expected) (λ b. tested_steady (eqb b expected) expected reason))

-- what comes after the first byte of the magic
abbrev pub after_first : ℕ → List ℕ → Read ℕ
after_first d bytes =
    exactly_at Magic 69 bytes >>= λ e. exactly_at Magic 84 e.1 >>= λ t. exactly_at Magic 82 t.1 >>= λ r. exactly_at Magic 69 r.1 >>= λ f.
    exactly_at Magic 67 f.1

pub after_first_steady : (d : ℕ) → IsSteady 0 (after_first d)
after_first_steady d =
    steady_then 0 (exactly_at Magic 69) (λ e bytes. exactly_at Magic 84 bytes >>= λ t. exactly_at Magic 82 t.1 >>= λ r.
    exactly_at Magic 69 r.1 >>= λ f. exactly_at Magic 67 f.1) (exactly_steady Magic 69) (λ e.
    steady_then 0 (exactly_at Magic 84) (λ t bytes. exactly_at Magic 82 bytes >>= λ r. exactly_at Magic 69 r.1 >>= λ f.
    exactly_at Magic 67 f.1) (exactly_steady Magic 84) (λ t.
    steady_then 0 (exactly_at Magic 82) (λ r bytes. exactly_at Magic 69 bytes >>= λ f. exactly_at Magic 67 f.1) (exactly_steady Magic 82)
    (λ r.
    steady_then 0 (exactly_at Magic 69) (λ f bytes. exactly_at Magic 67 bytes) (exactly_steady Magic 69) (λ f. exactly_steady Magic 67))))

pub magic_steady : IsSteady 0 magic_at
unfolding magic_at
magic_steady = steady_then 0 (exactly_at Magic 68) after_first (exactly_steady Magic 68) after_first_steady

abbrev pub format_by : ℕ → List ℕ → Read Format
format_by b bytes = cond (eqb b 1) (Got (One, bytes)) (cond (eqb b 2) (Got (Two, bytes)) (Bad Version (suc (length bytes))))

pub format_same : (bytes : List ℕ) → format_at bytes ≡ by_first format_by bytes
unfolding format_at
format_same [] = refl
format_same (b ∷ bytes) = refl

pub format_steady : IsSteady 0 format_at
format_steady =
    steady_same 0 format_at (by_first format_by) format_same (steady_first format_by (λ b.
    steady_if 1 (eqb b 1) (λ bytes. Got (One, bytes)) (λ bytes. cond (eqb b 2) (Got (Two, bytes)) (Bad Version (suc (length bytes))))
    (steady_give 1 One)
    (tested_steady (eqb b 2) Two Version)))

pub version_steady : IsSteady 0 version_at
unfolding version_at
version_steady =
    steady_then 0 (exactly_at Version 0) (λ high bytes. format_at bytes) (exactly_steady Version 0) (λ high.
    format_steady)

abbrev pub name_byte_by : ℕ → List ℕ → Read ℕ
name_byte_by b bytes = cond (allowed_in_name b) (Got (b, bytes)) (Bad Range (suc (length bytes)))

pub name_byte_same : (bytes : List ℕ) → name_byte_at bytes ≡ by_first name_byte_by bytes
unfolding name_byte_at
name_byte_same [] = refl
name_byte_same (b ∷ bytes) = refl

pub name_byte_steady : IsSteady 0 name_byte_at
name_byte_steady =
    steady_same 0 name_byte_at (by_first name_byte_by) name_byte_same
    (steady_first name_byte_by (λ b. tested_steady (allowed_in_name b) b Range))

pub name_steady : IsSteady 0 name_at
unfolding name_at
name_steady =
    steady_then 0 (number 1 1 32) (λ count bytes. many name_byte_at count bytes) (number_steady 1 1 32) (λ count.
    steady_many name_byte_at name_byte_steady count)

pub policy_steady : (format : Format) → IsSteady 0 (policy_at format)
unfolding policy_at
policy_steady One = steady_give 0 Last
policy_steady Two =
    steady_then 0 (number 1 0 1) (λ n bytes. Got (policy_of n, bytes)) (number_steady 1 0 1) (λ n. steady_give 0 (policy_of n))

pub event_steady : (format : Format) → IsSteady 0 (event_at format)
unfolding event_at
event_steady format =
    steady_then 0 (number 2 1 1024) (λ capacity bytes. name_at bytes >>= λ name. policy_at format name.1 >>= λ policy.
    Got (record { capacity = capacity; name = name.0; policy = policy.0 }, policy.1)) (number_steady 2 1 1024) (λ capacity.
    steady_then 0 (name_at) (λ name bytes. policy_at format bytes >>= λ policy.
    Got (record { capacity = capacity; name = name; policy = policy.0 }, policy.1)) (name_steady) (λ name.
    steady_then 0 (policy_at format) (λ policy bytes. Got (record { capacity = capacity; name = name; policy = policy }, bytes))
    (policy_steady format) (λ policy.
    steady_give 0 (record { capacity = capacity; name = name; policy = policy }))))

pub params_steady : IsSteady 0 params_at
unfolding params_at
params_steady =
    steady_then 0 (number 2 0 16) (λ count bytes. many signed_at count bytes) (number_steady 2 0 16) (λ count.
    steady_many signed_at signed_steady count)

pub events_steady : (format : Format) → IsSteady 0 (events_at format)
unfolding events_at
events_steady format =
    steady_then 0 (number 2 0 256) (λ count bytes. many (event_at format) count bytes) (number_steady 2 0 256) (λ count.
    steady_many (event_at format) (event_steady format) count)

-- what comes after the magic
abbrev pub behind_magic : ℕ → List ℕ → Read ProfileValue
behind_magic magic bytes =
    version_at bytes >>= λ format. number 2 0 65535 format.1 >>= λ job. number 8 0 18446744073709551615 job.1 >>= λ seed.
    number 8 1 9223372036854775807 seed.1 >>= λ cycle. params_at cycle.1 >>= λ params. events_at format.0 params.1 >>= λ events.
    Got (record { format = format.0; job = job.0; seed = seed.0; cycle_time = cycle.0; params = params.0; events = events.0 }, events.1)

pub behind_magic_steady : (magic : ℕ) → IsSteady 0 (behind_magic magic)
behind_magic_steady magic =
    steady_then 0 (version_at) (λ format bytes. number 2 0 65535 bytes >>= λ job. number 8 0 18446744073709551615 job.1 >>= λ seed.
    number 8 1 9223372036854775807 seed.1 >>= λ cycle. params_at cycle.1 >>= λ params. events_at format params.1 >>= λ events.
    Got (record { format = format; job = job.0; seed = seed.0; cycle_time = cycle.0; params = params.0; events = events.0 }, events.1))
    (version_steady) (λ format.
    steady_then 0 (number 2 0 65535) (λ job bytes. number 8 0 18446744073709551615 bytes >>= λ seed.
    number 8 1 9223372036854775807 seed.1 >>= λ cycle. params_at cycle.1 >>= λ params. events_at format params.1 >>= λ events.
    Got (record { format = format; job = job; seed = seed.0; cycle_time = cycle.0; params = params.0; events = events.0 }, events.1))
    (number_steady 2 0 65535) (λ job.
    steady_then 0 (number 8 0 18446744073709551615) (λ seed bytes. number 8 1 9223372036854775807 bytes >>= λ cycle.
    params_at cycle.1 >>= λ params. events_at format params.1 >>= λ events.
    Got (record { format = format; job = job; seed = seed; cycle_time = cycle.0; params = params.0; events = events.0 }, events.1))
    (number_steady 8 0 18446744073709551615) (λ seed.
    steady_then 0 (number 8 1 9223372036854775807) (λ cycle bytes. params_at bytes >>= λ params. events_at format params.1 >>= λ events.
    Got (record { format = format; job = job; seed = seed; cycle_time = cycle; params = params.0; events = events.0 }, events.1))
    (number_steady 8 1 9223372036854775807) (λ cycle.
    steady_then 0 (params_at) (λ params bytes. events_at format bytes >>= λ events.
    Got (record { format = format; job = job; seed = seed; cycle_time = cycle; params = params; events = events.0 }, events.1))
    (params_steady) (λ params.
    steady_then 0 (events_at format) (λ events bytes. Got (
      record {
        format = format;
        job = job;
        seed = seed;
        cycle_time = cycle;
        params = params;
        events = events;
      },
      bytes,
    )) (events_steady format) (λ events.
    steady_give 0 (record { format = format; job = job; seed = seed; cycle_time = cycle; params = params; events = events })))))))

pub profile_is : (bytes : List ℕ) → profile_at bytes ≡ (magic_at bytes >>= λ magic. behind_magic magic.0 magic.1)
unfolding profile_at
profile_is bytes = refl

pub profile_steady : IsSteady 0 profile_at
profile_steady =
    steady_same 0 profile_at (λ bytes. magic_at bytes >>= λ magic. behind_magic magic.0 magic.1) profile_is
    (steady_then 0 magic_at behind_magic magic_steady behind_magic_steady)

-- ---- the parts of frames

pub element_steady : IsSteady 0 element_at
element_steady = string_steady 2 64

pub drawn_steady : (format : Format) → IsSteady 0 (drawn_at format)
unfolding drawn_at
drawn_steady One =
    steady_then 0 element_at (λ e bytes. Got (record { bytes = e; draws = 0 }, bytes)) element_steady
    (λ e. steady_give 0 (record { bytes = e; draws = 0 }))
drawn_steady Two =
    steady_then 0 element_at (λ e bytes. number 4 0 4294967295 bytes >>= λ d. Got (record { bytes = e; draws = d.0 }, d.1)) element_steady
    (λ e.
    steady_then 0 (number 4 0 4294967295) (λ d bytes. Got (record { bytes = e; draws = d }, bytes)) (number_steady 4 0 4294967295)
    (λ d. steady_give 0 (record { bytes = e; draws = d })))

pub time_steady : IsSteady 0 time_at
unfolding time_at
time_steady =
    steady_then 0 (number 1 0 1) (λ flag bytes. cond (eqb flag 0) (Got (None, bytes))
    (number 8 0 18446744073709551615 bytes >>= λ t. Got (Some t.0, t.1))) (number_steady 1 0 1) (λ flag.
    steady_if 0 (eqb flag 0) (λ bytes. Got (None, bytes)) (λ bytes. number 8 0 18446744073709551615 bytes >>= λ t. Got (Some t.0, t.1))
    (steady_give 0 None)
    (steady_then 0 (number 8 0 18446744073709551615) (λ t bytes. Got (Some t, bytes)) (number_steady 8 0 18446744073709551615)
    (λ t. steady_give 0 (Some t))))

pub sample_steady : (events : ℕ) → IsSteady 0 (sample_at events)
unfolding sample_at
sample_steady events =
    steady_then 0 (number 2 0 (events - 1)) (λ event bytes. sample_value_at bytes >>= λ value.
    Got (record { event = event; value = value.0 }, value.1)) (number_steady 2 0 (events - 1)) (λ event.
    steady_then 0 (sample_value_at) (λ value bytes. Got (record { event = event; value = value }, bytes)) (sample_value_steady) (λ value.
    steady_give 0 (record { event = event; value = value })))

pub samples_steady : (events : ℕ) → IsSteady 0 (samples_at events)
unfolding samples_at
samples_steady events =
    steady_then 0 (number 4 0 (most_samples events)) (λ count bytes. many (sample_at events) count bytes)
    (number_steady 4 0 (most_samples events)) (λ count.
    steady_many (sample_at events) (sample_steady events) count)

pub input_steady : (events : ℕ) → IsSteady 0 (input_at events)
unfolding input_at
input_steady events =
    steady_then 0 (time_at) (λ time bytes. samples_at events bytes >>= λ samples.
    Got (record { time = time; samples = samples.0 }, samples.1)) (time_steady) (λ time.
    steady_then 0 (samples_at events) (λ samples bytes. Got (record { time = time; samples = samples }, bytes)) (samples_steady events)
    (λ samples.
    steady_give 0 (record { time = time; samples = samples })))

pub refusal_steady : IsSteady 0 refusal_at
unfolding refusal_at
refusal_steady =
    steady_then 0 (number 1 0 2) (λ phase bytes. number 1 0 (most_pass (phase_of phase)) bytes >>= λ pass.
    number 4 0 (most_element (phase_of phase)) pass.1 >>= λ element. number 4 0 4294967295 element.1 >>= λ code.
    Got (record { phase = phase_of phase; pass = pass.0; element = element.0; code = code.0 }, code.1)) (number_steady 1 0 2) (λ phase.
    steady_then 0 (number 1 0 (most_pass (phase_of phase))) (λ pass bytes. number 4 0 (most_element (phase_of phase)) bytes >>= λ element.
    number 4 0 4294967295 element.1 >>= λ code. Got (
      record { phase = phase_of phase; pass = pass; element = element.0; code = code.0 },
      code.1,
    )) (number_steady 1 0 (most_pass (phase_of phase))) (λ pass.
    steady_then 0 (number 4 0 (most_element (phase_of phase))) (λ element bytes. number 4 0 4294967295 bytes >>= λ code.
    Got (record { phase = phase_of phase; pass = pass; element = element; code = code.0 }, code.1))
    (number_steady 4 0 (most_element (phase_of phase))) (λ element.
    steady_then 0 (number 4 0 4294967295) (λ code bytes. Got (
      record {
        phase = phase_of phase;
        pass = pass;
        element = element;
        code = code;
      },
      bytes,
    )) (number_steady 4 0 4294967295) (λ code.
    steady_give 0 (record { phase = phase_of phase; pass = pass; element = element; code = code })))))

-- ---- the frames

front_steady : {A : Type 0} (item : List ℕ → Read A) → IsSteady 0 item → (front : List A) (n : ℕ)
    → IsSteady 0 (λ bytes. with_front front (many item n bytes))
front_steady item h front n =
    steady_then 0 (many item n) (λ xs bytes. Got (front ++ xs, bytes)) (steady_many item h n) (λ xs. steady_give 0 (front ++ xs))

pub init_from_steady : (done : List (List ℕ)) (left : ℕ) → IsSteady 0 (init_from done left)
unfolding init_from
init_from_steady done left =
    steady_then 0 (λ bytes. with_front done (many element_at left bytes)) (λ es bytes. Got (frames.Init es, bytes))
    (front_steady element_at element_steady done left) (λ es. steady_give 0 (frames.Init es))

abbrev pub finished : CycleInput → List DrawnElement → List ℕ → Frame
finished input elements output = frames.Run (record { input = input; outcome = Finished elements output })

pub finished_from_steady : (format : Format) (input : CycleInput) (done : List DrawnElement) (left : ℕ)
    → IsSteady 0 (finished_from format input done left)
unfolding finished_from
finished_from_steady format input done left =
    steady_then 0 (λ bytes. with_front done (many (drawn_at format) left bytes))
    (λ es bytes. string_at 4 1048576 bytes >>= λ out. Got (finished input es out.0, out.1))
    (front_steady (drawn_at format) (drawn_steady format) done left) (λ es.
    steady_then 0 (string_at 4 1048576) (λ out bytes. Got (finished input es out, bytes)) (string_steady 4 1048576)
    (λ out. steady_give 0 (finished input es out)))

pub init_steady : IsSteady 0 init_at
unfolding init_at
init_steady =
    steady_then 0 (number 4 0 65536) (λ count bytes. init_from [] count bytes) (number_steady 4 0 65536)
    (λ count. init_from_steady [] count)

pub finished_steady : (format : Format) (input : CycleInput) → IsSteady 0 (finished_at format input)
unfolding finished_at
finished_steady format input =
    steady_then 0 (number 4 0 65536) (λ count bytes. finished_from format input [] count bytes) (number_steady 4 0 65536)
    (λ count. finished_from_steady format input [] count)

pub refused_steady : (input : CycleInput) → IsSteady 0 (refused_at input)
unfolding refused_at
refused_steady input =
    steady_then 0 refusal_at (λ at bytes. Got (frames.Run (record { input = input; outcome = Refused at }), bytes)) refusal_steady
    (λ at. steady_give 0 (frames.Run (record { input = input; outcome = Refused at })))

pub run_steady : (layout : Layout) → IsSteady 0 (run_at layout)
unfolding run_at
run_steady layout =
    steady_then 0 (input_at layout.events) (λ input bytes. number 1 0 1 bytes >>= λ flag.
    cond (eqb flag.0 0) (finished_at layout.format input flag.1) (refused_at input flag.1)) (input_steady layout.events) (λ input.
    steady_then 0 (number 1 0 1) (λ flag bytes. cond (eqb flag 0) (finished_at layout.format input bytes) (refused_at input bytes))
    (number_steady 1 0 1) (λ flag.
    steady_if 0 (eqb flag 0) (finished_at layout.format input) (refused_at input) (finished_steady layout.format input)
    (refused_steady input)))

steady_more : {A : Type 0} → IsSteady {A = A} 1 (λ bytes. More)
steady_more =
    record {
      got = λ bytes tail x e. absurd cc;
      bad = λ bytes tail reason left e. absurd cc;
      rest = λ bytes x e. absurd cc;
      within = λ bytes reason left e. absurd cc;
    }

pub tagged_steady : (place : Place) (b : ℕ) → IsSteady 1 (tagged_at place b)
unfolding tagged_at
tagged_steady places.Header b = steady_more
tagged_steady (places.Register layout) b = tested_steady (eqb b 1) frames.Register (tag_reason b)
tagged_steady (places.Discover layout) b = tested_steady (eqb b 2) frames.Discover (tag_reason b)
tagged_steady (places.Init layout) b =
    steady_if 1 (eqb b 3) init_at (λ bytes. Bad (tag_reason b) (suc (length bytes))) (steady_wider init_at init_steady)
    (steady_refuse (tag_reason b))
tagged_steady (places.Runs layout before) b =
    steady_if 1 (eqb b 4) (λ bytes. cond (ltb before 1000000) (run_at layout bytes) (Bad TooMany (suc (length bytes))))
    (λ bytes. cond (eqb b 5) (Got (frames.Terminate, bytes)) (Bad (tag_reason b) (suc (length bytes))))
    (steady_if 1 (ltb before 1000000) (run_at layout) (λ bytes. Bad TooMany (suc (length bytes)))
    (steady_wider (run_at layout) (run_steady layout)) (steady_refuse TooMany))
    (tested_steady (eqb b 5) frames.Terminate (tag_reason b))
tagged_steady places.End b = steady_refuse Trailing

pub frame_same : (place : Place) (bytes : List ℕ) → frame_at place bytes ≡ by_first (tagged_at place) bytes
unfolding frame_at
frame_same place [] = refl
frame_same place (b ∷ bytes) = refl

pub frame_steady : (place : Place) → IsSteady 0 (frame_at place)
frame_steady place =
    steady_same 0 (frame_at place) (by_first (tagged_at place)) (frame_same place) (steady_first (tagged_at place) (tagged_steady place))

-- ---- the items

pub framed_steady : (r : List ℕ → Read Frame) → IsSteady 0 r → IsSteady 0 (λ bytes. r bytes >>= λ f. Got (items.Frame f.0, f.1))
framed_steady r h = steady_then 0 r (λ f bytes. Got (items.Frame f, bytes)) h (λ f. steady_give 0 (items.Frame f))

pub item_steady : (place : Place) → IsSteady 0 (item_at place)
unfolding item_at
item_steady places.Header =
    steady_then 0 profile_at (λ p bytes. Got (items.Header p, bytes)) profile_steady (λ p. steady_give 0 (items.Header p))
item_steady (places.Register layout) = framed_steady (frame_at (places.Register layout)) (frame_steady (places.Register layout))
item_steady (places.Discover layout) = framed_steady (frame_at (places.Discover layout)) (frame_steady (places.Discover layout))
item_steady (places.Init layout) = framed_steady (frame_at (places.Init layout)) (frame_steady (places.Init layout))
item_steady (places.Runs layout before) = framed_steady (frame_at (places.Runs layout before)) (frame_steady (places.Runs layout before))
item_steady places.End = framed_steady (frame_at places.End) (frame_steady places.End)
