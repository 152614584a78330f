-- The values that C passes, as the values that a record holds.
use Rattle.std.specs.Prelude.{ℕ, List, map, take, Option, None, Some, if◌then◌else◌}
use Rattle.det_values.specs.declared.frames.CycleInput.{CycleInput}
use Rattle.det_values.specs.declared.frames.DrawnElement.{DrawnElement}
use Rattle.det_values.specs.declared.frames.Outcome.{Outcome}
use Rattle.det_values.specs.declared.frames.Outcome.TheVariants.{Refused}
use Rattle.det_values.specs.declared.frames.Frame.TheVariants as frames
use Rattle.det_values.specs.Values.{SampleValue, EventSpecValue, RefusedAtValue}
use Rattle.record_grammar.specs.declared.item.Item.{Item}
use Rattle.record_grammar.specs.declared.item.Item.TheVariants as items
use Rattle.record_grammar.specs.Grammar.{policy_of, phase_of}
use Rattle.c_types.specs.declared.profile.DetEvent.{DetEvent}
use Rattle.c_types.specs.declared.cycle.DetSample.{DetSample}
use Rattle.c_types.specs.declared.cycle.DetElement.{DetElement}
use Rattle.c_types.specs.declared.cycle.DetTime.{DetTime}
use Rattle.c_types.specs.declared.cycle.DetRefusal.{DetRefusal}
use Rattle.c_types.specs.declared.text.DetText.{DetText}

abbrev pub sample_of : DetSample → SampleValue
sample_of s = record { event = s.event; value = s.value }

abbrev pub bytes_of : DetElement → List ℕ
bytes_of e = take e.len e.bytes

abbrev pub drawn_of : DetElement → DrawnElement
drawn_of e = record { bytes = bytes_of e; draws = e.draws }

abbrev pub event_of : DetEvent → EventSpecValue
event_of e = record {
  capacity = e.capacity;
  name = take e.len e.name;
  policy = policy_of e.policy;
}

abbrev pub time_of : DetTime → Option ℕ
time_of t = if t.known then Some t.time else None

abbrev pub input_of : DetTime → List DetSample → CycleInput
input_of time samples = record { time = time_of time; samples = map sample_of samples }

abbrev pub place_of_refusal : DetRefusal → RefusedAtValue
place_of_refusal r = record {
  phase = phase_of r.phase;
  pass = r.pass;
  element = r.element;
  code = r.code;
}

-- ---- the parts of a record

abbrev pub init_of : List DetElement → Item
init_of elements = items.Frame (frames.Init (map bytes_of elements))

abbrev pub cycle_of : DetTime → List DetSample → Outcome → Item
cycle_of time samples outcome = items.Frame (frames.Run (record {
  input = input_of time samples;
  outcome = outcome;
}))

abbrev pub refused_of : DetTime → List DetSample → DetRefusal → Item
refused_of time samples refusal = cycle_of time samples (Refused (place_of_refusal refusal))

-- ---- texts

abbrev pub text_of : DetText → List ℕ
text_of t = take t.len t.bytes
