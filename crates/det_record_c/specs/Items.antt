-- The items that C's values describe, in a format. Format 1 keeps no draws.
use Rattle.std.specs.Prelude.{ℕ, ℤ, List, map}
use Rattle.det_values.specs.declared.format.Format.{Format}
use Rattle.det_values.specs.declared.format.Format.TheVariants.{One, Two}
use Rattle.det_values.specs.declared.frames.CycleInput.{CycleInput}
use Rattle.det_values.specs.declared.frames.DrawnElement.{DrawnElement}
use Rattle.det_values.specs.declared.frames.Outcome.TheVariants.{Finished}
use Rattle.det_values.specs.declared.frames.Frame.TheVariants as frames
use Rattle.det_values.specs.Values.{ProfileValue}
use Rattle.record_grammar.specs.declared.item.Item.{Item}
use Rattle.record_grammar.specs.declared.item.Item.TheVariants as items
use Rattle.c_types.specs.declared.profile.DetProfile.{DetProfile}
use Rattle.c_types.specs.declared.profile.DetEvent.{DetEvent}
use Rattle.c_types.specs.declared.cycle.DetSample.{DetSample}
use Rattle.c_types.specs.declared.cycle.DetElement.{DetElement}
use Rattle.c_types.specs.declared.cycle.DetTime.{DetTime}
use Rattle.c_types.specs.CValues.{event_of, bytes_of, input_of}

abbrev pub profile_in : Format → DetProfile → List ℤ → List DetEvent → ProfileValue
profile_in format p params events = record {
  format = format;
  job = p.job;
  seed = p.seed;
  cycle_time = p.cycle_time;
  params = params;
  events = map event_of events;
}

abbrev pub header_in : Format → DetProfile → List ℤ → List DetEvent → Item
header_in format profile params events = items.Header (profile_in format profile params events)

-- the draws that a format keeps
abbrev pub draws_in : Format → ℕ → ℕ
draws_in One draws = 0
draws_in Two draws = draws

abbrev pub element_in : Format → List ℕ → ℕ → DrawnElement
element_in format bytes draws = record { bytes = bytes; draws = draws_in format draws }

abbrev pub drawn_in : Format → DetElement → DrawnElement
drawn_in format e = element_in format (bytes_of e) e.draws

-- the item of a cycle with this input that finished with these elements and this output
abbrev pub cycle_in : CycleInput → List DrawnElement → List ℕ → Item
cycle_in input elements output = items.Frame (frames.Run (record {
  input = input;
  outcome = Finished elements output;
}))

abbrev pub finished_in : Format → DetTime → List DetSample → List DetElement → List ℕ → Item
finished_in format time samples elements output =
    cycle_in (input_of time samples) (map (drawn_in format) elements) output
