use Rattle.std.proofs.Common.{◌≡◌, ◌≤◌, ℕ, List}
use Rattle.det_values.specs.declared.frames.CycleInput.{CycleInput}
use Rattle.stimulus.specs.StandsFor.{waiting}
use Rattle.stimulus.specs.slot_reader.StandsFor.{StandsFor, slot_of, events_of}
use Rattle.stimulus.specs.slot_reader.Steps.{room}
use Rattle.stimulus.proofs.slot_reader.stimulus_reader.StimulusReader.next_fed_input.Given as goal

abbrev pub invariant-items : goal.invariant-items
invariant-items l = record {
  stands : (read : List ℕ) (given : List CycleInput) → StandsFor l.initial.self read given → StandsFor l.self read given;
  room : room l.self ≤ room l.initial.self;
  slot : slot_of l.self ≡ slot_of l.initial.self;
  events : events_of l.self ≡ events_of l.initial.self;
}

abbrev pub decreases-items : goal.decreases-items
decreases-items l = waiting l.self.text
