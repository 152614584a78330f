use Rattle.std.proofs.Common.{◌≡◌, ◌≤◌, ℕ, List}
use Rattle.stimulus.specs.declared.stimulus_item.StimulusItem.{StimulusItem}
use Rattle.stimulus.specs.StandsFor.{StandsFor, waiting, room}
use Rattle.stimulus.proofs.parser.StimulusParser.next_cycle.Given as goal

abbrev pub invariant-each_line : goal.invariant-each_line
invariant-each_line l = record {
  events : l.self.events ≡ l.initial.self.events;
  fewer : waiting l.self ≤ waiting l.initial.self;
  room : room l.self ≤ room l.initial.self;
  stands : (bytes : List ℕ) (given : List StimulusItem) → StandsFor l.initial.self bytes given → StandsFor l.self bytes given;
}

abbrev pub decreases-each_line : goal.decreases-each_line
decreases-each_line l = waiting l.self
