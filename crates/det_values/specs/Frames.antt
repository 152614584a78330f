-- The part of a frame that each format of a record keeps.
use Rattle.std.specs.Prelude.{List, map}
use Rattle.det_values.specs.declared.format.Format.{Format}
use Rattle.det_values.specs.declared.format.Format.TheVariants.{One, Two}
use Rattle.det_values.specs.declared.frames.DrawnElement.{DrawnElement}
use Rattle.det_values.specs.declared.frames.Outcome.{Outcome}
use Rattle.det_values.specs.declared.frames.Outcome.TheVariants.{Finished, Refused}
use Rattle.det_values.specs.declared.frames.Frame.{Frame}
use Rattle.det_values.specs.declared.frames.Frame.TheVariants.{Register, Discover, Init, Run}
use Rattle.det_values.specs.declared.frames.Frame.TheVariants.{Terminate}

-- an element with its draws set to 0
abbrev pub without_draws : DrawnElement → DrawnElement
without_draws e = record { bytes = e.bytes; draws = 0 }

abbrev pub all_without_draws : List DrawnElement → List DrawnElement
all_without_draws es = map without_draws es

-- format One has no draws, so all of them are 0; format Two keeps them
abbrev pub outcome_in_format : Format → Outcome → Outcome
outcome_in_format One (Finished elements output) = Finished (all_without_draws elements) output
outcome_in_format One (Refused at) = Refused at
outcome_in_format Two outcome = outcome

abbrev pub in_format : Format → Frame → Frame
in_format format (Run r) = Run (record {
  input = r.input;
  outcome = outcome_in_format format r.outcome;
})
in_format format Register = Register
in_format format Discover = Discover
in_format format (Init elements) = Init elements
in_format format Terminate = Terminate
