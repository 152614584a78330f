use Rattle.std.proofs.Common.{sym, ap, ◌∙◌}
use Rattle.std.specs.Prelude.{Some}
use Rattle.lane.specs.declared.lane_command.LaneCommand.{LaneCommand}
use Rattle.lane.specs.Words.{command_value}
use Rattle.lane.proofs.LaneMeets.{runs-lane, runs-text}
use Rattle.lane.proofs.lane_program.run_command.Goals as goal

pub returns-in-Some-Text : goal.returns-in-Some-Text
returns-in-Some-Text g c =
    runs-text _ _ _ (sym (c.as_bytes.ensures.value ∙ c.text_of.ensures))
    (ap (λ (l : LaneCommand). Some (command_value l)) (sym c.in-Some-Text.field-0-is) ∙ c.in-Some-Text.ensures)
    c.requires c.print_lane_text.ensures.meets c.print_lane_text.ensures.words

pub returns-in-Some-Run : goal.returns-in-Some-Run
returns-in-Some-Run g c =
    runs-lane c.compare_children-found.ensures c.print_lane_verdict.ensures.meets _
    (ap (λ (l : LaneCommand). Some (command_value l)) (sym c.in-Some-Run.field-0-is) ∙ c.in-Some-Run.ensures)
    c.print_lane_verdict.ensures.words
