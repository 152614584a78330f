use Rattle.std.proofs.Common.{◌<◌}
use Rattle.hints_on_files.proofs.stimuli.stimulus_hint.Given as goal

-- the slot is one of the shelf's
abbrev pub invariant-loop-number : goal.invariant-loop-number
invariant-loop-number g l = l.slot < (g.S.Slots.sees l.shelf).slots
