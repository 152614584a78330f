use Rattle.std.proofs.Common.{◌<◌}
use Rattle.record_reader.specs.item_reader.StandsFor.{slot_of}
use Rattle.hints_on_files.proofs.records.fault_hint.Given as goal

-- the reader's slot is one of the shelf's
abbrev pub invariant-loop-items : goal.invariant-loop-items
invariant-loop-items g l = slot_of l.reader < (g.S.Slots.sees l.shelf).slots
