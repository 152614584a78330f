use Rattle.std.proofs.Common.{◌-◌, length}
use Rattle.twin_cli.specs.TextInputs.{IsBehind}
use Rattle.twin_cli.proofs.inputs.inputs_of.Given as goal

abbrev pub invariant-inputs : goal.invariant-inputs
invariant-inputs l = IsBehind l.fn.text l.events l.source l.inputs

abbrev pub decreases-inputs : goal.decreases-inputs
decreases-inputs l = 1000000 - length l.inputs
