use Rattle.cmd_records.specs.vote_command.Vote.{dissenter_line}
use Rattle.record_text.proofs.Appending.{HasPut}
use Rattle.cmd_records.proofs.vote_command.text.put_dissenters.Given as goal

abbrev pub invariant-dissenters : goal.invariant-dissenters
invariant-dissenters l = HasPut dissenter_line l.dissenters l.dissenter-index l.initial.out.items l.out.items
