use Rattle.std.proofs.Common.{◌≡◌, take}
use Rattle.cmd_records.specs.voter.VotersState.{dissenters}
use Rattle.cmd_records.proofs.voter.voters.dissent_of.Given as goal

abbrev pub invariant-voters : goal.invariant-voters
invariant-voters l = l.dissent ≡ dissenters 0 (take l.index l.voters)
