use Rattle.std.proofs.Common.{◌≡◌, length}
use Rattle.cmd_records.proofs.lemmas.voter.Parting.{parted_to}
use Rattle.cmd_records.proofs.voter.majority.mark_leavers.Given as goal

abbrev pub invariant-voters : goal.invariant-voters
invariant-voters l = record {
  voters_after : l.voters.items ≡ parted_to l.at l.number l.same l.fn.voters.items;
  all : length l.voters.items ≡ length l.fn.voters.items;
}
