use Rattle.std.proofs.Common.{◌≡◌, List, [], ◌++◌, drop, length}
use Rattle.std.specs.List.{count_by}
use Rattle.det_io.specs.Shelf.{ShelfState}
use Rattle.cmd_records.specs.declared.voter.voter_rows.Voter.{Voter}
use Rattle.cmd_records.specs.voter.Rows.{AreVoters, is_in_step}
use Rattle.cmd_records.proofs.voter.voter_rows.voters_at.Given as goal

abbrev pub invariant-slots : goal.invariant-slots
invariant-slots l = record {
  voters : (state : ShelfState) (tail : List Voter) → AreVoters state state [] (drop l.slot-index l.slots) tail
      → AreVoters state state [] l.slots (l.voters.items ++ tail);
  all : count_by is_in_step l.voters.items ≡ l.slot-index;
  count : length l.voters.items ≡ l.slot-index;
}
