use Rattle.std.proofs.Common.{◌≡◌, ◌≤◌, List, None, length, map, take, get_or}
use Rattle.std.specs.Prelude.{Option}
use Rattle.std.specs.List.{count_by}
use Rattle.record_grammar.specs.declared.place.Place.{Place}
use Rattle.copies.specs.declared.row.Row.{Row}
use Rattle.cmd_records.specs.voter.Rows.{same_row, AreHeld}
use Rattle.cmd_records.proofs.voter.majority.holders_of.Given as goal

abbrev pub invariant-voters : goal.invariant-voters
invariant-voters l = record {
  same : (place : Place) (more : List (Option Row)) → AreHeld place l.voters more
      → take l.at l.same ≡ map (same_row (get_or more l.first None)) (take l.at more);
  count : (place : Place) (more : List (Option Row)) → AreHeld place l.voters more
      → l.count ≡ count_by (same_row (get_or more l.first None)) (take l.at more);
  few : l.count ≤ l.at;
  seven : length l.same ≡ 7;
}
