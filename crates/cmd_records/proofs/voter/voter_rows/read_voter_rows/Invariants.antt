use Rattle.std.proofs.Common.{◌≡◌, ℕ, List, length, map, None}
use Rattle.det_io.specs.Shelf.{ShelfState}
use Rattle.det_io.specs.Traffic.{ShelfTraffic, shelf_run}
use Rattle.record_grammar.specs.declared.item.Item.{Item}
use Rattle.copies.specs.CompareCopies.{AreDifferent, ReadsAmong}
use Rattle.copies.specs.Needed.{AllNeeded}
use Rattle.cmd_records.specs.voter.Rows.{AreVoters, voter_slot}
use Rattle.cmd_records.proofs.lemmas.voter.InTurn.{HaveRows}
use Rattle.cmd_records.proofs.voter.voter_rows.read_voter_rows.Given as goal

abbrev pub invariant-voters : goal.invariant-voters
invariant-voters g l = record {
  have : (first : ShelfState) (given : List Item) (slots : List ℕ) → AreDifferent slots
      → AreVoters first (g.S.Slots.sees l.fn.shelf) given slots l.fn.voters.items
      → HaveRows l.index first (g.S.Slots.sees l.shelf) given slots l.voters.items;
  needed : (first : ShelfState) (given : List Item) (slots : List ℕ) → AreDifferent slots
      → AreVoters first (g.S.Slots.sees l.fn.shelf) given slots l.fn.voters.items
      → AllNeeded first (g.S.Slots.sees l.shelf) (length given) slots;
  all : length l.voters.items ≡ length l.fn.voters.items;
  slots : map voter_slot l.voters.items ≡ map voter_slot l.fn.voters.items;
  reads : ReadsAmong (g.S.Slots.sees l.fn.shelf) (g.S.Slots.sees l.shelf) (map voter_slot l.fn.voters.items);
  traffic : ShelfTraffic (shelf_run g.S.Slots.sees g.S.Slots.stays l.fn.shelf l.shelf) None;
}
