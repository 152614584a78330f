use Rattle.std.proofs.Common.{◌≡◌, ◌<◌, ℕ, List, None, false, get_or}
use Rattle.std.specs.Prelude.{Option}
use Rattle.record_grammar.specs.declared.place.Place.{Place}
use Rattle.copies.specs.declared.row.Row.{Row}
use Rattle.cmd_records.specs.voter.Rows.{is_held, AreHeld}
use Rattle.cmd_records.proofs.voter.majority.majority_holders.Given as goal

abbrev pub invariant-voters : goal.invariant-voters
invariant-voters l = (place : Place) (more : List (Option Row)) → AreHeld place l.voters more → (k : ℕ) → k < l.first
    → is_held more (get_or more k None) ≡ false
