use Rattle.std.proofs.Common.{◌≡◌, Some, rules, subst}
use Rattle.std.specs.Prelude.{Option}
use Rattle.cmd_records.specs.declared.voter.voter_rows.RowView.{RowView}
use Rattle.cmd_records.specs.declared.voter.voter_rows.RowView.TheVariants as views
use Rattle.cmd_records.specs.voter.Rows.{HoldsAs}
use Rattle.cmd_records.proofs.lemmas.voter.Holding.{itself-item}
use Rattle.cmd_records.proofs.voter.majority.can_win_majority.Goals as goal

pub returns-in-Some-Item : goal.returns-in-Some-Item
returns-in-Some-Item c place row h =
    let view = c.in-Some-Item.field-0-0 in
    let is : c.args.voter.now.row ≡ Some (views.Item view) = search rules in
    itself-item view place c.args.voter.now.reader row
    (subst (λ (o : Option RowView). HoldsAs o place c.args.voter.now.reader row) is h)
