use Rattle.std.proofs.Common.{Some, rules, sym, ap, ◌∙◌}
use Rattle.std.specs.Prelude.{Option}
use Rattle.copies.specs.declared.row.Row.{Row}
use Rattle.copies.specs.declared.row.Row.TheVariants as rows
use Rattle.cmd_records.specs.voter.Rows.{same_row}
use Rattle.cmd_records.proofs.lemmas.voter.Holding.{read-item}
use Rattle.cmd_records.proofs.voter.majority.holds_item.Goals as goal

pub hold_same_item-requires : goal.hold_same_item-requires
hold_same_item-requires c =
    let r = c.requires in
    let m = read-item {view = c.in-Some-Item.other_view} (search rules) r.4 in
    (r.0, r.1, m.0, r.3, m.2)

pub returns-in-Some-Item : goal.returns-in-Some-Item
returns-in-Some-Item c place x more h k =
    let m = read-item {view = c.in-Some-Item.other_view} (search rules) k in
    c.hold_same_item.ensures place x m.0 h m.2 ∙ ap (λ (o : Option Row). same_row (Some (rows.Item x)) o) (sym m.1)
