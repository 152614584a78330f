use Rattle.std.proofs.Common.{rules, sym, ap, ◌∙◌}
use Rattle.std.specs.Prelude.{Option}
use Rattle.copies.specs.declared.row.Row.{Row}
use Rattle.cmd_records.specs.voter.Rows.{same_row}
use Rattle.cmd_records.proofs.lemmas.voter.Holding.{read-item}
use Rattle.cmd_records.proofs.voter.majority.hold_same_row.Goals as goal

pub holds_item-requires : goal.holds_item-requires
holds_item-requires c =
    let r = c.requires in
    let m = read-item {view = c.in-Some-Item.view} (search rules) r.3 in
    (r.0, m.0, r.2, m.2, r.4)

pub returns-in-Some-Item : goal.returns-in-Some-Item
returns-in-Some-Item c place row more h k =
    let m = read-item {view = c.in-Some-Item.view} (search rules) h in
    c.holds_item.ensures place m.0 more m.2 k ∙ ap (λ (o : Option Row). same_row o more) (sym m.1)
