use Rattle.std.proofs.Common.{sym, ◌∙◌}
use Rattle.cmd_records.proofs.lemmas.voter.Holding.{same-items}
use Rattle.cmd_records.proofs.voter.majority.hold_same_item.Goals as goal

pub are_equal_items-requires-clause-place : goal.are_equal_items-requires-clause-place
are_equal_items-requires-clause-place c = c.requires.3.at ∙ sym c.requires.4.at

pub are_equal_items-requires-clause-items : goal.are_equal_items-requires-clause-items
are_equal_items-requires-clause-items c =
    let r = c.requires in (r.1, r.2, c.bytes.ensures r.1 r.3.holds, c.bytes-2.ensures r.2 r.4.holds)

pub returns : goal.returns
returns c place x y h k =
    same-items x y c.are_equal_items.result (c.are_equal_items.ensures x y (c.bytes.ensures x h.holds) (c.bytes-2.ensures y k.holds))
