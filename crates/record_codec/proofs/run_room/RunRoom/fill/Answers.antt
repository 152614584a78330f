use Rattle.std.proofs.Common.{arith}
use Rattle.record_grammar.specs.declared.item.Item.TheVariants as items
use Rattle.record_view.specs.Shows.{item_view}
use Rattle.record_codec.proofs.Made.{may_stand, few_of_run}
use Rattle.record_codec.proofs.run_room.RunRoom.fill.Goals as goal

pub fill_parts-requires-clause-few : goal.fill_parts-requires-clause-few
fill_parts-requires-clause-few c =
    few_of_run c.args.view c.in-Run.input c.in-Run.outcome c.requires.0 c.args.bytes.now c.in-Run.is c.requires.1
    (may_stand (item_view c.args.view) (items.Frame c.requires.0) c.args.bytes.now c.events_at-events.result c.events_at-events.ensures
    (omega (arith, c.events_at-events.type_inv)) (λ i l. omega (arith, c.type_inv.bytes i)) c.requires.1)
