use Rattle.std.proofs.Common.{sym, subst}
use Rattle.record_grammar.specs.declared.item.Item.TheVariants as items
use Rattle.record_view.specs.declared.view.ItemView.{ItemView}
use Rattle.record_view.specs.Shows.{IsSpelling}
use Rattle.record_reader.specs.item_reader.StandsFor as inner
use Rattle.record_reader.proofs.frame_reader.FrameReader.bytes.Goals as goal

pub returns : goal.returns
returns c frame h =
    subst (λ (v : ItemView). IsSpelling v (items.Frame frame) c.bytes.result.now) c.as_item.ensures
    (c.bytes.ensures (items.Frame frame)
    (subst (λ (v : ItemView). inner.Holds c.args.self.now.items v (items.Frame frame)) (sym c.as_item.ensures) h))
