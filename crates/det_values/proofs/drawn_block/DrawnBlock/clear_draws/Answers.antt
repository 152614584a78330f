use Rattle.std.proofs.Common.{◌≡◌, length, ap, ◌∙◌, arith}
use Rattle.std.specs.Vec.{with_items}
use Rattle.std.proofs.lemmas.List.{with_items_is}
use Rattle.det_values.specs.Spelling.{spelled_all, elements_in}
use Rattle.det_values.specs.Frames.{all_without_draws}
use Rattle.det_values.proofs.Undrawing.{undrawn_holds}
use Rattle.det_values.proofs.FlatReading.{Holds}
use Rattle.det_values.proofs.drawn_block.DrawnBlock.clear_draws.Goals as goal

all_holds : (c : goal.After-self-1) → Holds (all_without_draws c.args.self.now) c.self.inside.count
    (with_items c.self.inside.bytes c.clear_all_draws.new.bytes).items
all_holds c =
    let l : length c.clear_all_draws.new.bytes ≡ c.self.inside.bytes.len = omega (arith, c.clear_all_draws.auto.bytes, c.as_mut_slice.ensures.len) in
    undrawn_holds _ _ c.self.inside.bytes.items _ c.self.view_is c.self.invariant
    (with_items_is c.self.inside.bytes c.clear_all_draws.new.bytes l ∙ c.clear_all_draws.ensures
    ∙ ap (λ xs. spelled_all (all_without_draws (elements_in c.self.inside.count xs))) c.as_mut_slice.ensures.value)

pub invariant_of-self : goal.invariant_of-self
invariant_of-self c = (all_holds c).flat

pub returns : goal.returns
returns c = (all_holds c).view
