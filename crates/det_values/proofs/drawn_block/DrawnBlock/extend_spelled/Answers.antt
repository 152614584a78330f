use Rattle.std.proofs.Common.{◌++◌, List, ℕ, ap, ◌∙◌}
use Rattle.det_values.proofs.FlatReading.{appended}
use Rattle.det_values.proofs.drawn_block.DrawnBlock.extend_spelled.Goals as goal

pub invariant_of-self-2 : goal.invariant_of-self-2
invariant_of-self-2 c =
    let r = c.requires.spelled in
    (appended _ _ _ _ r.0 c.args.count c.self.view_is c.self.invariant r.3 r.2 c.requires.room
    (c.in_ok-extend_from_slice.ensures.items ∙ ap (λ (xs : List ℕ). c.self.inside.bytes.items ++ xs) r.1)).flat

pub returns-clause-ok : goal.returns-clause-ok
returns-clause-ok c es spelling counted fields =
    (appended _ _ _ _ es c.args.count c.self.view_is c.self.invariant fields counted c.requires.room
    (c.in_ok-extend_from_slice.ensures.items ∙ ap (λ (xs : List ℕ). c.self.inside.bytes.items ++ xs) spelling)).view
