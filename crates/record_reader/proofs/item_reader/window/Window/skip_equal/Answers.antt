use Rattle.std.proofs.Common.{rules, ◌≡◌, ℕ, ◌+◌, ◌-◌, ◌≤◌, List, length, min, subst, sym}
use Rattle.record_grammar.specs.Spelling.{AreBytes}
use Rattle.record_reader.specs.item_reader.Held.{held, Matched}
use Rattle.record_reader.proofs.lemmas.item_reader.Lists.{is_matched}
use Rattle.record_reader.proofs.item_reader.window.Window.skip_equal.Goals as goal

pub returns : goal.returns
returns c =
    let w = c.args.self.now in
    let n = c.equal_front-equal.result in
    let most = c.min-most.result in
    let is : most ≡ min (length (held w)) (length c.args.bytes.now - c.args.matched) = search rules in
    let are : AreBytes (held w) = subst AreBytes c.as_slice.ensures.value c.as_slice.ensures.bytes in
    let fits : n ≤ most = search rules in
    subst (λ (xs : List ℕ). Matched c.args.bytes.now c.args.matched (c.args.matched + n) (held w) xs) (sym c.skip.ensures)
    (is_matched (held w) c.args.bytes.now c.args.matched most n are c.requires is fits (search rules) (search rules))
