use Rattle.std.proofs.Common.{ℕ, ◌*◌, ◌≤◌, List, length, drop, sym, ap, ◌∙◌, subst, arith}
use Rattle.std.specs.List.{All}
use Rattle.std.proofs.lemmas.List.Elements.{All-take, All-drop}
use Rattle.pass_in_blocks.proofs.Adding.{same_takes, fits}
use Rattle.pass_in_blocks.proofs.draws.draw_sums.Goals as goal

pub block_sums-requires-clause-equal : goal.block_sums-requires-clause-equal
block_sums-requires-clause-equal c =
    ap length c.block.ensures ∙ same_takes 256 (256 * c.loop-b.b) c.args.left.now c.args.right.now c.requires.equal
    ∙ sym (ap length c.block-in-loop-b.ensures)

pub block_sums-requires-clause-left : goal.block_sums-requires-clause-left
block_sums-requires-clause-left c =
    let Few : ℕ → Type 0 = λ n. n ≤ 458745 in
    subst (λ (l : List ℕ). All Few l) (sym c.block.ensures)
    (All-take Few 256 (drop (256 * c.loop-b.b) c.args.left.now) (All-drop Few (256 * c.loop-b.b) c.args.left.now c.requires.left))

pub block_sums-requires-clause-right : goal.block_sums-requires-clause-right
block_sums-requires-clause-right c =
    let Few : ℕ → Type 0 = λ n. n ≤ 65535 in
    subst (λ (l : List ℕ). All Few l) (sym c.block-in-loop-b.ensures)
    (All-take Few 256 (drop (256 * c.loop-b.b) c.args.right.now) (All-drop Few (256 * c.loop-b.b) c.args.right.now c.requires.right))

pub push_block-requires-clause-together : goal.push_block-requires-clause-together
push_block-requires-clause-together c =
    let f = fits _ _ _ _ _ _ _ c.requires.equal (c.blocks-b-end.ensures.no_more _ c.loop-b-test.true)
    c.block.ensures c.block-in-loop-b.ensures c.loop-b.invariant c.in_ok-block.ensures in
    omega (arith, f.before, f.few)

pub push_block-requires-clause-some : goal.push_block-requires-clause-some
push_block-requires-clause-some c =
    let f = fits _ _ _ _ _ _ _ c.requires.equal (c.blocks-b-end.ensures.no_more _ c.loop-b-test.true)
    c.block.ensures c.block-in-loop-b.ensures c.loop-b.invariant c.in_ok-block.ensures in
    f.some

pub push_block-requires-clause-room : goal.push_block-requires-clause-room
push_block-requires-clause-room c =
    let f = fits _ _ _ _ _ _ _ c.requires.equal (c.blocks-b-end.ensures.no_more _ c.loop-b-test.true)
    c.block.ensures c.block-in-loop-b.ensures c.loop-b.invariant c.in_ok-block.ensures in
    omega (arith, f.before, f.within, c.len.ensures.len, c.len.ensures.most)

pub loop-b-preserved : goal.loop-b-preserved
loop-b-preserved c =
    let f = fits _ _ _ _ _ _ _ c.requires.equal (c.blocks-b-end.ensures.no_more _ c.loop-b-test.true)
    c.block.ensures c.block-in-loop-b.ensures c.loop-b.invariant c.in_ok-block.ensures in
    c.in_ok-push_block.ensures.ok ∙ f.more
