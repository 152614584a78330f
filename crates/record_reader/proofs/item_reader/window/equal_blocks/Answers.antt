use Rattle.std.proofs.Common.{rules, ◌≡◌, ℕ, ◌+◌, ◌-◌, take, drop, ap, ◌∙◌, arith}
use Rattle.record_reader.proofs.lemmas.item_reader.Lists.{same_more}
use Rattle.record_reader.proofs.item_reader.window.equal_blocks.Goals as goal

pub blocks-2-preserved : goal.blocks-2-preserved
blocks-2-preserved c =
    let at = c.blocks-2.at in
    let one = c.args.one.now in
    let other = c.args.other.now in
    let block : take (at + 64 - at) (drop at one) ≡ take (at + 64 - at) (drop at other) = search rules in
    let n : 64 ≡ at + 64 - at = omega arith in
    let m : at + 64 - at ≡ 64 = omega arith in
    record {
      within = omega arith;
      same =
          same_more at 64 one other (omega arith) (omega (arith, c.requires)) c.blocks-2.invariant.same
          (ap (λ (k : ℕ). take k (drop at one)) n ∙ block ∙ ap (λ (k : ℕ). take k (drop at other)) m);
    }
