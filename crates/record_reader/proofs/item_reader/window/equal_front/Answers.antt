use Rattle.std.proofs.Common.{take, sym, ap, ◌∙◌, arith}
use Rattle.std.proofs.lemmas.List.{take_rest}
use Rattle.record_reader.proofs.lemmas.item_reader.Lists.{same_more}
use Rattle.record_reader.proofs.item_reader.window.equal_front.Goals as goal

pub returns-clause-same : goal.returns-clause-same
returns-clause-same c =
    let n = c.equal_blocks-blocks.result in
    let m = c.equal_bytes.result in
    let one = c.args.one.now in
    let other = c.args.other.now in
    same_more n m one other (omega arith) (omega (arith, c.requires)) c.equal_blocks-blocks.ensures.same
    (sym (ap (take m) (take_rest one n)) ∙ c.equal_bytes.ensures.same ∙ ap (take m) (take_rest other n))
