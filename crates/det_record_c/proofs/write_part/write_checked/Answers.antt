use Rattle.std.proofs.Common.{rules, ◌≤◌, ◌<◌, length, refl, arith}
use Rattle.det_record_c.proofs.Written.{counted_fit, is_added}
use Rattle.det_record_c.specs.Parts.{item_in}
use Rattle.det_record_c.proofs.write_part.write_checked.Goals as goal

pub returns : goal.returns
returns c =
    let small : length c.args.out.now < 18446744073709551615 = search rules in
    let le : c.put_part-count.result ≤ length c.args.out.now = search rules in
    let fits = counted_fit _ _ _ c.args.out.now _ c.put_part-count.ensures.puts le small in
    is_added (item_in c.args.state.now c.args.part.now) _ _ _ c.requires.follows c.put_part.ensures.fields c.step.ensures
    c.put_part.ensures.puts (omega (arith, small)) fits refl
