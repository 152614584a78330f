use Rattle.std.proofs.Common.{rules, ◌≤◌, ◌-◌, refl, arith}
use Rattle.det_record_c.proofs.Running.{are_elements_put}
use Rattle.det_record_c.proofs.run.pass_elements.Goals as goal

pub returns : goal.returns
returns c =
    let enough : c.args.count ≤ c.args.run.now.left = search rules in (
      enough,
      tt,
      tt,
      are_elements_put c.args.count (c.args.run.now.left - c.args.count) _ _ (omega (arith, enough)) refl,
    )
