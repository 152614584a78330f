use Rattle.std.proofs.Common.{rules, sym, refl}
use Rattle.det_values.proofs.Equality.{frame_decides}
use Rattle.copies.proofs.FirstDifference.{frame-apart}
use Rattle.copies.proofs.frame_differences.first_frame_difference.Goals as goal

pub returns-then-eq-clause-first : goal.returns-then-eq-clause-first
returns-then-eq-clause-first c =
    sym ((frame-apart c.args.frame c.args.left.now c.args.right.now).1 ((frame_decides c.args.left.now c.args.right.now).0 (search rules)))

pub returns-then-eq-clause-equal : goal.returns-then-eq-clause-equal
returns-then-eq-clause-equal c = (λ e. (frame_decides c.args.left.now c.args.right.now).0 (search rules), λ e. refl)

pub returns-in-Init-right-clause-equal : goal.returns-in-Init-right-clause-equal
returns-in-Init-right-clause-equal c = search (rules, frame-apart c.args.frame c.args.left.now c.args.right.now)

pub returns-in-Run-right-clause-equal : goal.returns-in-Run-right-clause-equal
returns-in-Run-right-clause-equal c = search (rules, frame-apart c.args.frame c.args.left.now c.args.right.now)
