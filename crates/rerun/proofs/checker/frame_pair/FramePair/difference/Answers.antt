use Rattle.std.proofs.Common.{◌≡◌, refl, sym, subst}
use Rattle.std.specs.Prelude.{Option, None}
use Rattle.std.specs.Option.{unwrap_or}
use Rattle.det_values.specs.declared.frames.Frame.{Frame}
use Rattle.copies.specs.FirstDifference.{frame_difference}
use Rattle.copies.proofs.FirstDifference.{frame-apart}
use Rattle.rerun.proofs.checker.frame_pair.FramePair.difference.Goals as goal

pub returns-in-None : goal.returns-in-None
returns-in-None c =
    let read = c.args.self.now.read in
    sym (subst (λ (o : Option Frame). frame_difference c.args.number read (unwrap_or o read) ≡ None) (sym c.in-None.is)
    ((frame-apart c.args.number read read).1 refl))
