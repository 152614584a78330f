use Rattle.std.proofs.Common.{sym, subst}
use Rattle.det_values.specs.declared.frames.Frame.{Frame}
use Rattle.rerun.specs.checker.RerunFrames.{AreAlike}
use Rattle.rerun.proofs.lemmas.checker.Spellings.{given-alike}
use Rattle.rerun.proofs.checker.frame_checker.FrameChecker.take.Goals as goal

pub compare-requires-clause-read : goal.compare-requires-clause-read
compare-requires-clause-read g c =
    let behind = c.requires.behind in
    let comes = c.requires.comes in (
      comes.0,
      comes.1,
      subst (λ (frame : Frame). AreAlike comes.0 frame)
          (sym (c.in_ok-given.ensures.frame behind.0 comes.0 behind.1 comes.1))
          (given-alike g.J.Job.meaning c.args.recording.now.profile behind.0 comes.0),
    )

pub returns-clause-behind : goal.returns-clause-behind
returns-clause-behind g c given read behind spelling = rw c.take_back.ensures (c.in_ok-given.ensures.behind given read behind spelling)
