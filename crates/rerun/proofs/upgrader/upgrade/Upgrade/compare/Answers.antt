use Rattle.std.proofs.Common.{◌++◌, ◌∙◌, sym, ap, subst}
use Rattle.std.specs.Prelude.{Result, Ok, Err, OnOk}
use Rattle.det_values.specs.Frames.{in_format}
use Rattle.det_values.specs.declared.frames.Frame.{Frame}
use Rattle.rerun.specs.checker.RerunFrames.{AreAlike, input_of, rerun_frame}
use Rattle.rerun.proofs.lemmas.checker.Spellings.{given-alike}
use Rattle.rerun.proofs.lemmas.upgrader.Formats.{spells-in, alike-in}
use Rattle.rerun.proofs.lemmas.upgrader.Going.{written-behind}
use Rattle.rerun.proofs.upgrader.upgrade.Upgrade.compare.Goals as goal

pub compare-requires-clause-spells : goal.compare-requires-clause-spells
compare-requires-clause-spells g c =
    let format = c.args.self.now.format in
    let profile = c.args.recording.now.profile in
    let placed = c.requires.placed in
    rw (placed.format, placed.events, c.reduce_to_format.ensures)
    (spells-in profile.format format _ _ c.in_ok-given.ensures.spelled)

pub compare-requires-clause-read : goal.compare-requires-clause-read
compare-requires-clause-read g c =
    let behind = c.requires.behind in
    let comes = c.requires.comes in
    let format = c.args.self.now.format in
    let profile = c.args.recording.now.profile in (
      comes.0,
      comes.1,
      subst (λ (frame : Frame). AreAlike comes.0 frame)
          (sym (c.reduce_to_format.ensures ∙ ap (in_format format) (c.in_ok-given.ensures.frame behind.0 comes.0 behind.1 comes.1)))
          (alike-in format comes.0 (rerun_frame g.J.Job.meaning profile behind.0 comes.0)
          (given-alike g.J.Job.meaning profile behind.0 comes.0)),
    )

on-ok : {A E X : Type 0} (result : Result A E) → X → OnOk result X
on-ok (Ok value) h = h
on-ok (Err e) h = tt

pub returns-clause-behind : goal.returns-clause-behind
returns-clause-behind g c =
    let keeps = c.spell.ensures.keeps in
    on-ok c.compare.result (λ given read h spells.
    written-behind g.J.Job.meaning c.give.new.recording c.spell.new.self (given ++ input_of read)
    (c.in_ok-given.ensures.behind given read h spells) keeps.engine keeps.profile)
