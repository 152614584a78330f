use Rattle.std.proofs.Common.{refl, sym, ap, ◌∙◌}
use Rattle.probes.specs.Texts.{gap_text}
use Rattle.probes.specs.Shipped.{greater, greatest_gap}
use Rattle.probes.proofs.Lives.{gap_more}
use Rattle.probes.proofs.gap.GapProbeProbe.see.Goals as goal

pub returns-clause-sees : goal.returns-clause-sees
returns-clause-sees c = λ runs. (
  ap gap_text (gap_more c.args.self.now.last c.args.self.now.gap c.args.run.now runs
      ∙ ap (λ g. greater g (greatest_gap c.args.run.now.input.time runs))
      (sym (c.greater_gap-self.ensures ∙ ap (greater c.args.self.now.gap) c.time_between_runs.ensures))),
  refl,
)
