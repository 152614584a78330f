use Rattle.std.proofs.Common.{◌<◌, sym, subst}
use Rattle.std.specs.List.{All}
use Rattle.det_values.specs.Values.{SampleValue}
use Rattle.cmd_run.proofs.lemmas.chain.Samples.{known-samples}
use Rattle.cmd_run.proofs.chain.output_samples.chained_input.Goals as goal

pub returns-clause-known : goal.returns-clause-known
returns-clause-known c =
    subst (λ xs. All (λ (s : SampleValue). s.event < c.args.events) xs) (sym c.in_ok-samples.ensures)
    (known-samples c.args.events c.args.run.now.outcome)
