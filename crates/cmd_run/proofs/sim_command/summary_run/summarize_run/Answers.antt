use Rattle.std.proofs.Common.{ap}
use Rattle.det_io.proofs.Counts.{rose-none}
use Rattle.cmd_run.proofs.lemmas.sim_command.Running.{only-memory-by, summed-by, all-reported-by}
use Rattle.cmd_run.proofs.sim_command.summary_run.summarize_run.Goals as goal

pub sim_counts-requires : goal.sim_counts-requires
sim_counts-requires g c =
    only-memory-by c.args.run.kind c.args.run.profile c.args.text _ _ _ _ c.in_ok-recorded.recorded c.in_ok-recorded.ensures.given
    (ap (λ s. s.left 0) c.new-shelf.ensures) c.requires.whole (rose-none 0) (rose-none 0)

pub returns-clause-summary : goal.returns-clause-summary
returns-clause-summary g c =
    summed-by c.args.run.kind c.args.run.profile c.args.text _ _ _ _ c.in_ok-recorded.recorded c.in_ok-recorded.ensures.given
    (ap (λ s. s.left 0) c.new-shelf.ensures) c.args.number c.in_ok-counts.counts c.finish.result
    c.in_ok-counts.ensures c.new-sink.ensures c.finish.ensures

pub returns-clause-reports : goal.returns-clause-reports
returns-clause-reports g c =
    all-reported-by c.args.run.kind c.args.run.profile c.args.text _ _ _ _ c.in_ok-recorded.recorded c.in_ok-recorded.ensures.given
    (ap (λ s. s.left 0) c.new-shelf.ensures) c.in_ok-counts.counts c.in_ok-counts.ensures
