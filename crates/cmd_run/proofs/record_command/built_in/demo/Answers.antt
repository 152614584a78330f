use Rattle.std.proofs.Common.{[]}
use Rattle.cli_answers.specs.Outcome.{known_bytes}
use Rattle.run_setup.proofs.Meeting.{meets-as}
use Rattle.cmd_run.proofs.lemmas.record_command.ByManifest.{is_known-first, is-demo_outcome}
use Rattle.cmd_run.proofs.record_command.built_in.demo.Goals as goal

pub returns-clause-meets : goal.returns-clause-meets
returns-clause-meets g c =
    let first = g.S.Slots.sees c.args.shelf.now in
    meets-as _ _ _ _ _ _ _ _ (is_known-first first c.args.stimulus.now [])
    (λ is_known. is-demo_outcome c.in-Ok.profile (known_bytes first c.args.stimulus.now) c.in-Ok.ensures) (λ rose. rose)
    c.record_named_stimulus.ensures.meets
