use Rattle.det_cli.proofs.record_commands.dispatch_to_gatherer.Goals as goal

pub returns-clause-runs : goal.returns-clause-runs
returns-clause-runs g c audience = rw (c.into_front.ensures.front, ← c.new-buffer.ensures) (c.dispatch_record_command-answer.ensures audience)
