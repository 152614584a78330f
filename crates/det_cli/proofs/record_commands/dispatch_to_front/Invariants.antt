use Rattle.det_cli.proofs.record_commands.dispatch_to_front.Given as goal

abbrev pub ghosts-dispatch_to_gatherer : goal.ghosts-dispatch_to_gatherer
ghosts-dispatch_to_gatherer g a = record {
  name = a.front.sink.ghost_name;
  faults = g.K.Sink.faults a.front.sink.now;
  took = g.K.Sink.took a.front.sink.now;
}
