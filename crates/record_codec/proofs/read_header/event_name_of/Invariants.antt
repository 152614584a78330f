use Rattle.record_codec.proofs.Names.{HasName}
use Rattle.record_codec.proofs.read_header.event_name_of.Given as goal

abbrev pub invariant-loop : goal.invariant-loop
invariant-loop l = HasName l.len l.counter l.rest l.bytes
