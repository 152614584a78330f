use Rattle.record_codec.proofs.Flat.{PutSoFar}
use Rattle.record_codec.proofs.put_frame.put_undrawn.Given as goal

abbrev pub invariant-loop : goal.invariant-loop
invariant-loop l = PutSoFar l.elements l.counter l.walk l.fn.out.items l.out.items
