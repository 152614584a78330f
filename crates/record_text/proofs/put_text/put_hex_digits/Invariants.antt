use Rattle.std.proofs.Common.{◌≡◌, ◌++◌}
use Rattle.hex.specs.Hex.{encode_lower}
use Rattle.record_text.proofs.put_text.put_hex_digits.Given as goal

abbrev pub invariant-loop-piece : goal.invariant-loop-piece
invariant-loop-piece l = l.out.items ++ encode_lower l.piece-iterator.rest.now ≡ l.fn.out.items ++ encode_lower l.bytes
