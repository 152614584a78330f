use Rattle.std.proofs.Common.{◌<◌, arith}
use Rattle.std.proofs.lemmas.List.Elements.{All-from_get_or}
use Rattle.record_reader.proofs.item_reader.window.read_slot.Goals as goal

pub returns-clause-bytes : goal.returns-clause-bytes
returns-clause-bytes g c = All-from_get_or (λ b. b < 256) c.read.new.buf 0 (λ i l. omega (arith, c.type_inv.buffer i))
