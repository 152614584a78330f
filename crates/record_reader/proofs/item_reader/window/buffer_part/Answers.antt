use Rattle.std.proofs.Common.{◌<◌, arith}
use Rattle.std.proofs.lemmas.List.Elements.{All-from_get_or}
use Rattle.record_reader.proofs.item_reader.window.buffer_part.Goals as goal

pub returns-clause-bytes : goal.returns-clause-bytes
returns-clause-bytes c = All-from_get_or (λ b. b < 256) c.args.bytes.now 0 (λ i l. omega (arith, c.type_inv.bytes i))
