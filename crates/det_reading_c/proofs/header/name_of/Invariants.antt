use Rattle.std.proofs.Common.{◌≡◌, length, take}
use Rattle.record_grammar.specs.Grammar.{name_byte_at}
use Rattle.record_view.proofs.Many.{HasMany}
use Rattle.det_reading_c.proofs.header.name_of.Given as goal

abbrev pub invariant-name : goal.invariant-name
invariant-name l = record { read : HasMany name_byte_at l.len l.index (take l.index l.name) l.rest l.bytes; room : length l.name ≡ 32 }
