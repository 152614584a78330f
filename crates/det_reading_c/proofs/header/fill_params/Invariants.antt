use Rattle.std.proofs.Common.{take}
use Rattle.record_grammar.specs.Grammar.{signed_at}
use Rattle.record_view.proofs.Many.{HasMany}
use Rattle.det_reading_c.proofs.header.fill_params.Given as goal

abbrev pub invariant-params : goal.invariant-params
invariant-params l = HasMany signed_at l.count l.index (take l.index l.params) l.rest l.bytes
