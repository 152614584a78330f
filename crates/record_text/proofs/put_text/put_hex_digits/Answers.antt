use Rattle.record_text.proofs.Digits.{digits_next, digits_done}
use Rattle.record_text.proofs.put_text.put_hex_digits.Goals as goal

pub loop-piece-preserved : goal.loop-piece-preserved
loop-piece-preserved c = digits_next _ _ _ _ _ _ c.in-Some.ensures.steps.1.0 c.loop-piece.invariant c.in_ok-put_piece.ensures

pub returns : goal.returns
returns c = digits_done _ _ _ c.in-None.ensures.steps.1.0 c.loop-piece.invariant
