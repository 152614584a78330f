use Rattle.std.proofs.Common.{ℕ, [], ◌∷◌, ap}
use Rattle.det_record_c.proofs.Putting.{puts_then, puts_as}
use Rattle.det_record_c.proofs.put_frame.put_refusal.Goals as goal

pub returns-clause-puts : goal.returns-clause-puts
returns-clause-puts c =
    puts_then _ _ _ _ _ _ _ _ (puts_as _ _ _ _ _ _ (ap (λ (n : ℕ). n ∷ []) c.phase_byte.ensures) c.put_u8-at.ensures)
    (puts_then _ _ _ _ _ _ _ _ c.put_u8-at-2.ensures (puts_then _ _ _ _ _ _ _ _ c.put_u32-at.ensures c.put_u32.ensures))
