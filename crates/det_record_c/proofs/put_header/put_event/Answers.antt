use Rattle.std.proofs.Common.{ℕ, ◌∷◌, ◌++◌, length, take, ap}
use Rattle.det_values.specs.Spelling.{spelled_u16}
use Rattle.record_grammar.specs.Grammar.{policy_of}
use Rattle.record_grammar.specs.Spelling.{spelled_policy}
use Rattle.det_record_c.proofs.Putting.{puts_then, puts_as}
use Rattle.det_record_c.proofs.put_header.put_event.Goals as goal

pub returns : goal.returns
returns c =
    puts_as _ _ _ _ _ _
    (ap (λ (n : ℕ). spelled_u16 c.args.event.now.capacity ++ (length (take n c.args.event.now.name) ∷ (take n c.args.event.now.name
    ++ spelled_policy c.args.format (policy_of c.args.event.now.policy)))) c.from.ensures)
    (puts_then _ _ _ _ _ _ _ _ c.put_u16-at.ensures
    (puts_then _ _ _ _ _ _ _ _ c.put_u8-at.ensures (puts_then _ _ _ _ _ _ _ _ c.put-at.ensures.puts c.put_policy.ensures)))
