use Rattle.std.proofs.Common.{◌≡◌, ◌++◌, length}
use Rattle.std.specs.Prelude.{codes}
use Rattle.std.specs.List.{flat_map}
use Rattle.record_json.specs.Records.{drawn_text}
use Rattle.record_json.proofs.frame_line.put_more_elements.Given as goal

abbrev pub invariant-elements : goal.invariant-elements
invariant-elements l = l.out.items ++ flat_map (λ e. codes "," ++ drawn_text l.format l.layout e) l.elements
    ≡ l.fn.out.items ++ flat_map (λ e. codes "," ++ drawn_text l.format l.layout e) l.fn.elements

abbrev pub decreases-elements : goal.decreases-elements
decreases-elements l = length l.elements
