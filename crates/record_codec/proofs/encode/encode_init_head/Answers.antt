use Rattle.std.proofs.Common.{◌++◌, ◌∷◌, ℕ, List, sym, ap, ◌∙◌, append_assoc}
use Rattle.std.specs.List.{flat_map}
use Rattle.det_values.specs.Spelling.{spelled_u32}
use Rattle.record_grammar.specs.Spelling.{spelled_element, spelled_frame}
use Rattle.record_codec.proofs.encode.encode_init_head.Goals as goal

pub returns : goal.returns
unfolding spelled_frame
returns c format elements count =
    ap (λ (bytes : List ℕ). bytes ++ flat_map spelled_element elements) c.in_ok-put_init_head.ensures.ok
    ∙ append_assoc c.args.out.now.items (3 ∷ spelled_u32 c.args.count) (flat_map spelled_element elements)
    ∙ ap (λ (k : ℕ). c.args.out.now.items ++ (3 ∷ (spelled_u32 k ++ flat_map spelled_element elements))) (sym count)
