use Rattle.std.proofs.Common.{◌≡◌, ◌++◌, sym, ap, subst, ◌∙◌}
use Rattle.std.specs.Prelude.{OnOk}
use Rattle.std.specs.List.{flat_map}
use Rattle.det_values.specs.Spelling.{spelled_all}
use Rattle.record_grammar.specs.Spelling.{spelled_drawn}
use Rattle.record_codec.proofs.put_frame.put_all_drawn.Goals as goal

pub returns-in-Two-clause-ok : goal.returns-in-Two-clause-ok
returns-in-Two-clause-ok c =
    subst (λ xs. OnOk c.put_blocks.result (c.put_blocks.new.out.items ≡ c.args.out.now.items ++ xs))
    (ap spelled_all c.blocks-in-Two.ensures ∙ ap (λ f. flat_map (spelled_drawn f) c.args.elements.now) (sym c.in-Two.is))
    c.put_blocks.ensures.ok
