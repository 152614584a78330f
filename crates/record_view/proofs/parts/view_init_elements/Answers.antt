use Rattle.std.proofs.Common.{ap, ◌∙◌}
use Rattle.record_grammar.specs.Read.{many}
use Rattle.det_values.specs.declared.format.Format.TheVariants.{One}
use Rattle.record_grammar.specs.Grammar.{element_at, drawn_at}
use Rattle.record_view.proofs.Walked.{walk_counted}
use Rattle.record_view.proofs.Undrawn.{undrawn_stand}
use Rattle.record_view.proofs.parts.view_init_elements.Goals as goal

pub invariant_of-result : goal.invariant_of-result
invariant_of-result c =
    (undrawn_stand c.args.count c.rest_of.result.now c.requires.0 c.requires.1
    (ap (many element_at c.args.count) c.rest_of.ensures ∙ c.requires.2)).0

pub returns-clause-is : goal.returns-clause-is
returns-clause-is c elements rest stands =
    (undrawn_stand c.args.count c.rest_of.result.now elements rest
    (ap (many element_at c.args.count) c.rest_of.ensures ∙ stands)).1

pub returns-clause-count : goal.returns-clause-count
returns-clause-count c =
    walk_counted (drawn_at One) c.args.count c.rest_of.result.now
    (undrawn_stand c.args.count c.rest_of.result.now c.requires.0 c.requires.1
    (ap (many element_at c.args.count) c.rest_of.ensures ∙ c.requires.2)).0
