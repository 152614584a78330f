use Rattle.std.proofs.Common.{List, ap, ◌∙◌}
use Rattle.det_values.specs.Values.{SampleValue}
use Rattle.record_grammar.specs.Read.{Read, many}
use Rattle.record_grammar.specs.Grammar.{sample_at}
use Rattle.record_view.specs.Walks.{is_got}
use Rattle.record_view.proofs.Walked.{walk_counted}
use Rattle.record_view.proofs.parts.view_samples.Goals as goal

pub returns-clause-count : goal.returns-clause-count
returns-clause-count c =
    let places = c.args.places in
    walk_counted (sample_at c.args.events) places.samples c.rest_of.result.now
    (ap (λ (r : Read (List SampleValue)). is_got r)
    (ap (many (sample_at c.args.events) places.samples) c.rest_of.ensures ∙ c.requires.1.samples))
