use Rattle.std.proofs.Common.{◌≤◌}
use Rattle.record_grammar.specs.Grammar.{most_samples}
use Rattle.record_view.proofs.Reading.{count_behind, samples_behind, input_shown}
use Rattle.record_view.proofs.opening.input_view.Goals as goal

pub overflow_sub-samples_at : goal.overflow_sub-samples_at
overflow_sub-samples_at c =
    (count_behind c.args.events c.args.bytes.now c.in_ok-time.rest.now c.in_ok-samples.rest.now c.in_ok-time.time c.in_ok-samples.samples
    c.requires (rw c.rest_of.ensures at c.in_ok-time.ensures) (rw c.max_samples.ensures at c.in_ok-samples.ensures.gives)).room

pub overflow_sub-input : goal.overflow_sub-input
overflow_sub-input c =
    (samples_behind c.args.events c.args.bytes.now _ _ _ _ _ _ c.requires (rw c.rest_of.ensures at c.in_ok-time.ensures)
    (rw c.max_samples.ensures at c.in_ok-samples.ensures.gives) c.in_ok-rest.ensures.1).room

pub returns : goal.returns
returns c =
    let few : c.in_ok-samples.samples ≤ most_samples c.args.events = rw c.max_samples.ensures at c.in_ok-samples.ensures.within.1 in
    input_shown c.args.events c.args.bytes.now _ _ _ _ _ _ c.requires few (rw c.rest_of.ensures at c.in_ok-time.ensures)
    (rw c.max_samples.ensures at c.in_ok-samples.ensures.gives) c.in_ok-rest.ensures.1
