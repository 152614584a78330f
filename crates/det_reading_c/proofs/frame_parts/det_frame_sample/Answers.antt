use Rattle.std.proofs.Common.{◌≡◌, ◌<◌, ◌*◌, length, drop, Some, refl, sym, ap, ◌∙◌, arith}
use Rattle.det_values.specs.Values.{SampleValue}
use Rattle.record_grammar.specs.Grammar.{sample_at}
use Rattle.c_types.specs.CValues.{sample_of}
use Rattle.det_reading_c.specs.Frames.{input_in}
use Rattle.det_reading_c.proofs.Samples.{nth_sample, counted}
use Rattle.det_reading_c.proofs.frame_parts.det_frame_sample.Goals as goal

pub returns-then-number-frame-clause-sample : goal.returns-then-number-frame-clause-sample
returns-then-number-frame-clause-sample c events value h =
    let n : length (input_in value).samples ≡ c.args.frame.now.sample_count = counted (sample_at events) c.args.frame.now.sample_count
    (drop c.args.frame.now.samples c.args.bytes.now) (input_in value).samples h.samples.0 h.samples.1 in
    record { there = (λ no. absurd cc, λ lt. absurd (omega (arith, n, lt))); sample = tt }

pub returns-in-Some-clause-sample : goal.returns-in-Some-clause-sample
returns-in-Some-clause-sample c events value h =
    let samples = (input_in value).samples in
    let n : length (input_in value).samples ≡ c.args.frame.now.sample_count = counted (sample_at events) c.args.frame.now.sample_count
    (drop c.args.frame.now.samples c.args.bytes.now) (input_in value).samples h.samples.0 h.samples.1 in
    let lt : c.args.number < c.args.frame.now.sample_count = omega arith in
    let x = nth_sample events c.args.frame.now.sample_count c.args.number (drop c.args.frame.now.samples c.args.bytes.now)
    (input_in value).samples h.samples.0 h.samples.1 lt in
    let same = c.rest_from.ensures ∙ ap (drop (10 * c.args.number)) c.rest_from-samples.ensures in
    let first : sample_of c.in-Some.first ≡ x.value = c.in-Some.ensures events x.value x.after (ap (sample_at events) same ∙ x.read) in
    record {
      there = (λ yes. omega (arith, n, lt), λ less. refl);
      sample = x.is ∙ ap (λ (s : SampleValue). Some s) (sym first);
    }

pub returns-in-None-clause-sample : goal.returns-in-None-clause-sample
returns-in-None-clause-sample c events value h =
    let lt : c.args.number < c.args.frame.now.sample_count = omega arith in
    let x = nth_sample events c.args.frame.now.sample_count c.args.number (drop c.args.frame.now.samples c.args.bytes.now)
    (input_in value).samples h.samples.0 h.samples.1 lt in
    let same = c.rest_from.ensures ∙ ap (drop (10 * c.args.number)) c.rest_from-samples.ensures in
    absurd (c.in-None.ensures events x.value x.after (ap (sample_at events) same ∙ x.read))
