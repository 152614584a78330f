use Rattle.std.proofs.Common.{◌++◌, ◌+◌, ◌-◌, sym, ap, ◌∙◌, append-nil, rules, SFits, w64}
use Rattle.std.proofs.lemmas.Int.{to_z-of_z}
use Rattle.cmd_run.specs.chain.OutputSamples.{sample_of, first_word, samples_from}
use Rattle.cmd_run.proofs.lemmas.chain.Samples.{samples-end, walk-next, few-samples}
use Rattle.cmd_run.proofs.chain.output_samples.push_output_words.Goals as goal

pub returns-in-None : goal.returns-in-None
returns-in-None c =
    let events = c.args.events in
    let event = c.words.event in
    let samples = c.words.samples in
    sym (append-nil samples)
    ∙ sym (ap (λ xs. samples ++ xs) (samples-end event (events - event) c.words.rest.now c.in-None.ensures.none)) ∙ c.words.invariant.pushed

pub words-preserved : goal.words-preserved
words-preserved c =
    let event = c.words.event in
    let fits : SFits w64 c.in-Some.read.0 = search rules in
    let pushed = c.in_ok-push_output_word.ensures ∙ ap (λ w. c.words.samples ++ sample_of event w) (to_z-of_z w64 c.in-Some.read.0 fits)
    ∙ ap (λ w. c.words.samples ++ sample_of event w) c.in-Some.ensures.word in
    record {
      pushed = ap (λ xs. xs ++ samples_from (event + 1) (c.args.events - (event + 1)) c.in-Some.read.1.now) pushed
          ∙ ap (λ r. (c.words.samples ++ sample_of event (first_word c.words.rest.now))
          ++ samples_from (event + 1) (c.args.events - (event + 1)) r) c.in-Some.ensures.rest
          ∙ walk-next c.words.rest.now c.words.samples event c.args.events _ c.words-test.true c.in-Some.ensures.some
          c.words.invariant.pushed;
      few = rw pushed (few-samples c.words.samples event event (first_word c.words.rest.now) c.words.invariant.few);
    }
