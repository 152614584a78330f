use Rattle.std.proofs.Common.{◌≡◌, ℕ, ◌+◌, ◌*◌, List, length, arith, ◌∙◌, ap, sym}
use Rattle.job.specs.Cycle.{added, shown_with}
use Rattle.pass_in_blocks.proofs.Adding.{length-added, All-added}
use Rattle.cycle_engine.proofs.passes.Passes.next.Goals as goal

pub returns-in-Ok-clause-drew : goal.returns-in-Ok-clause-drew
returns-in-Ok-clause-drew g c =
    let same = ap length c.in_ok-elements.ensures in
    let drew = c.in-Ok.ensures.drew ∙ same in
    let is : c.new.result ≡ added c.args.done.draws c.in-Ok.next.draws =
    c.new.ensures.later (ap length c.in_ok-earlier.ensures ∙ c.requires.drew ∙ sym drew)
    ∙ ap (λ (xs : List ℕ). added xs c.in-Ok.next.draws) c.in_ok-earlier.ensures in
    ap length is ∙ length-added _ _ (c.requires.drew ∙ sym drew) ∙ c.requires.drew ∙ sym (c.in-Ok.ensures.many ∙ same)

pub returns-in-Ok-clause-few_drawn : goal.returns-in-Ok-clause-few_drawn
returns-in-Ok-clause-few_drawn g c =
    let drew = c.in-Ok.ensures.drew ∙ ap length c.in_ok-elements.ensures in
    let is : c.new.result ≡ added c.args.done.draws c.in-Ok.next.draws =
    c.new.ensures.later (ap length c.in_ok-earlier.ensures ∙ c.requires.drew ∙ sym drew)
    ∙ ap (λ (xs : List ℕ). added xs c.in-Ok.next.draws) c.in_ok-earlier.ensures in
    let worth : c.args.number * 65535 + 65535 ≡ (c.args.number + 1) * 65535 = omega arith in
    let all = All-added (c.args.number * 65535) 65535 _ _ c.requires.few_drawn c.in-Ok.ensures.few_drawn in
    rw (is, ← worth) all

pub returns-in-Ok-clause-shown : goal.returns-in-Ok-clause-shown
returns-in-Ok-clause-shown g c last =
    let m = g.J.Job.meaning in let job = c.args.self.now.job in let es = c.in-Ok.next.elements in
    c.in-Ok.ensures.shown last ∙ ap (λ (xs : List ℕ). shown_with m job es xs) (sym c.new.ensures.is)
