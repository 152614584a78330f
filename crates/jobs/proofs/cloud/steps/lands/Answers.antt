use Rattle.std.proofs.Common.{◌≡◌, pos, ◌+ℤ◌, ◌*ℤ◌, ◌∙◌, rules}
use Rattle.std.specs.Prelude.{int_le}
use Rattle.jobs.proofs.lemmas.cloud.Landings.{circle_computed}
use Rattle.jobs.proofs.cloud.steps.lands.Goals as goal

pub returns : goal.returns
returns c =
    let a : c.squared.result ≡ c.args.step.dx *ℤ c.args.step.dx = search (rules, c.squared.ensures.square) in
    let b : c.squared-2.result ≡ c.args.step.dy *ℤ c.args.step.dy = search (rules, c.squared-2.ensures.square) in
    let r : c.squared-3.result ≡ pos c.args.spread *ℤ pos c.args.spread = search (rules, c.squared-3.ensures.square) in
    circle_computed c.squared.result c.squared-2.result c.squared-3.result c.squared.ensures.least c.squared.ensures.most
    c.squared-2.ensures.least c.squared-2.ensures.most c.squared-3.ensures.least c.squared-3.ensures.most
    ∙ (λ i. int_le (a i +ℤ b i) (r i))
