use Rattle.std.proofs.Common.{◌∙◌, rules}
use mir.Val.{SFits}
use Rattle.std.specs.Int.{w64}
use Rattle.std.proofs.lemmas.Int.{to_z-of_z}
use Rattle.jobs.proofs.lemmas.bank.Sums.{sum_computed}
use Rattle.jobs.proofs.bank.summary.SummaryJoinable.join.Goals as goal

pub returns : goal.returns
returns c =
    let r = c.requires in
    let f : SFits w64 c.min.result = search rules in
    let g : SFits w64 c.max.result = search rules in
    let a : SFits w64 c.args.self.least = search rules in
    let b : SFits w64 c.args.right.least = search rules in
    let x : SFits w64 c.args.self.greatest = search rules in
    let y : SFits w64 c.args.right.greatest = search rules in
    let least = rw (to_z-of_z w64 c.args.self.least a, to_z-of_z w64 c.args.right.least b) at c.min.ensures.value in
    let greatest = rw (to_z-of_z w64 c.args.self.greatest x, to_z-of_z w64 c.args.right.greatest y) at c.max.ensures.value in
    λ i. record {
      sum = sum_computed c.args.self.sum c.args.right.sum r.0 r.1 r.2 r.3.sum_least r.3.sum_most r.4.sum_least r.4.sum_most i;
      least = (to_z-of_z w64 c.min.result f ∙ least) i;
      greatest = (to_z-of_z w64 c.max.result g ∙ greatest) i;
    }
