use Rattle.std.proofs.Common.{◌≡◌, ◌+◌, ◌-◌, ap, sym, ◌∙◌, arith}
use Rattle.std.specs.Option.{option_map}
use Rattle.copies.specs.declared.verdict.Verdict.TheVariants.{Differ}
use Rattle.copies.specs.FirstDifference.{frame_difference}
use Rattle.twins.proofs.rounds.difference_verdict.Goals as goal

pub returns-in-Some : goal.returns-in-Some
returns-in-Some c =
    let n : c.args.number ≡ c.args.number + 1 - 1 = omega arith in
    ap (option_map (Differ c.args.copy))
    (sym c.in-Some.is ∙ c.first_frame_difference.ensures.first
    ∙ ap (λ k. frame_difference k c.args.ours.now.frame c.args.row.frame) n)
