use Rattle.std.proofs.Common.{List, ◌∷◌, refl, ap, arith, ◌∙◌}
use Rattle.det_values.specs.declared.frames.RunFrame.{RunFrame}
use Rattle.page.specs.Differences.{difference_of, pairwise}
use Rattle.page.specs.Walks.{runs_left}
use Rattle.page.proofs.Fills.{fill_put}
use Rattle.page.proofs.run_difference.put_differences.Goals as goal

pub cycles-preserved : goal.cycles-preserved
cycles-preserved c =
    let ours = c.in-Some.ensures.some in
    let theirs = c.in-Some-next_run.ensures.some in
    let per = c.args.per_mark in
    let h = c.cycles.invariant in
    record {
      fill = fill_put (difference_of per ours.0 theirs.0) c.run_difference.result _ _ _ h.fill
          (ap (λ (xs : List RunFrame). pairwise (difference_of per) xs (runs_left c.cycles.right)) ours.2
          ∙ ap (λ (ys : List RunFrame). pairwise (difference_of per) (ours.0 ∷ runs_left c.next_run.new.self) ys) theirs.2)
          (c.run_difference.ensures ours.0 theirs.0 ours.1 theirs.1) c.put_row.ensures refl;
      room = omega (arith, h.room, c.in-Some.ensures.shorter);
    }
