use Rattle.std.proofs.Common.{rules, ◌≡◌, ◌∙◌, ◌++◌, ◌∷◌, [], None, ap, length, length-append, to_z, of_z, w64, arith}
use Rattle.std.proofs.lemmas.Int.{to_z-of_z}
use mir.Val.{SFits}
use Rattle.toml.specs.View.{view}
use Rattle.manifest.specs.Keys.{found}
use Rattle.manifest.specs.Tree.{whole_of}
use Rattle.manifest.specs.Faults.{fault_at}
use Rattle.manifest.specs.declared.key.Key.TheVariants.{Param}
use Rattle.manifest.proofs.Steps.{params_past, values_more}
use Rattle.manifest.proofs.params.read_params.Goals as goal

pub loop-i-preserved : goal.loop-i-preserved
loop-i-preserved c =
    let tree = view c.args.tree.now in
    let i = c.loop-i.i in
    let n = c.in_ok-count.count in
    let x = c.in_ok-whole.field-0 in
    let good : fault_at tree (Param i) ≡ None = search (rules, c.in_ok-whole.ensures.judged, c.item.ensures, c.get-list.ensures) in
    let read : x ≡ whole_of (found tree (Param i)) = search (rules, c.in_ok-whole.ensures.judged, c.item.ensures, c.get-list.ensures) in
    let fits : SFits w64 x = search rules in
    let same : to_z w64 (of_z w64 x) ≡ x = to_z-of_z w64 x fits in
    let pushed : c.push.new.self ≡ c.loop-i.params ++ x ∷ [] = rw (← same) (search (rules, c.in_ok-push.ensures)) in
    record {
      faults = c.loop-i.invariant.faults ∙ params_past tree i n c.loop-i-test.true good;
      values = c.loop-i.invariant.values ∙ values_more (λ k. whole_of (found tree (Param k))) i n c.loop-i.params c.push.new.self x
          c.loop-i-test.true read pushed;
      long = omega (arith, simp length-append at (ap length pushed), c.loop-i.invariant.long);
    }
