use Rattle.std.proofs.Common.{rules, ◌≡◌, slice_set, length, Some, ap, sym, subst, arith, length-set}
use Rattle.std.proofs.lemmas.List.Elements.{All-pop}
use Rattle.job.specs.Passes.{block_in, blocks_in}
use Rattle.pass_in_blocks.specs.BlockAnswers.{IsRight, Shows}
use Rattle.pass_in_blocks.specs.ShownElements.{shown_in}
use Rattle.pass_in_blocks.specs.Steps.{ArePlaces}
use Rattle.pass_in_blocks.proofs.Places.{placed}
use Rattle.pass_in_blocks.proofs.pass_end.results_by_block.Goals as goal

pub put_at-requires : goal.put_at-requires
put_at-requires g c = let block = block_in g.J.Job.meaning c.args.pass.now in let n = blocks_in c.args.pass.now in
    let right = c.place.invariant.right in
    let q = All-pop (IsRight block n) c.place.results.items c.pop.new.self.items (Some c.in-Some.field-0) c.in-Some.ensures.items right in
    let size = c.place.invariant.sized in let inside = q.1.0 in omega arith

pub place-preserved : goal.place-preserved
place-preserved g c = let block = block_in g.J.Job.meaning c.args.pass.now in let n = blocks_in c.args.pass.now in
    let shown = shown_in g.J.Job.meaning c.args.pass.now in let right = c.place.invariant.right in
    let q = All-pop (IsRight block n) c.place.results.items c.pop.new.self.items (Some c.in-Some.field-0) c.in-Some.ensures.items right in
    let r = All-pop (λ x. Shows (shown x.block) x.answer) c.place.results.items c.pop.new.self.items (Some c.in-Some.field-0)
    c.in-Some.ensures.items c.place.invariant.shown in
    let size = c.place.invariant.sized in let inside = q.1.0 in
    let ps = c.place.places.items in let b = c.in-Some.field-0.block in let x = Some c.in-Some.field-0.answer in
    let now : c.put_at.new.places.items ≡ slice_set ps b x = search rules in record {
      sized = omega (arith, ap length now, length-set ps b x);
      places = subst (ArePlaces block shown) (sym now)
          (placed block shown ps b c.place.invariant.places (omega arith) x (q.1.1, r.1));
      right = q.0;
      shown = r.0;
    }
