use Rattle.std.proofs.Common.{◌≡◌, ℕ, ◌<◌, ◌≤◌, List, length, take, arith, length-take}
use Rattle.std.proofs.lemmas.List.Elements.{All-nil, All-same}
use Rattle.job.specs.Passes.{block_in, blocks_in}
use Rattle.pass_in_blocks.specs.BlockAnswers.{IsRight, Shows}
use Rattle.pass_in_blocks.specs.ShownElements.{shown_in}
use Rattle.worker_pool.proofs.crew.crew_pass.Goals as goal

few_helpers : {A : Type 0} (n : ℕ) (links filled : List A) (workers : ℕ) → length filled ≡ length links → length links < workers
    → workers ≤ 64 → length (take n filled) ≤ 63
few_helpers n links filled workers same few most = omega (arith, length-take n filled)

has_room : (found number : ℕ) → found ≡ number → found < 1000000000000 → number < 9223372036854775808
has_room found number is early = omega arith

pub shared_pass-requires : goal.shared_pass-requires
shared_pass-requires g c = record {
  few = few_helpers c.min-helpers.result c.args.links.now c.fill_benches.new.links c.args.workers c.fill_benches.auto.links
      c.requires.few c.requires.workers;
  room = has_room c.number.result c.args.keeper.now.number c.number.ensures c.if-number-ge-MOST_PASSES.false;
  ready = c.requires.ready;
}

pub finish_pass-requires : goal.finish_pass-requires
finish_pass-requires g c =
    let j = g.J.Job in
    let t = c.args.pass.now in record {
      ready = c.requires.ready;
      right = All-same (IsRight (block_in j.meaning t) (blocks_in t)) _ _ c.new.ensures.items
          (All-nil (IsRight (block_in j.meaning t) (blocks_in t)));
      shown = All-same (λ r. Shows (shown_in j.meaning t r.block) r.answer) _ _ c.new.ensures.items
          (All-nil (λ r. Shows (shown_in j.meaning t r.block) r.answer));
    }
