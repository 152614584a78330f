-- A new table shows the machine's start.
use Rattle.std.proofs.Common.{◌≡◌, ℕ, ◌+◌, List, [], length, set, get_or, replicate, sym, refl, ◌∙◌, subst, ⊎_elim, arith, get_or-set_same}
use Rattle.std.proofs.Common.{get_or-set_other}
use mathlib.Core.Option.{some, some-ne-none}
use lib.ListN.{get_elem?, length-replicate}
use Rattle.atomic_table.proofs.Lists.{at_snoc}
use Rattle.worker_pool.specs.declared.pool_view.PoolView.{PoolView}
use Rattle.worker_pool.specs.Machine.{start}
use Rattle.worker_pool.specs.Moves.{begun}
use Rattle.worker_pool.specs.MachineOfTable.{Becomes}
use Rattle.worker_pool.specs.Views.{Stands, fresh, no_block}
use Rattle.worker_pool.proofs.Sharing.{begins, zeros}

pub begins_start : (blocks : ℕ) → Becomes blocks (begun blocks) start
begins_start blocks =
    let none : List ℕ = replicate (blocks + 1) 0 in
    let size : length none ≡ blocks + 1 = length-replicate (blocks + 1) 0 in
    let other : ((b : ℕ) → get_or (set none 0 no_block) (b + 1) 0 ≡ 0) =
    λ b. get_or-set_other none 0 (b + 1) no_block 0 (λ e. omega arith) ∙ zeros (blocks + 1) (b + 1) in (
      begins blocks (set none 0 no_block) refl,
      record {
        least = sym (get_or-set_same none 0 no_block 0 (omega arith));
        claimed = λ b lt. absurd (omega arith);
        counted = λ b one. let z : 0 ≡ 1 = sym (other b) ∙ one in absurd (omega arith);
        marks = λ id v b k at st. absurd (⊎_elim
            (λ (e : get_elem? {A = PoolView} [] id ≡ some v). absurd (some-ne-none v (sym e)))
            (λ (e : fresh 64 ≡ v). subst (λ (u : PoolView). Stands b k u.entries) (sym e) st)
            (at_snoc [] (fresh 64) v id at));
      },
    )
