use Rattle.std.proofs.Common.{Result, Ok, Err, OnOk, IfErr, inl, inr}
use Rattle.worker_pool.proofs.link.serve_next.Goals as goal

by_result : {T E P R : Type 0} {Q : E → Type 0} (r : Result T E) → OnOk r P → IfErr r Q → (P → R) → ((e : E) → Q e → R) → R
by_result (Ok a) h k f g = f h
by_result (Err e) h k f g = g e k

pub returns-clause-served : goal.returns-clause-served
returns-clause-served g c there = (
  c.in-Ok.work,
  c.reply_to.result,
  c.in-Ok.ensures.ok.0,
  c.reply_to.ensures.ticket,
  by_result c.push.result c.push.ensures.ok c.push.ensures.full (λ x. inl x.0) (λ e x. inr (x.1, x.2)),
)
