use Rattle.std.proofs.Common.{arith}
use Rattle.hints_on_files.proofs.LeastBad.{told, past, apart, last-apart}
use Rattle.hints_on_files.proofs.parameters.cloud.Goals as goal

pub returns-in-0 : goal.returns-in-0
returns-in-0 c = λ params events refused.
    rw c.in-0.is
    (told _ 0 _ (apart _ 1 0 _ (λ e. omega arith) (apart _ 2 0 _ (λ e. omega arith) (apart _ 3 0 _ (λ e. omega arith)
    (last-apart _ 4 0 (λ e. omega arith))))) (rw c.in-0.is at refused))

pub returns-in-1 : goal.returns-in-1
returns-in-1 c = λ params events refused.
    rw c.in-1.is
    (told _ 1 _ (apart _ 2 1 _ (λ e. omega arith) (apart _ 3 1 _ (λ e. omega arith) (last-apart _ 4 1 (λ e. omega arith))))
    (past _ 0 1 _ (λ e. omega arith) (rw c.in-1.is at refused)))
