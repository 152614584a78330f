use Rattle.std.proofs.Common.{arith, rules, SFits, w64}
use Rattle.std.proofs.lemmas.Int.{to_z-of_z}
use Rattle.hints_on_files.proofs.LeastBad.{told, past, apart, last-apart}
use Rattle.hints_on_files.proofs.parameters.guard.Goals as goal

pub returns-in-0 : goal.returns-in-0
returns-in-0 c = λ params events low refused.
    rw c.in-0.is
    (told _ 0 _ (apart _ 1 0 _ (λ e. omega arith) (apart _ 2 0 _ (λ e. omega arith) (apart _ 3 0 _ (λ e. omega arith)
    (apart _ 4 0 _ (λ e. omega arith) (last-apart _ 5 0 (λ e. omega arith)))))) (rw c.in-0.is at refused))

pub returns-in-1 : goal.returns-in-1
returns-in-1 c = λ params events low refused.
    rw c.in-1.is
    (told _ 1 _ (apart _ 2 1 _ (λ e. omega arith) (apart _ 3 1 _ (λ e. omega arith) (apart _ 4 1 _ (λ e. omega arith)
    (last-apart _ 5 1 (λ e. omega arith))))) (past _ 0 1 _ (λ e. omega arith) (rw c.in-1.is at refused)))

pub returns-in-2 : goal.returns-in-2
returns-in-2 c = λ params events low refused.
    let fits : SFits w64 c.args.low = search rules in
    rw (c.in-2.is, to_z-of_z w64 c.args.low fits, low)
    (told _ 2 _ (apart _ 3 2 _ (λ e. omega arith) (apart _ 4 2 _ (λ e. omega arith) (last-apart _ 5 2 (λ e. omega arith))))
    (past _ 1 2 _ (λ e. omega arith) (past _ 0 2 _ (λ e. omega arith) (rw c.in-2.is at refused))))

pub returns-in-3 : goal.returns-in-3
returns-in-3 c = λ params events low refused.
    rw c.in-3.is
    (told _ 3 _ (apart _ 4 3 _ (λ e. omega arith) (last-apart _ 5 3 (λ e. omega arith)))
    (past _ 2 3 _ (λ e. omega arith) (past _ 1 3 _ (λ e. omega arith) (past _ 0 3 _ (λ e. omega arith)
    (rw c.in-3.is at refused)))))
