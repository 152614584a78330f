use Rattle.std.proofs.Common.{◌≡◌, ◌-◌, length, drop, get_or, arith, rules, length-drop}
use Rattle.std.proofs.lemmas.List.{take_all}
use Rattle.record_grammar.specs.Read.{Got}
use Rattle.record_grammar.specs.Numbers.{number_from}
use Rattle.record_view.proofs.Numbers.{HasRead-opening, HasRead-room, HasRead-next, HasRead-bad, HasRead-short, HasRead-done, number_within}
use Rattle.record_view.proofs.number.number_at.Goals as goal

pub loop-read-init : goal.loop-read-init
loop-read-init c = HasRead-opening _ _ _ c.requires

pub returns-then-read-bytes-clause-gives : goal.returns-then-read-bytes-clause-gives
returns-then-read-bytes-clause-gives c = HasRead-short _ _ _ _ _ c.loop-read-test.true c.if-read-bytes.true c.loop-read.invariant

pub overflow_mul-value : goal.overflow_mul-value
overflow_mul-value c = omega (arith, HasRead-room _ _ _ _ 0 _ c.loop-read-test.true (omega arith) c.loop-read.invariant)

pub overflow_add-value : goal.overflow_add-value
overflow_add-value c =
    omega (
      arith,
      HasRead-room _ _ _ _ (get_or c.args.bytes.now c.loop-read.read 0) _ c.loop-read-test.true
          (omega (arith, c.type_inv.bytes c.loop-read.read)) c.loop-read.invariant,
    )

pub may_begin-requires : goal.may_begin-requires
may_begin-requires c =
    (HasRead-room _ _ _ _ (get_or c.args.bytes.now c.loop-read.read 0) _ c.loop-read-test.true
    (omega (arith, c.type_inv.bytes c.loop-read.read)) c.loop-read.invariant).1

pub returns-then-not-may_begin-clause-gives : goal.returns-then-not-may_begin-clause-gives
returns-then-not-may_begin-clause-gives c =
    HasRead-bad _ _ _ _ _ c.loop-read-test.true c.if-read-bytes.false (search rules) c.loop-read.invariant

pub loop-read-preserved : goal.loop-read-preserved
loop-read-preserved c =
    HasRead-next _ _ _ _ _ c.loop-read-test.true c.if-read-bytes.false (omega (arith, c.type_inv.bytes c.loop-read.read)) (search rules)
    c.loop-read.invariant

pub returns-clause-gives : goal.returns-clause-gives
returns-clause-gives c =
    rw (take_all (length c.args.bytes.now - c.args.width) (drop c.args.width c.args.bytes.now)
    (omega (arith, length-drop c.args.width c.args.bytes.now))) (HasRead-done _ _ _ _ _ c.loop-read-test.false c.loop-read.auto.read-end
    c.loop-read.invariant)

pub returns-clause-within : goal.returns-clause-within
returns-clause-within c positive =
    let e : number_from c.args.limits c.args.width 0 c.args.bytes.now
    ≡ Got (c.loop-read.value, drop c.args.width c.args.bytes.now) = HasRead-done _ _ _ _ _ c.loop-read-test.false c.loop-read.auto.read-end
    c.loop-read.invariant in
    number_within _ _ _ _ _ positive e
