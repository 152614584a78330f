use Rattle.std.proofs.Common.{arith, refl, ◌∙◌}
use Rattle.stimulus.proofs.Numbers.{HasRead-next, HasRead-large, HasRead-other, HasRead-done, HasRead-begin}
use Rattle.stimulus.proofs.decimal.many_digits_below.Goals as goal

pub loop-read-init : goal.loop-read-init
loop-read-init c = HasRead-begin c.args.limit c.args.bytes.now

pub returns-in_err-digit : goal.returns-in_err-digit
returns-in_err-digit c =
    c.from_residual.ensures ∙ HasRead-other c.args.limit c.loop-read.value c.loop-read.read _ c.args.bytes.now c.loop-read-test.true refl
    c.in_err-digit.ensures.none c.loop-read.invariant

pub returns-then-next-limit : goal.returns-then-next-limit
returns-then-next-limit c =
    let digit = c.in_ok-digit.ensures.some in
    HasRead-large c.args.limit c.loop-read.value c.loop-read.read _ c.args.bytes.now c.loop-read-test.true refl digit.0 digit.1
    (omega (arith, digit.2)) c.loop-read.invariant

pub loop-read-preserved : goal.loop-read-preserved
loop-read-preserved c =
    let digit = c.in_ok-digit.ensures.some in
    rw digit.2 (HasRead-next c.args.limit c.loop-read.value c.loop-read.read _ c.args.bytes.now c.requires.limit c.loop-read-test.true refl
    digit.0 digit.1 (omega (arith, digit.2)) c.loop-read.invariant)

pub returns : goal.returns
returns c =
    HasRead-done c.args.limit c.loop-read.value c.loop-read.read c.args.bytes.now c.requires.some (omega arith) c.loop-read.invariant
