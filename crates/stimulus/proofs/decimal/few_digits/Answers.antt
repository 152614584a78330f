use Rattle.std.proofs.Common.{arith, refl, ◌∙◌}
use Rattle.stimulus.proofs.Numbers.{HasDigits-next, HasDigits-fits, HasDigits-other, HasDigits-done}
use Rattle.stimulus.proofs.decimal.few_digits.Goals as goal

pub returns-in_err-digit : goal.returns-in_err-digit
returns-in_err-digit c =
    c.from_residual.ensures ∙ HasDigits-other c.loop-read.value c.loop-read.read _ c.args.bytes.now c.loop-read-test.true refl c.in_err-digit.ensures.none
    c.loop-read.invariant

pub overflow_mul-value : goal.overflow_mul-value
overflow_mul-value c =
    omega (arith, HasDigits-fits c.loop-read.value c.loop-read.read c.args.bytes.now c.loop-read-test.true c.requires c.loop-read.invariant)

pub overflow_add-value : goal.overflow_add-value
overflow_add-value c =
    omega (
      arith,
      HasDigits-fits c.loop-read.value c.loop-read.read c.args.bytes.now c.loop-read-test.true c.requires c.loop-read.invariant,
      c.in_ok-digit.ensures.some,
    )

pub loop-read-preserved : goal.loop-read-preserved
loop-read-preserved c =
    let digit = c.in_ok-digit.ensures.some in
    rw digit.2 (HasDigits-next c.loop-read.value c.loop-read.read _ c.args.bytes.now c.loop-read-test.true refl digit.0 digit.1
    c.loop-read.invariant)

pub returns : goal.returns
returns c = HasDigits-done c.loop-read.value c.loop-read.read c.args.bytes.now (omega arith) c.loop-read.invariant
