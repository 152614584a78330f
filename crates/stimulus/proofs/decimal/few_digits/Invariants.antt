use Rattle.stimulus.proofs.Numbers.{HasDigits}
use Rattle.stimulus.proofs.decimal.few_digits.Given as goal

abbrev pub invariant-loop-read : goal.invariant-loop-read
invariant-loop-read l = HasDigits l.value l.read l.bytes
