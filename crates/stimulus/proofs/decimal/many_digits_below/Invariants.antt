use Rattle.stimulus.proofs.Numbers.{HasRead}
use Rattle.stimulus.proofs.decimal.many_digits_below.Given as goal

abbrev pub invariant-loop-read : goal.invariant-loop-read
invariant-loop-read l = HasRead l.limit l.value l.read l.bytes
