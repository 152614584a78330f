use Rattle.std.proofs.Common.{length, ap, arith, length-append}
use Rattle.det_values.proofs.Fronts.{none_short, none_long, none_cut, begins}
use Rattle.det_values.proofs.first_element.split_first_element.Goals as goal

pub returns-in-None-clause-none : goal.returns-in-None-clause-none
returns-in-None-clause-none c e rest h = none_short _ e rest c.in-None.ensures.none h

pub returns-then-len-gt64-clause-none : goal.returns-then-len-gt64-clause-none
returns-then-len-gt64-clause-none c e rest h = none_long _ _ _ e rest c.in-Some.ensures.some c.in-Some.ensures.small c.if-len-gt64.true h

pub returns-then-len-rest-clause-none : goal.returns-then-len-rest-clause-none
returns-then-len-rest-clause-none c e rest h = none_cut _ _ _ e rest c.in-Some.ensures.some c.in-Some.ensures.small
    (omega (arith, c.if-len-rest.true)) h

pub returns-in-None-split_element_draws-clause-none : goal.returns-in-None-split_element_draws-clause-none
returns-in-None-split_element_draws-clause-none c e rest h = none_cut _ _ _ e rest c.in-Some.ensures.some c.in-Some.ensures.small
    (omega (
      arith,
      c.in-None-split_element_draws.ensures.none,
      c.split_element_bytes.ensures.first,
      ap length c.split_element_bytes.ensures.parts,
      length-append c.split_element_bytes.result.0.now c.split_element_bytes.result.1.now,
    )) h

pub returns-in-Some-split_element_draws-clause-some : goal.returns-in-Some-split_element_draws-clause-some
returns-in-Some-split_element_draws-clause-some c = begins _ _ _ _ _ _ _ c.in-Some.ensures.some c.split_element_bytes.ensures.parts
    c.split_element_bytes.ensures.first
    c.if-len-gt64.false c.split_element_bytes.ensures.bytes c.in-Some-split_element_draws.ensures.some c.in-Some-split_element_draws.ensures.small
