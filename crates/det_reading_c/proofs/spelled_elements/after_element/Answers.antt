use Rattle.det_values.specs.Spelling.{an_element}
use Rattle.det_reading_c.proofs.Elements.{drawn_one, drawn_two, no_draws, no_element}
use Rattle.det_reading_c.proofs.spelled_elements.after_element.Goals as goal

pub returns-in-Err : goal.returns-in-Err
returns-in-Err c = no_element c.args.format c.in-Err.field-0 c.args.bytes.now c.in-Err.ensures.gives

pub returns-in-One : goal.returns-in-One
returns-in-One c = (
  an_element c.in-Ok.field-0-0.now 0,
  rw c.in-One.is (drawn_one c.args.bytes.now c.in-Ok.field-0-0.now c.in-Ok.rest.now c.in-Ok.ensures.gives),
)

pub returns-in-Some : goal.returns-in-Some
returns-in-Some c = (
  an_element c.in-Ok.field-0-0.now c.in-Some.field-0-0,
  rw c.in-Two.is (drawn_two c.args.bytes.now c.in-Ok.field-0-0.now c.in-Ok.rest.now c.in-Some.after.now c.in-Some.field-0-0
      c.in-Ok.ensures.gives c.in-Some.ensures),
)

pub returns-in-None : goal.returns-in-None
returns-in-None c =
    rw c.in-Two.is (no_draws c.args.bytes.now c.in-Ok.field-0-0.now c.in-Ok.rest.now c.in-Ok.ensures.gives c.in-None.ensures)
